use Rattle.std.proofs.Common.{[], ◌∷◌, ap, arith, refl}
use Rattle.std.proofs.lemmas.List.{nil_from_length}
use Rattle.graphql_text.specs.layout.Layout.{Lower, Soft, Word}
use Rattle.graphql_text.specs.code.Stack.{stack_entries}
use Rattle.graphql_text.specs.lexical.Tokens.{rbrace, Punctuation}
use Rattle.graphql_text.proofs.code.PendingStackSteps.{goes_on_by_end, goes_on_by_item, need_by_item, pending_need_push}
use Rattle.graphql_text.proofs.code.WritingSteps.{levels_lower, levels_then, writes_levels, writes_then}
use Rattle.graphql_executable.specs.trees.ExecutableTrees.{selection_trees}
use Rattle.graphql_executable.specs.code.SelectionWalk.{entry_nesting}
use Rattle.graphql_executable.specs.kinds.Selections.{selection_set_nesting}
use Rattle.graphql_executable.proofs.code.SelectionWalkSteps.{entry_end, entry_next}
use Rattle.graphql_executable.proofs.selection.print.write_next.Goals as goal

pub push-requires : goal.push-requires
push-requires g c = omega (arith, c.requires.room.selections, pending_need_push entry_nesting (stack_entries c.args.stacks.now.selections) c.args.entry)

pub open_selection-requires : goal.open_selection-requires
open_selection-requires g c =
    let nests = ap (λ selections. selection_set_nesting (selection_trees selections)) c.in-Some.ensures.cases.0 in
    let need =
    need_by_item entry_nesting _ (stack_entries c.args.stacks.now.selections) (stack_entries c.push.new.self) c.args.entry
    (record { rest = c.in-Some.rest }) nests c.push.ensures.entries in
    let room = c.requires.room in
    record {
      fits = omega (arith, nests, c.requires.fits);
      room = record {
        values = record { entries = room.values.entries; room = omega (arith, need, room.values.room) };
        types = room.types;
        selections = omega (arith, need, room.selections, c.push.ensures.room);
      };
    }

pub returns-in-Some-clause-written : goal.returns-in-Some-clause-written
returns-in-Some-clause-written g c =
    let split = c.in-Some.ensures.cases.0 in
    let nests = ap (λ selections. selection_set_nesting (selection_trees selections)) split in
    goes_on_by_item g.met.O.Target.nothing g.met.O.Target.more c.args.entry (record { rest = c.in-Some.rest })
    (stack_entries c.args.stacks.now.selections) (stack_entries c.push.new.self)
    (stack_entries c.open_selection.new.stacks.selections) (Soft ∷ [])
    (entry_next c.args.entry.rest.now c.in-Some.selection.now c.in-Some.rest.now split)
    (omega arith) nests c.push.ensures.entries c.write_soft.ensures c.open_selection.ensures.opened

pub returns-in-None-clause-written : goal.returns-in-None-clause-written
returns-in-None-clause-written g c =
    let none = nil_from_length c.args.entry.rest.now c.in-None.ensures.cases in
    let closed = writes_then g.met.O.Target.more c.write_soft-in-None.ensures (c.write_words.ensures.items _ _ (Word (Punctuation rbrace) ∷ []) refl) in
    goes_on_by_end g.met.O.Target.nothing g.met.O.Target.more c.args.entry (stack_entries c.args.stacks.now.selections)
    (Lower ∷ Soft ∷ Word (Punctuation rbrace) ∷ []) (entry_end c.args.entry.rest.now none) (omega arith)
    (levels_then g.met.O.Target.more (levels_lower g.met.O.Target.nothing (omega (arith, c.requires.inside))) (writes_levels closed))
    (omega (arith, c.requires.inside))
