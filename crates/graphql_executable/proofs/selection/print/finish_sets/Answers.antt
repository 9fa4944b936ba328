use Rattle.std.proofs.Common.{[], ◌∷◌, ◌∙◌, ap, arith, le_refl, length, length-append, refl}
use Rattle.graphql_text.specs.code.Stack.{stack_entries}
use Rattle.graphql_text.proofs.code.PendingStackSteps.{pending_items_push, pending_need_push}
use Rattle.graphql_text.proofs.code.KeptStacks.{kept_unused}
use Rattle.graphql_text.proofs.code.WritingSteps.{beginning_none, beginning_stopped, beginning_then}
use Rattle.graphql_values.proofs.code.DefinitionStacksKept.{stacks_twice}
use Rattle.graphql_executable.specs.code.SelectionWalk.{entry_items, entry_nesting, stack_items, stack_need}
use Rattle.graphql_executable.proofs.code.SelectionWalkSteps.{finished}
use Rattle.graphql_executable.proofs.selection.print.finish_sets.Goals as goal

pub loop-entry-init : goal.loop-entry-init
loop-entry-init g c = record {
  prefix = refl;
  level = refl;
  need = le_refl _;
  kept = record { definitions = record { values = kept_unused c.requires.room.values; types = kept_unused c.requires.room.types }; selections = le_refl _ };
  written = beginning_none g.met.O.Target.nothing;
}

pub write_entry-requires : goal.write_entry-requires
write_entry-requires g c =
    let i = c.loop-entry.invariant in
    let entries = stack_entries c.pop.new.self in
    let need = ap stack_need c.in-Some.ensures.entries in
    let pushed = pending_need_push entry_nesting entries c.in-Some.entry in
    let count = ap length c.in-Some.ensures.entries ∙ length-append entries (c.in-Some.entry ∷ []) in
    let room = c.requires.room in
    record {
      room = record {
        values = record { entries = i.kept.definitions.values.entries; room = omega (arith, need, i.need, i.kept.definitions.values.room, room.values.room) };
        types = record { entries = i.kept.definitions.types.entries; room = omega arith };
        selections = omega (arith, need, i.need, i.kept.selections, c.in-Some.ensures.room, room.selections);
      };
      fits = omega (arith, need, pushed, count, i.need, i.level, c.requires.fits);
      inside = omega (arith, count, i.level, c.requires.inside);
    }

pub loop-entry-preserved : goal.loop-entry-preserved
loop-entry-preserved g c =
    let i = c.loop-entry.invariant in
    let entries = stack_entries c.pop.new.self in
    let goes = rw i.prefix at c.write_entry.ensures.written in
    let need = ap stack_need c.in-Some.ensures.entries in
    let count = ap length c.in-Some.ensures.entries ∙ length-append entries (c.in-Some.entry ∷ []) in
    let parted = ap stack_items c.in-Some.ensures.entries ∙ pending_items_push entry_items entries c.in-Some.entry in
    let kept = c.write_entry.ensures.kept in
    record {
      prefix = c.write_entry.ensures.prefix ∙ i.prefix;
      level = omega (arith, count, goes.levels, i.level);
      need = omega (arith, need, goes.need, i.need);
      kept = record {
        definitions = stacks_twice i.kept.definitions kept.definitions;
        selections = omega (arith, c.in-Some.ensures.room, kept.selections, i.kept.selections);
      };
      written = beginning_then g.met.O.Target.more i.written parted goes.written;
    }

pub loop-entry-smaller : goal.loop-entry-smaller
loop-entry-smaller g c =
    let i = c.loop-entry.invariant in
    let goes = rw i.prefix at c.write_entry.ensures.written in
    let parted = ap stack_items c.in-Some.ensures.entries ∙ pending_items_push entry_items (stack_entries c.pop.new.self) c.in-Some.entry in
    omega (arith, goes.less, simp length-append at (ap length parted))

pub returns-then-is_stopped-clause-finished : goal.returns-then-is_stopped-clause-finished
returns-then-is_stopped-clause-finished g c = λ first level all begun balanced.
    beginning_stopped g.met.O.Target.more (beginning_then g.met.O.Target.more begun refl c.loop-entry.invariant.written)
    (λ x. g.met.O.Target.idle _ x (c.is_stopped.ensures.0 c.if-is_stopped.true)) balanced

pub returns-clause-finished : goal.returns-clause-finished
returns-clause-finished g c = λ first level all begun balanced.
    let none = ap stack_items c.in_default.ensures.entries.0 in
    finished (beginning_then g.met.O.Target.more begun refl c.loop-entry.invariant.written) none balanced
