use Rattle.std.proofs.Common.{[], ◌∷◌, ◌++◌, ◌∙◌, append-nil, arith, ap, length, length-append, sym}
use Rattle.graphql_text.specs.layout.Layout.{is_broken}
use Rattle.graphql_text.specs.code.Place.{mode_of}
use Rattle.graphql_text.specs.code.Stack.{stack_entries}
use Rattle.graphql_text.proofs.code.PendingStackSteps.{pending_items_push, pending_need_push}
use Rattle.graphql_text.proofs.code.WritingSteps.{beginning_none, beginning_stopped, beginning_then}
use Rattle.graphql_values.specs.kinds.Values.{value_shape}
use Rattle.graphql_values.specs.trees.ValueTrees.{value_tree}
use Rattle.graphql_values.specs.code.ValueWalk.{entry_items, entry_nesting, stack_items, stack_need}
use Rattle.graphql_values.proofs.layout.ValueShapes.{value_balanced}
use Rattle.graphql_values.proofs.value.print.ValueWrittenStackValueEntry.write_at.Goals as goal

pub loop-entry-init : goal.loop-entry-init
loop-entry-init g c =
    let b = is_broken (mode_of c.args.place.now.prefix) in
    let empty = c.requires.ready.entries in
    let shape = value_shape b (value_tree c.args.self.now) in
    let opened = c.write_opening.ensures.opened in
    let alone = sym (append-nil shape) ∙ ap (λ entries. shape ++ stack_items b entries) (sym empty) in
    record {
      prefix = c.write_opening.ensures.prefix;
      level = omega (arith, opened.levels, opened.count, ap length empty);
      need = omega (arith, opened.need, ap length empty, ap stack_need empty);
      room = c.write_opening.ensures.room;
      written = beginning_then g.met.O.Target.more (beginning_none g.met.O.Target.nothing) alone opened.written;
    }

pub write_entry-requires : goal.write_entry-requires
write_entry-requires g c =
    let i = c.loop-entry.invariant in
    let need = ap stack_need c.in-Some.ensures.entries in
    let pushed = pending_need_push entry_nesting (stack_entries c.pop.new.self) c.in-Some.entry in
    let count = ap length c.in-Some.ensures.entries ∙ length-append (stack_entries c.pop.new.self) (c.in-Some.entry ∷ []) in
    record {
      room = omega (arith, need, i.need, i.room, c.in-Some.ensures.room, c.requires.ready.room);
      fits = omega (arith, need, pushed, count, i.need, i.level, c.requires.fits);
      inside = omega (arith, count, i.level);
    }

pub loop-entry-preserved : goal.loop-entry-preserved
loop-entry-preserved g c =
    let b = is_broken (mode_of c.args.place.now.prefix) in
    let i = c.loop-entry.invariant in
    let goes = rw i.prefix at c.write_entry.ensures.written in
    let need = ap stack_need c.in-Some.ensures.entries in
    let count = ap length c.in-Some.ensures.entries ∙ length-append (stack_entries c.pop.new.self) (c.in-Some.entry ∷ []) in
    let parted = ap (stack_items b) c.in-Some.ensures.entries ∙ pending_items_push (entry_items b) (stack_entries c.pop.new.self) c.in-Some.entry in
    record {
      prefix = c.write_entry.ensures.prefix ∙ i.prefix;
      level = omega (arith, count, goes.levels, i.level);
      need = omega (arith, need, goes.need, i.need);
      room = omega (arith, c.in-Some.ensures.room, c.write_entry.ensures.room, i.room);
      written = beginning_then g.met.O.Target.more i.written parted goes.written;
    }

pub loop-entry-smaller : goal.loop-entry-smaller
loop-entry-smaller g c =
    let b = is_broken (mode_of c.args.place.now.prefix) in
    let i = c.loop-entry.invariant in
    let goes = rw i.prefix at c.write_entry.ensures.written in
    let parted = ap (stack_items b) c.in-Some.ensures.entries ∙ pending_items_push (entry_items b) (stack_entries c.pop.new.self) c.in-Some.entry in
    omega (arith, goes.less, simp length-append at (ap length parted))

pub returns-then-is_stopped-clause-written : goal.returns-then-is_stopped-clause-written
returns-then-is_stopped-clause-written g c =
    beginning_stopped g.met.O.Target.more c.loop-entry.invariant.written (λ x. g.met.O.Target.idle _ x (c.is_stopped.ensures.0 c.if-is_stopped.true))
    (value_balanced (is_broken (mode_of c.args.place.now.prefix)) (value_tree c.args.self.now))
