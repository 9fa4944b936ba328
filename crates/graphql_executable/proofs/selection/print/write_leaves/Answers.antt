use Rattle.std.proofs.Common.{ap, arith, le_refl, refl}
use Rattle.graphql_text.proofs.code.KeptStacks.{kept_twice, kept_unused}
use Rattle.graphql_text.proofs.code.WritingSteps.{beginning_next, beginning_none, writes_levels}
use Rattle.graphql_executable.specs.trees.ExecutableTrees.{selection_trees}
use Rattle.graphql_executable.specs.kinds.Selections.{selection_set_nesting}
use Rattle.graphql_executable.proofs.code.SelectionWalkSteps.{entry_next}
use Rattle.graphql_executable.proofs.selection.print.write_leaves.Goals as goal

pub loop-selection-init : goal.loop-selection-init
loop-selection-init g c = record { nesting = le_refl _; kept = kept_unused c.requires.ready; written = beginning_none g.met.O.Target.nothing }

pub write_leaf-requires-clause-ready : goal.write_leaf-requires-clause-ready
write_leaf-requires-clause-ready g c =
    let i = c.loop-selection.invariant in
    let nests = ap (λ selections. selection_set_nesting (selection_trees selections)) c.in-Some.ensures.cases.0 in
    record {
      fits = omega (arith, nests, i.nesting, c.requires.fits);
      ready = record { entries = i.kept.entries; room = omega (arith, nests, i.nesting, i.kept.room, c.requires.ready.room) };
    }

pub loop-selection-preserved : goal.loop-selection-preserved
loop-selection-preserved g c =
    let more = g.met.O.Target.more in
    let i = c.loop-selection.invariant in
    let split = c.in-Some.ensures.cases.0 in
    let soft =
    beginning_next more i.written (entry_next c.loop-selection.rest.now c.in-Some.selection.now c.in-Some.more.now split)
    (writes_levels c.write_soft.ensures) in
    record {
      nesting = omega (arith, i.nesting, ap (λ selections. selection_set_nesting (selection_trees selections)) split);
      kept = kept_twice i.kept c.write_leaf.ensures.kept;
      written = beginning_next more soft refl (writes_levels c.write_leaf.ensures.written);
    }
