use Rattle.std.proofs.Common.{[], ◌∷◌, ap, arith, le_refl, refl}
use Rattle.graphql_text.specs.layout.Layout.{Space}
use Rattle.graphql_text.proofs.general.SliceRest.{next_item}
use Rattle.graphql_text.proofs.code.KeptStacks.{kept_twice, kept_unused}
use Rattle.graphql_text.proofs.code.WritingSteps.{beginning_next, beginning_none, beginning_stopped, writes_levels, writes_then}
use Rattle.graphql_values.specs.kinds.Directives.{directives_nesting, directives_shape}
use Rattle.graphql_values.specs.trees.DirectiveTrees.{directive_node_trees}
use Rattle.graphql_values.proofs.layout.DirectiveShapes.{directives_balanced}
use Rattle.graphql_values.proofs.directive_list.print.write_directives.Goals as goal

pub loop-directive-init : goal.loop-directive-init
loop-directive-init g c = record { nesting = le_refl _; kept = kept_unused c.requires.ready; written = beginning_none g.met.O.Target.nothing }

pub returns-then-is_stopped-clause-written : goal.returns-then-is_stopped-clause-written
returns-then-is_stopped-clause-written g c =
    beginning_stopped g.met.O.Target.more c.loop-directive.invariant.written
    (λ x. g.met.O.Target.idle _ x (c.is_stopped.ensures.0 c.if-is_stopped.true))
    (directives_balanced (directive_node_trees c.args.directives.now))

pub loop-directive-preserved : goal.loop-directive-preserved
loop-directive-preserved g c =
    let more = g.met.O.Target.more in
    let i = c.loop-directive.invariant in
    let step = next_item c.args.directives.now c.loop-directive.directive-index c.directive-item.result c.loop-directive-test.true c.directive-item.is in
    let directive = rw c.deref.ensures at c.write_at.ensures.written in
    record {
      nesting = omega (arith, i.nesting, ap (λ directives. directives_nesting (directive_node_trees directives)) step);
      kept = kept_twice i.kept c.write_at.ensures.kept;
      written =
          beginning_next more i.written (ap (λ directives. directives_shape (directive_node_trees directives)) step)
          (writes_levels (writes_then more {xs = Space ∷ []} (c.write_words.ensures.items _ _ _ refl) directive));
    }
