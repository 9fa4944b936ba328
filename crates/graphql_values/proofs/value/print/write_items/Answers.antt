use Rattle.std.proofs.Common.{ap, arith, refl, le_refl}
use Rattle.graphql_text.specs.code.Groups.{comma_rest}
use Rattle.graphql_text.specs.layout.Layout.{is_broken}
use Rattle.graphql_text.specs.code.Place.{mode_of}
use Rattle.graphql_text.specs.code.Stack.{stack_entries}
use Rattle.graphql_text.specs.lexical.Tokens.{rbracket}
use Rattle.graphql_text.proofs.code.PendingStackSteps.{goes_on_after}
use Rattle.graphql_text.proofs.code.WritingSteps.{beginning_none, beginning_next, writes_levels}
use Rattle.graphql_values.specs.kinds.Values.{values_nesting, values_shapes}
use Rattle.graphql_values.specs.trees.ValueTrees.{value_trees}
use Rattle.graphql_values.specs.declared.value.print.ValueEntry.TheVariants.{Items}
use Rattle.graphql_values.proofs.code.ValueWalkSteps.{can_go_on_less}
use Rattle.graphql_values.proofs.value.print.write_items.Goals as goal

pub loop-item-init : goal.loop-item-init
loop-item-init g c = record { nesting = le_refl _; written = beginning_none g.met.O.Target.nothing }

pub loop-item-preserved : goal.loop-item-preserved
loop-item-preserved g c =
    let more = g.met.O.Target.more in
    let broken = is_broken (mode_of c.args.here.now.prefix) in
    let i = c.loop-item.invariant in
    let split = c.in-Some.ensures.cases.0 in
    let leaf = rw c.deref-in-Some.ensures at c.write_leaf.ensures in
    let lead =
    beginning_next more i.written
    (ap (λ items. comma_rest rbracket broken c.loop-item.first (values_shapes broken (value_trees items))) split)
    (writes_levels c.write_comma_lead.ensures) in
    record {
      nesting = omega (arith, i.nesting, ap (λ items. values_nesting (value_trees items)) split);
      written = beginning_next more lead refl (writes_levels leaf);
    }

pub write_next_item-requires-clause-goes_on : goal.write_next_item-requires-clause-goes_on
write_next_item-requires-clause-goes_on g c =
    can_go_on_less (stack_entries c.args.stack.now) (Items c.args.items c.args.is_first)
    (Items c.loop-item.rest c.loop-item.first) c.loop-item.invariant.nesting c.requires

pub returns-clause-written : goal.returns-clause-written
returns-clause-written g c =
    goes_on_after g.met.O.Target.nothing g.met.O.Target.more (Items c.args.items c.args.is_first) (Items c.loop-item.rest c.loop-item.first)
    (stack_entries c.args.stack.now)
    (stack_entries c.write_next_item.new.stack) c.loop-item.invariant.nesting c.loop-item.invariant.written
    c.write_next_item.ensures.written
