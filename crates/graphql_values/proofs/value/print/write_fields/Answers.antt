use Rattle.graphql_text.specs.code.Stack.{stack_entries}
use Rattle.graphql_text.proofs.code.PendingStackSteps.{goes_on_after}
use Rattle.graphql_values.specs.declared.value.print.ValueEntry.TheVariants.{Fields}
use Rattle.graphql_values.proofs.code.ValueWalkSteps.{can_go_on_less}
use Rattle.graphql_values.proofs.value.print.write_fields.Goals as goal

pub write_next_field-requires-clause-goes_on : goal.write_next_field-requires-clause-goes_on
write_next_field-requires-clause-goes_on g c =
    can_go_on_less (stack_entries c.args.stack.now) (Fields c.args.fields c.args.is_first)
    (Fields c.write_leaf_fields-first.result.0 c.write_leaf_fields-first.result.1) c.write_leaf_fields-first.ensures.nesting c.requires

pub returns-clause-written : goal.returns-clause-written
returns-clause-written g c =
    goes_on_after g.met.O.Target.nothing g.met.O.Target.more (Fields c.args.fields c.args.is_first)
    (Fields c.write_leaf_fields-first.result.0 c.write_leaf_fields-first.result.1) (stack_entries c.args.stack.now)
    (stack_entries c.write_next_field.new.stack) c.write_leaf_fields-first.ensures.nesting c.write_leaf_fields-first.ensures.written
    c.write_next_field.ensures.written
