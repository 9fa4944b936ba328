use Rattle.std.proofs.Common.{◌∙◌, sym}
use Rattle.graphql_text.proofs.kinds.FlawsTold.{found_in_first}
use Rattle.graphql_values.proofs.directive_definition.DirectiveDefinition.find_ill_formed.Goals as goal

pub returns-then-is_some : goal.returns-then-is_some
returns-then-is_some c =
    found_in_first c.find_ill_formed_part-found.result _ _ (rw c.deref.ensures.value at c.find_ill_formed_part-found.ensures)
    (sym c.is_some.ensures ∙ c.if-is_some.true)
