use Rattle.std.proofs.Common.{◌∙◌, sym}
use Rattle.graphql_text.proofs.kinds.FlawsTold.{found_in_second}
use Rattle.graphql_values.proofs.input_value_definition.InputValueDefinition.find_ill_formed.Goals as goal

pub returns : goal.returns
returns c =
    found_in_second c.find_ill_formed_default_value-found.result c.find_ill_formed_directive.result _ _
    (rw c.as_ref.ensures.value at c.find_ill_formed_default_value-found.ensures) (sym c.is_some.ensures ∙ c.if-is_some.false)
    c.find_ill_formed_directive.ensures
