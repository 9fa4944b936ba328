use Rattle.std.proofs.Common.{◌∙◌, sym}
use Rattle.graphql_text.proofs.kinds.FlawsTold.{found_in_second}
use Rattle.graphql_type_system.proofs.input_object_type.InputObjectTypeExtension.find_ill_formed.Goals as goal

pub returns : goal.returns
returns c =
    found_in_second c.ill_formed_unless-found.result c.find_ill_formed_part.result _ _
    (rw c.adds_something-adds.ensures at c.ill_formed_unless-found.ensures) (sym c.is_some.ensures ∙ c.if-is_some.false)
    (found_in_second c.find_ill_formed_directive-found.result c.find_ill_formed_part.result _ _ c.find_ill_formed_directive-found.ensures
    (sym c.is_some-2.ensures ∙ c.if-is_some-2.false) (rw c.deref.ensures.value at c.find_ill_formed_part.ensures))
