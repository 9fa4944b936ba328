use Rattle.std.proofs.Common.{◌≡◌, arith}
use Rattle.std.proofs.lemmas.Grind.{common_steps}
use Rattle.std.proofs.lemmas.List.Elements.{same_from_all_zip}
use Rattle.graphql_values.proofs.kinds.WrappingLaws.{clone_tree}
use Rattle.graphql_type_system.proofs.laws.clones.clones_are_the_same.Goals as goal

pub returns-clause-field_definitions : goal.returns-clause-field_definitions
returns-clause-field_definitions c = λ a b same.
    let arguments = same_from_all_zip (λ n m. m ≡ n) a.arguments.items b.arguments.items same.1.1.0.0 (λ n m e. e) in
    let directives = same_from_all_zip (λ n m. m ≡ n) a.directives.0.items b.directives.0.items same.1.1.1.1.0 (λ n m e. e) in
    let type = clone_tree a.ty b.ty same.1.1.1.0 in
    grind (arith, common_steps, arguments, directives, type)
