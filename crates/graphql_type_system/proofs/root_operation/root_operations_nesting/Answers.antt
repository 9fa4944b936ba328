use Rattle.std.proofs.Common.{◌≡◌, ◌≢◌, ◌≤◌, ◌∙◌, List, [], ◌∷◌, arith, length, refl, sym}
use Rattle.std.proofs.lemmas.Bool.{eq-eqb, eqb-true, false≢true}
use Rattle.std.proofs.lemmas.List.{nil_from_length}
use Rattle.graphql_text.specs.parts.Members.{members_nesting}
use Rattle.graphql_type_system.specs.kinds.Schemas.{RootOperationTree, root_operation_kind}
use Rattle.graphql_text.specs.trees.Leaves.{node_trees}
use Rattle.graphql_type_system.specs.trees.TypeSystemTrees.{root_operation_tree}
use Rattle.graphql_type_system.proofs.root_operation.root_operations_nesting.Goals as goal

one_at_most : (roots : List RootOperationTree) → members_nesting root_operation_kind roots ≤ 1
one_at_most [] = omega arith
one_at_most (root ∷ more) = omega (arith, one_at_most more)

nest : (roots : List _) → length roots ≢ 0 → 1 ≡ members_nesting root_operation_kind (node_trees root_operation_tree roots)
nest [] some = absurd (some refl)
nest (root ∷ more) some = omega (arith, one_at_most (node_trees root_operation_tree more))

pub returns-then-is_empty : goal.returns-then-is_empty
returns-then-is_empty c = rw (nil_from_length c.args.root_operations.now (eqb-true _ _ (sym c.if-is_empty.ensures))) refl

pub returns-else-is_empty : goal.returns-else-is_empty
returns-else-is_empty c = nest c.args.root_operations.now (λ none. false≢true (c.if-is_empty.ensures ∙ eq-eqb _ _ none))
