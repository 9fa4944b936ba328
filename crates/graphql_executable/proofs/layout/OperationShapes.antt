-- The layout of an operation in shorthand, and of one that is not.
use Rattle.std.proofs.Common.{◌≡◌, ◌&&◌, Bool, false, refl, true}
use Rattle.graphql_executable.specs.kinds.OperationDefinitions.{full_operation_kind, is_bare_query, operation_shape}
use Rattle.graphql_executable.specs.kinds.Selections.{selection_set_shape}

-- an operation in shorthand, and one that isn't
module _ (broken front : Bool) (operation : full_operation_kind.Tree) where
  pub shape_in_shorthand : (front && is_bare_query operation) ≡ true → operation_shape broken front operation ≡ selection_set_shape operation.body.selections
  unfolding operation_shape
  shape_in_shorthand is = rw is refl

  pub shape_in_full : (front && is_bare_query operation) ≡ false → operation_shape broken front operation ≡ operation_shape broken false operation
  unfolding operation_shape
  shape_in_full is = rw is refl
