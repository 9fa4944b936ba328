use Rattle.std.proofs.Common.{subst}
use Rattle.serde_json.specs.View.{view}
use Rattle.graphql_executable.specs.trees.ExecutableTrees.{selection_trees}
use Rattle.graphql_ast_json.specs.kinds.ExecutableJson.{IsSelectionSet}
use Rattle.graphql_ast_json.proofs.general.OkValues.{one_then}
use Rattle.graphql_ast_json.proofs.form.SelectionSetFormForm.write.Goals as goal

pub returns : goal.returns
returns c = record {
  ok = one_then c.write_selection_set.result c.write_selection_set.ensures.ok (λ json is unknown.
      subst (λ set. IsSelectionSet unknown (selection_trees set) (view json)) c.as_slice.ensures.value (is unknown));
  stands = c.write_selection_set.ensures.stands;
}
