use Rattle.std.proofs.Common.{subst}
use Rattle.graphql_executable.specs.trees.ExecutableTrees.{selection_trees}
use Rattle.graphql_ast_json.specs.kinds.ExecutableJson.{IsSelectionSet}
use Rattle.json_text.proofs.ObjectTexts.{weaker}
use Rattle.ast_json_text.proofs.form.SelectionSetFormWriteForm.write_form.Goals as goal

pub returns : goal.returns
returns g c =
    weaker g.met.O.Target.more c.write_selection_set.ensures (λ json is unknown.
    subst (λ set. IsSelectionSet unknown (selection_trees set) json) c.as_slice.ensures.value (is unknown))
