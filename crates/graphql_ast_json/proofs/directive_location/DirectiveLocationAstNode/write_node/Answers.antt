use Rattle.std.proofs.Common.{codes, subst}
use Rattle.serde_json.specs.View.{view}
use Rattle.ast_json_nodes.specs.code.NodeReading.{IsTextNode}
use Rattle.graphql_ast_json.proofs.general.OkValues.{one_then}
use Rattle.graphql_ast_json.proofs.directive_location.DirectiveLocationAstNode.write_node.Goals as goal

pub returns-clause-ok : goal.returns-clause-ok
returns-clause-ok c =
    one_then c.with_text.result c.with_text.ensures.ok (λ json is unknown.
    subst (λ text. IsTextNode unknown (codes "Name") text (view json)) c.name.ensures (is unknown))
