use Rattle.std.proofs.Common.{[], refl}
use Rattle.graphql_ast_json.proofs.nodes.DraftsAreNodes.{begun, ended, is_node, stands}
use Rattle.graphql_ast_json.proofs.write.NodeWriter.with_none.Goals as goal

pub returns : goal.returns
returns c =
    let w = ended c.into_json.ensures (begun c.in_ok-begin.ensures) in record {
      node = λ unknown. is_node unknown [] w refl refl refl refl;
      stands = stands w refl refl;
    }
