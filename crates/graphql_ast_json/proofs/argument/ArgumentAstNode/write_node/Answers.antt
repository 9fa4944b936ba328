use Rattle.std.proofs.Common.{codes, ◌∷◌, [], refl}
use Rattle.graphql_ast_json.proofs.nodes.DraftsAreNodes.{begun, ended, gained, given_member, is_node, stands}
use Rattle.graphql_ast_json.proofs.argument.ArgumentAstNode.write_node.Goals as goal

pub returns : goal.returns
returns c =
    let w =
    ended c.into_json.ensures (gained (gained (begun c.in_ok-begin.ensures) c.in_ok-put.ensures) c.in_ok-put-2.ensures) in record {
      ok = λ unknown. (
        is_node unknown (codes "name" ∷ codes "value" ∷ []) w refl refl refl refl,
        given_member w c.in_ok-put.ensures refl refl unknown,
        given_member w c.in_ok-put-2.ensures refl refl unknown,
      );
      stands = stands w refl refl;
    }
