use Rattle.std.proofs.Common.{codes, ◌∷◌, [], refl, sym}
use Rattle.graphql_ast_json.proofs.nodes.DraftsAreNodes.{begun, ended, gained, given_member, is_node, stands}
use Rattle.graphql_ast_json.proofs.root_operation.Tuple2OperationTypeNamedTypeAstNode.write_node.Goals as goal

pub returns : goal.returns
returns c =
    let w =
    ended c.into_json.ensures (gained (gained (begun c.in_ok-begin.ensures) c.in_ok-put_text.ensures) c.in_ok-put.ensures) in record {
      ok = λ unknown. (
        is_node unknown (codes "operation" ∷ codes "type" ∷ []) w refl refl refl refl,
        rw (sym c.name.ensures) (given_member w c.in_ok-put_text.ensures refl refl),
        given_member w c.in_ok-put.ensures refl refl unknown,
      );
      stands = stands w refl refl;
    }
