use Rattle.std.proofs.Common.{codes, ◌∷◌, [], refl, sym}
use Rattle.graphql_ast_json.proofs.nodes.DraftsAreNodes.{begun, ended, gained, given_member, is_node, stands}
use Rattle.graphql_ast_json.proofs.document.DocumentAstNode.write_node.Goals as goal

pub returns : goal.returns
returns c =
    let w =
    ended c.into_json.ensures (gained (begun c.in_ok-begin.ensures) c.in_ok-put_list.ensures) in record {
      ok = λ unknown. (
        is_node unknown (codes "definitions" ∷ []) w refl refl refl refl,
        rw (sym c.deref.ensures.value) (given_member w c.in_ok-put_list.ensures refl refl unknown).0,
      );
      stands = stands w refl refl;
    }
