use Rattle.std.proofs.Common.{[], ◌∷◌, codes, refl}
use Rattle.graphql_ast_json.proofs.nodes.DraftsAreNodes.{begun, ended, gained, given_member, is_node, stands}
use Rattle.graphql_ast_json.proofs.write.NodeWriter.with_text.Goals as goal

pub returns : goal.returns
returns c =
    let w = ended c.into_json.ensures (gained (begun c.in_ok-begin.ensures) c.in_ok-put_text.ensures) in record {
      ok = λ unknown. (is_node unknown (codes "value" ∷ []) w refl refl refl refl, given_member w c.in_ok-put_text.ensures refl refl);
      stands = stands w refl refl;
    }
