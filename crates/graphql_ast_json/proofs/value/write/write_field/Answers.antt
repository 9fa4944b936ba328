use Rattle.std.proofs.Common.{[], ◌∷◌, codes, refl}
use Rattle.graphql_ast_json.proofs.nodes.DraftsAreNodes.{begun, ended, found, gained, gained_json, given_member, is_node}
use Rattle.graphql_ast_json.proofs.value.write.write_field.Goals as goal

pub returns : goal.returns
returns c =
    let w = ended c.into_json.ensures (gained_json (gained (begun c.in_ok-begin.ensures) c.in_ok-put.ensures) c.in_ok-put_json.ensures.ok) in
    record {
      node = λ unknown. is_node unknown (codes "name" ∷ codes "value" ∷ []) w refl refl refl refl;
      name = λ unknown. given_member w c.in_ok-put.ensures refl refl unknown;
      value = found _ _ _ _ w refl (codes "value");
    }
