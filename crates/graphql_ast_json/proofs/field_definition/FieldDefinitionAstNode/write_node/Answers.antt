use Rattle.std.proofs.Common.{codes, ◌∷◌, refl, sym}
use Rattle.graphql_ast_json.specs.kinds.TypeSystemJson.{field_members}
use Rattle.graphql_ast_json.proofs.nodes.DraftsAreNodes.{begun, ended, gained, given_member, is_node, stands}
use Rattle.graphql_ast_json.proofs.field_definition.FieldDefinitionAstNode.write_node.Goals as goal

pub returns : goal.returns
returns c =
    let w =
    ended c.into_json.ensures (gained (gained (gained (gained (gained
    (begun c.in_ok-begin.ensures) c.in_ok-put_optional.ensures) c.in_ok-put.ensures) c.in_ok-put_parameters.ensures) c.in_ok-put-2.ensures)
    c.in_ok-put_directives.ensures) in record {
      ok = λ unknown. (
        is_node unknown (codes "description" ∷ field_members) w refl refl refl refl,
        given_member w c.in_ok-put_optional.ensures refl refl unknown,
        (
          given_member w c.in_ok-put.ensures refl refl unknown,
          rw (sym c.deref-2.ensures.value) (given_member w c.in_ok-put_parameters.ensures refl refl unknown).1,
          given_member w c.in_ok-put-2.ensures refl refl unknown,
          (given_member w c.in_ok-put_directives.ensures refl refl unknown).1,
        ),
      );
      stands = stands w refl refl;
    }
