use Rattle.std.proofs.Common.{codes, ◌∷◌, refl}
use Rattle.graphql_ast_json.specs.kinds.ExecutableJson.{variable_definition_members}
use Rattle.graphql_ast_json.proofs.nodes.DraftsAreNodes.{begun, ended, gained, given_member, is_node, stands}
use Rattle.graphql_ast_json.proofs.variable_definition.VariableDefinitionAstNode.write_node.Goals as goal

pub returns : goal.returns
returns c =
    let w =
    ended c.into_json.ensures (gained (gained (gained (gained (gained
    (begun c.in_ok-begin.ensures) c.in_ok-put_optional.ensures) c.in_ok-put.ensures) c.in_ok-put-2.ensures) c.in_ok-put_default_value.ensures)
    c.in_ok-put_directives.ensures) in record {
      ok = λ unknown. (
        is_node unknown (codes "description" ∷ variable_definition_members) w refl refl refl refl,
        given_member w c.in_ok-put_optional.ensures refl refl unknown,
        (
          given_member w c.in_ok-put.ensures refl refl unknown,
          given_member w c.in_ok-put-2.ensures refl refl unknown,
          given_member w c.in_ok-put_default_value.ensures refl refl unknown,
          (given_member w c.in_ok-put_directives.ensures refl refl unknown).1,
        ),
      );
      stands = stands w refl refl;
    }
