use Rattle.std.proofs.Common.{codes, ◌∷◌, [], refl, sym, subst}
use Rattle.ast_json_nodes.specs.nodes.Nodes.{IsFlag}
use Rattle.graphql_ast_json.proofs.nodes.DraftsAreNodes.{begun, ended, gained, given_member, is_node, stands}
use Rattle.graphql_ast_json.proofs.directive_definition.DirectiveDefinitionAstNode.write_node.Goals as goal

pub returns : goal.returns
returns c =
    let w =
    ended c.into_json.ensures (gained (gained (gained (gained (gained
    (begun c.in_ok-begin.ensures) c.in_ok-put_optional.ensures) c.in_ok-put.ensures) c.in_ok-put_parameters.ensures) c.in_ok-put_boolean.ensures)
    c.in_ok-put_list.ensures) in record {
      ok = λ unknown. (
        is_node unknown (codes "description" ∷ codes "name" ∷ codes "arguments" ∷ codes "repeatable" ∷ codes "locations" ∷ []) w refl refl refl refl,
        given_member w c.in_ok-put_optional.ensures refl refl unknown,
        given_member w c.in_ok-put.ensures refl refl unknown,
        rw (sym c.deref-2.ensures.value) (given_member w c.in_ok-put_parameters.ensures refl refl unknown).1,
        subst (IsFlag c.args.self.now.repeatable) (sym (given_member w c.in_ok-put_boolean.ensures refl refl)) refl,
        rw (sym c.deref-3.ensures.value) (given_member w c.in_ok-put_list.ensures refl refl unknown).0,
      );
      stands = stands w refl refl;
    }
