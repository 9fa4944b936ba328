use Rattle.std.proofs.Common.{codes}
use Rattle.serde_json.specs.View.{view}
use Rattle.graphql_text.specs.trees.Leaves.{name_tree}
use Rattle.ast_json_nodes.specs.nodes.Nodes.{IsName}
use Rattle.graphql_ast_json.specs.lemmas.Leaves.{name_laws, never_null_of, there}
use Rattle.graphql_ast_json.proofs.general.OkValues.{both_then}
use Rattle.graphql_ast_json.proofs.nodes.GivenMembers.{member_is}
use Rattle.graphql_ast_json.proofs.value.write.write_variable.Goals as goal

pub returns-clause-ok : goal.returns-clause-ok
returns-clause-ok c =
    let name = name_tree c.args.name.now in
    let inner = view c.in_ok-inner.inner in
    let is = c.in_ok-inner.ensures.ok in
    both_then c.with_member.result c.with_member.ensures.node c.with_member.ensures.member (λ json node at unknown. (
      node unknown,
      member_is (codes "name") (view json) inner (IsName unknown name) at
          (there (IsName unknown) (never_null_of name_laws unknown) name inner (is unknown)) (is unknown),
    ))
