use Rattle.std.proofs.Common.{ap, codes, sym, ◌∙◌, subst}
use Rattle.serde_json.specs.View.{view}
use Rattle.graphql_text.specs.trees.Leaves.{name_tree}
use Rattle.graphql_values.specs.kinds.TypeReferences.{named_type, list_type}
use Rattle.graphql_values.specs.trees.TypeTrees.{type_tree}
use Rattle.ast_json_nodes.specs.declared.read.Unknown.{Unknown}
use Rattle.graphql_ast_json.specs.kinds.TypeJson.{IsNamedType, IsTypeAround, IsTypeReference}
use Rattle.graphql_ast_json.specs.lemmas.Leaves.{never_null_of, there}
use Rattle.graphql_ast_json.specs.lemmas.TypeNodes.{type_laws}
use Rattle.graphql_ast_json.proofs.general.OkValues.{both_then}
use Rattle.graphql_ast_json.proofs.nodes.GivenMembers.{member_is}
use Rattle.graphql_ast_json.proofs.trees.ValueAndTypeTrees.{list_type_tree, non_null_list_type_tree, non_null_named_type_tree}
use Rattle.graphql_ast_json.proofs.types.write.+write_type.Goals as goal

pub returns-in_ok-inner-in-NonNullNamed-clause-ok : goal.returns-in_ok-inner-in-NonNullNamed-clause-ok
returns-in_ok-inner-in-NonNullNamed-clause-ok t c =
    let inner = view c.in_ok-inner-in-NonNullNamed.inner in
    let name = c.in-NonNullNamed.name in
    let is = c.in_ok-inner-in-NonNullNamed.ensures.ok in
    both_then c.with_member.result c.with_member.ensures.node c.with_member.ensures.member (λ json node at unknown.
    subst (λ tree. IsTypeReference unknown tree (view json)) (sym (ap type_tree c.in-NonNullNamed.is ∙ non_null_named_type_tree name)) (
      node unknown,
      member_is (codes "type") (view json) inner (IsNamedType unknown (name_tree name)) at
          (there (IsTypeReference unknown) (never_null_of type_laws unknown) (named_type (name_tree name)) inner (is unknown)) (is unknown),
    ))

pub returns-in_ok-inner-in-List-clause-ok : goal.returns-in_ok-inner-in-List-clause-ok
returns-in_ok-inner-in-List-clause-ok t c =
    let item = type_tree c.in-List.item.value in
    let inner = view c.in_ok-inner-in-List.inner in
    let is : (unknown : Unknown) → IsTypeReference unknown item inner =
    subst (λ ty. (unknown : Unknown) → IsTypeReference unknown (type_tree ty) inner) c.deref.ensures c.in_ok-inner-in-List.ensures.ok in
    both_then c.with_member-in-List.result c.with_member-in-List.ensures.node c.with_member-in-List.ensures.member (λ json node at unknown.
    subst (λ tree. IsTypeReference unknown tree (view json)) (sym (ap type_tree c.in-List.is ∙ list_type_tree c.in-List.item)) (
      node unknown,
      member_is (codes "type") (view json) inner (IsTypeReference unknown item) at
          (there (IsTypeReference unknown) (never_null_of type_laws unknown) item inner (is unknown)) (is unknown),
    ))

pub returns-in_ok-list-in-NonNullList-clause-ok : goal.returns-in_ok-list-in-NonNullList-clause-ok
returns-in_ok-list-in-NonNullList-clause-ok t c =
    let item = type_tree c.in-NonNullList.item.value in
    let inner = view c.in_ok-inner-in-NonNullList.inner in
    let list = view c.in_ok-list-in-NonNullList.list in
    let is : (unknown : Unknown) → IsTypeReference unknown item inner =
    subst (λ ty. (unknown : Unknown) → IsTypeReference unknown (type_tree ty) inner) c.deref-in-NonNullList.ensures
    c.in_ok-inner-in-NonNullList.ensures.ok in
    let made = c.in_ok-list-in-NonNullList.ensures in
    let is_list : (unknown : Unknown) → IsTypeAround unknown (codes "ListType") (IsTypeReference unknown item) list =
    λ unknown. (
      made.node unknown,
      member_is (codes "type") list inner (IsTypeReference unknown item) made.member
          (there (IsTypeReference unknown) (never_null_of type_laws unknown) item inner (is unknown)) (is unknown),
    ) in
    both_then c.with_member-in-NonNullList-2.result c.with_member-in-NonNullList-2.ensures.node
    c.with_member-in-NonNullList-2.ensures.member
    (λ json node at unknown.
    subst (λ tree. IsTypeReference unknown tree (view json)) (sym (ap type_tree c.in-NonNullList.is ∙ non_null_list_type_tree c.in-NonNullList.item)) (
      node unknown,
      member_is (codes "type") (view json) list (IsTypeAround unknown (codes "ListType") (IsTypeReference unknown item)) at
          (there (IsTypeReference unknown) (never_null_of type_laws unknown) (list_type item) list (is_list unknown)) (is_list unknown),
    ))
