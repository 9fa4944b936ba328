use Rattle.std.proofs.Common.{List, ℕ, Some, codes, ap, ◌∙◌}
use Rattle.graphql_values.specs.kinds.TypeReferences.{TypeTree}
use Rattle.serde_json.specs.Data.{string}
use Rattle.ast_json_nodes.specs.code.JsonNodes.{node_data}
use Rattle.ast_json_nodes.specs.code.Errors.{IsMemory}
use Rattle.ast_json_nodes.specs.code.NodeReading.{TellsKind}
use Rattle.graphql_ast_json.specs.code.TypeReading.{IsWithoutNull}
use Rattle.graphql_ast_json.specs.kinds.TypeJson.{IsTypeAround, IsTypeReference}
use Rattle.graphql_ast_json.specs.lemmas.Leaves.{IsOfKind}
use Rattle.ast_json_nodes.proofs.general.PassedErrors.{passed, turned}
use Rattle.graphql_ast_json.proofs.kinds.TypeJsonByKind.{around_also, only_list_type, only_non_null, type_tells, without_null_tells}
use Rattle.graphql_ast_json.proofs.types.read.+types.Goals as goal

pub type_of_kind-returns-in_err-item-in-ListType-clause-err : goal.type_of_kind-returns-in_err-item-in-ListType-clause-err
type_of_kind-returns-in_err-item-in-ListType-clause-err t c =
    let json = node_data c.args.node in
    let kind : IsOfKind (codes "ListType") json = c.requires.1.1.1 ∙ ap (λ (s : List ℕ). Some (string s)) c.in-ListType.is in
    let none : ¬ IsMemory c.in_err-item-in-ListType.field-0.0 → (tree : TypeTree) → ¬ IsTypeReference c.args.node.unknown tree json =
    λ m. only_list_type c.args.node.unknown json kind (c.in_err-item-in-ListType.ensures.err m) in
    passed _ _ _ none c.from_residual.ensures.1

pub type_of_kind-returns-in-NonNullType-clause-err : goal.type_of_kind-returns-in-NonNullType-clause-err
type_of_kind-returns-in-NonNullType-clause-err t c =
    let json = node_data c.args.node in
    let kind : IsOfKind (codes "NonNullType") json = c.requires.1.1.1 ∙ ap (λ (s : List ℕ). Some (string s)) c.in-NonNullType.is in
    turned c.non_null_type.result _ _ (λ error none m. only_non_null c.args.node.unknown json kind (none m)) c.non_null_type.ensures.err

pub list_item-returns-in_err-json-clause-err : goal.list_item-returns-in_err-json-clause-err
list_item-returns-in_err-json-clause-err t c =
    let json = node_data c.args.node in
    let unknown = c.args.node.unknown in
    let none : ¬ IsMemory c.in_err-json.field-0.0 → (item : TypeTree) → ¬ IsTypeAround unknown (codes "ListType") (IsTypeReference unknown item) json =
    λ m item is. c.in_err-json.ensures.err m
    (around_also unknown (codes "ListType") (IsTypeReference unknown item) (TellsKind unknown) json (type_tells unknown item) is) in
    passed _ _ _ none c.from_residual.ensures.1

pub non_null_type-returns-in_err-json-clause-err : goal.non_null_type-returns-in_err-json-clause-err
non_null_type-returns-in_err-json-clause-err t c =
    let json = node_data c.args.node in
    let unknown = c.args.node.unknown in
    let none : ¬ IsMemory c.in_err-json.field-0.0 → (tree : TypeTree) → ¬ IsTypeAround unknown (codes "NonNullType") (IsWithoutNull unknown tree) json =
    λ m tree is. c.in_err-json.ensures.err m
    (around_also unknown (codes "NonNullType") (IsWithoutNull unknown tree) (TellsKind unknown) json (without_null_tells unknown tree) is) in
    passed _ _ _ none c.from_residual.ensures.1
