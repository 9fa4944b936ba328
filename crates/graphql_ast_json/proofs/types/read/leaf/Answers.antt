use Rattle.std.proofs.Common.{List, ℕ, Some, codes, ap, ◌∙◌}
use Rattle.graphql_values.specs.kinds.TypeReferences.{TypeTree}
use Rattle.serde_json.specs.Data.{string}
use Rattle.ast_json_nodes.specs.code.JsonNodes.{node_data}
use Rattle.ast_json_nodes.specs.code.Errors.{IsMemory}
use Rattle.graphql_ast_json.specs.kinds.TypeJson.{IsTypeReference}
use Rattle.graphql_ast_json.specs.lemmas.Leaves.{IsOfKind}
use Rattle.ast_json_nodes.proofs.general.PassedErrors.{passed}
use Rattle.graphql_ast_json.proofs.kinds.TypeJsonByKind.{only_named, other_kind}
use Rattle.graphql_ast_json.proofs.types.read.leaf.Goals as goal

pub returns-in_err-read_named_type-in-NamedType-clause-err : goal.returns-in_err-read_named_type-in-NamedType-clause-err
returns-in_err-read_named_type-in-NamedType-clause-err c =
    let json = node_data c.args.node in
    let kind : IsOfKind (codes "NamedType") json = c.requires.kind ∙ ap (λ (s : List ℕ). Some (string s)) c.in-NamedType.is in
    let none : ¬ IsMemory c.in_err-read_named_type-in-NamedType.field-0.0 → (tree : TypeTree) → ¬ IsTypeReference c.args.node.unknown tree json =
    λ m. only_named c.args.node.unknown json kind (c.in_err-read_named_type-in-NamedType.ensures.err m) in
    passed _ _ _ none c.from_residual.ensures.1

pub returns-in_default-clause-err : goal.returns-in_default-clause-err
returns-in_default-clause-err c refused =
    other_kind c.args.node.unknown (node_data c.args.node) c.args.kind.now c.requires.kind c.in_default.not-NamedType c.requires.list c.requires.non_null
