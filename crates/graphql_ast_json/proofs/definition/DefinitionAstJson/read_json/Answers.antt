use Rattle.std.proofs.Common.{◌≡◌, ℕ, List, Some, codes, ap, ◌∙◌}
use Rattle.serde_json.specs.Data.{string}
use Rattle.graphql_ast.specs.Definitions as name
use Rattle.graphql_ast.specs.Definitions.{DefinitionName, DefinitionTree}
use Rattle.ast_json_nodes.specs.code.Errors.{IsMemory}
use Rattle.ast_json_nodes.specs.code.JsonNodes.{node_data}
use Rattle.graphql_ast_json.specs.kinds.DocumentJson.{IsAnyDefinition}
use Rattle.graphql_ast_json.specs.lemmas.DocumentNodes.{named_node, node_kind, only_named}
use Rattle.graphql_ast_json.specs.lemmas.Leaves.{IsOfKind, same_string}
use Rattle.ast_json_nodes.proofs.general.PassedErrors.{passed}
use Rattle.graphql_ast_json.proofs.definition.DefinitionAstJson.read_json.Goals as goal

pub returns-in_err-read_json-in-OperationDefinition-clause-err : goal.returns-in_err-read_json-in-OperationDefinition-clause-err
returns-in_err-read_json-in-OperationDefinition-clause-err c =
    let json = node_data c.args.node in
    let kind : IsOfKind (codes "OperationDefinition") json = c.in_ok-kind.ensures.ok ∙ ap (λ (s : List ℕ). Some (string s)) c.in-OperationDefinition.is in
    let none : ¬ IsMemory c.in_err-read_json-in-OperationDefinition.field-0.0 → (tree : DefinitionTree) → ¬ IsAnyDefinition c.args.node.unknown tree json =
    λ m. only_named c.args.node.unknown name.OperationDefinition json kind (c.in_err-read_json-in-OperationDefinition.ensures.err m) in
    passed _ _ _ none c.from_residual-in_err-read_json-in-OperationDefinition.ensures.1

pub returns-in_err-read_json-in-FragmentDefinition-clause-err : goal.returns-in_err-read_json-in-FragmentDefinition-clause-err
returns-in_err-read_json-in-FragmentDefinition-clause-err c =
    let json = node_data c.args.node in
    let kind : IsOfKind (codes "FragmentDefinition") json = c.in_ok-kind.ensures.ok ∙ ap (λ (s : List ℕ). Some (string s)) c.in-FragmentDefinition.is in
    let none : ¬ IsMemory c.in_err-read_json-in-FragmentDefinition.field-0.0 → (tree : DefinitionTree) → ¬ IsAnyDefinition c.args.node.unknown tree json =
    λ m. only_named c.args.node.unknown name.FragmentDefinition json kind (c.in_err-read_json-in-FragmentDefinition.ensures.err m) in
    passed _ _ _ none c.from_residual-in_err-read_json-in-FragmentDefinition.ensures.1

pub returns-in_err-read_json-in-DirectiveDefinition-clause-err : goal.returns-in_err-read_json-in-DirectiveDefinition-clause-err
returns-in_err-read_json-in-DirectiveDefinition-clause-err c =
    let json = node_data c.args.node in
    let kind : IsOfKind (codes "DirectiveDefinition") json = c.in_ok-kind.ensures.ok ∙ ap (λ (s : List ℕ). Some (string s)) c.in-DirectiveDefinition.is in
    let none : ¬ IsMemory c.in_err-read_json-in-DirectiveDefinition.field-0.0 → (tree : DefinitionTree) → ¬ IsAnyDefinition c.args.node.unknown tree json =
    λ m. only_named c.args.node.unknown name.DirectiveDefinition json kind (c.in_err-read_json-in-DirectiveDefinition.ensures.err m) in
    passed _ _ _ none c.from_residual-in_err-read_json-in-DirectiveDefinition.ensures.1

pub returns-in_err-read_json-in-SchemaDefinition-clause-err : goal.returns-in_err-read_json-in-SchemaDefinition-clause-err
returns-in_err-read_json-in-SchemaDefinition-clause-err c =
    let json = node_data c.args.node in
    let kind : IsOfKind (codes "SchemaDefinition") json = c.in_ok-kind.ensures.ok ∙ ap (λ (s : List ℕ). Some (string s)) c.in-SchemaDefinition.is in
    let none : ¬ IsMemory c.in_err-read_json-in-SchemaDefinition.field-0.0 → (tree : DefinitionTree) → ¬ IsAnyDefinition c.args.node.unknown tree json =
    λ m. only_named c.args.node.unknown name.SchemaDefinition json kind (c.in_err-read_json-in-SchemaDefinition.ensures.err m) in
    passed _ _ _ none c.from_residual-in_err-read_json-in-SchemaDefinition.ensures.1

pub returns-in_err-read_json-in-ScalarTypeDefinition-clause-err : goal.returns-in_err-read_json-in-ScalarTypeDefinition-clause-err
returns-in_err-read_json-in-ScalarTypeDefinition-clause-err c =
    let json = node_data c.args.node in
    let kind : IsOfKind (codes "ScalarTypeDefinition") json = c.in_ok-kind.ensures.ok ∙ ap (λ (s : List ℕ). Some (string s)) c.in-ScalarTypeDefinition.is in
    let none : ¬ IsMemory c.in_err-read_json-in-ScalarTypeDefinition.field-0.0 → (tree : DefinitionTree) → ¬ IsAnyDefinition c.args.node.unknown tree json =
    λ m. only_named c.args.node.unknown name.ScalarTypeDefinition json kind (c.in_err-read_json-in-ScalarTypeDefinition.ensures.err m) in
    passed _ _ _ none c.from_residual-in_err-read_json-in-ScalarTypeDefinition.ensures.1

pub returns-in_err-read_json-in-ObjectTypeDefinition-clause-err : goal.returns-in_err-read_json-in-ObjectTypeDefinition-clause-err
returns-in_err-read_json-in-ObjectTypeDefinition-clause-err c =
    let json = node_data c.args.node in
    let kind : IsOfKind (codes "ObjectTypeDefinition") json = c.in_ok-kind.ensures.ok ∙ ap (λ (s : List ℕ). Some (string s)) c.in-ObjectTypeDefinition.is in
    let none : ¬ IsMemory c.in_err-read_json-in-ObjectTypeDefinition.field-0.0 → (tree : DefinitionTree) → ¬ IsAnyDefinition c.args.node.unknown tree json =
    λ m. only_named c.args.node.unknown name.ObjectTypeDefinition json kind (c.in_err-read_json-in-ObjectTypeDefinition.ensures.err m) in
    passed _ _ _ none c.from_residual-in_err-read_json-in-ObjectTypeDefinition.ensures.1

pub returns-in_err-read_json-in-InterfaceTypeDefinition-clause-err : goal.returns-in_err-read_json-in-InterfaceTypeDefinition-clause-err
returns-in_err-read_json-in-InterfaceTypeDefinition-clause-err c =
    let json = node_data c.args.node in
    let kind : IsOfKind (codes "InterfaceTypeDefinition") json = c.in_ok-kind.ensures.ok ∙ ap (λ (s : List ℕ). Some
    (string s)) c.in-InterfaceTypeDefinition.is in
    let none : ¬ IsMemory c.in_err-read_json-in-InterfaceTypeDefinition.field-0.0 → (tree : DefinitionTree) →
    ¬ IsAnyDefinition c.args.node.unknown tree json =
    λ m. only_named c.args.node.unknown name.InterfaceTypeDefinition json kind (c.in_err-read_json-in-InterfaceTypeDefinition.ensures.err m) in
    passed _ _ _ none c.from_residual-in_err-read_json-in-InterfaceTypeDefinition.ensures.1

pub returns-in_err-read_json-in-UnionTypeDefinition-clause-err : goal.returns-in_err-read_json-in-UnionTypeDefinition-clause-err
returns-in_err-read_json-in-UnionTypeDefinition-clause-err c =
    let json = node_data c.args.node in
    let kind : IsOfKind (codes "UnionTypeDefinition") json = c.in_ok-kind.ensures.ok ∙ ap (λ (s : List ℕ). Some (string s)) c.in-UnionTypeDefinition.is in
    let none : ¬ IsMemory c.in_err-read_json-in-UnionTypeDefinition.field-0.0 → (tree : DefinitionTree) → ¬ IsAnyDefinition c.args.node.unknown tree json =
    λ m. only_named c.args.node.unknown name.UnionTypeDefinition json kind (c.in_err-read_json-in-UnionTypeDefinition.ensures.err m) in
    passed _ _ _ none c.from_residual-in_err-read_json-in-UnionTypeDefinition.ensures.1

pub returns-in_err-read_json-in-EnumTypeDefinition-clause-err : goal.returns-in_err-read_json-in-EnumTypeDefinition-clause-err
returns-in_err-read_json-in-EnumTypeDefinition-clause-err c =
    let json = node_data c.args.node in
    let kind : IsOfKind (codes "EnumTypeDefinition") json = c.in_ok-kind.ensures.ok ∙ ap (λ (s : List ℕ). Some (string s)) c.in-EnumTypeDefinition.is in
    let none : ¬ IsMemory c.in_err-read_json-in-EnumTypeDefinition.field-0.0 → (tree : DefinitionTree) → ¬ IsAnyDefinition c.args.node.unknown tree json =
    λ m. only_named c.args.node.unknown name.EnumTypeDefinition json kind (c.in_err-read_json-in-EnumTypeDefinition.ensures.err m) in
    passed _ _ _ none c.from_residual-in_err-read_json-in-EnumTypeDefinition.ensures.1

pub returns-in_err-read_json-in-InputObjectTypeDefinition-clause-err : goal.returns-in_err-read_json-in-InputObjectTypeDefinition-clause-err
returns-in_err-read_json-in-InputObjectTypeDefinition-clause-err c =
    let json = node_data c.args.node in
    let kind : IsOfKind (codes "InputObjectTypeDefinition") json = c.in_ok-kind.ensures.ok ∙ ap (λ (s : List ℕ). Some
    (string s)) c.in-InputObjectTypeDefinition.is in
    let none : ¬ IsMemory c.in_err-read_json-in-InputObjectTypeDefinition.field-0.0 → (tree : DefinitionTree) →
    ¬ IsAnyDefinition c.args.node.unknown tree json =
    λ m. only_named c.args.node.unknown name.InputObjectTypeDefinition json kind (c.in_err-read_json-in-InputObjectTypeDefinition.ensures.err m) in
    passed _ _ _ none c.from_residual-in_err-read_json-in-InputObjectTypeDefinition.ensures.1

pub returns-in_err-read_json-in-SchemaExtension-clause-err : goal.returns-in_err-read_json-in-SchemaExtension-clause-err
returns-in_err-read_json-in-SchemaExtension-clause-err c =
    let json = node_data c.args.node in
    let kind : IsOfKind (codes "SchemaExtension") json = c.in_ok-kind.ensures.ok ∙ ap (λ (s : List ℕ). Some (string s)) c.in-SchemaExtension.is in
    let none : ¬ IsMemory c.in_err-read_json-in-SchemaExtension.field-0.0 → (tree : DefinitionTree) → ¬ IsAnyDefinition c.args.node.unknown tree json =
    λ m. only_named c.args.node.unknown name.SchemaExtension json kind (c.in_err-read_json-in-SchemaExtension.ensures.err m) in
    passed _ _ _ none c.from_residual-in_err-read_json-in-SchemaExtension.ensures.1

pub returns-in_err-read_json-in-ScalarTypeExtension-clause-err : goal.returns-in_err-read_json-in-ScalarTypeExtension-clause-err
returns-in_err-read_json-in-ScalarTypeExtension-clause-err c =
    let json = node_data c.args.node in
    let kind : IsOfKind (codes "ScalarTypeExtension") json = c.in_ok-kind.ensures.ok ∙ ap (λ (s : List ℕ). Some (string s)) c.in-ScalarTypeExtension.is in
    let none : ¬ IsMemory c.in_err-read_json-in-ScalarTypeExtension.field-0.0 → (tree : DefinitionTree) → ¬ IsAnyDefinition c.args.node.unknown tree json =
    λ m. only_named c.args.node.unknown name.ScalarTypeExtension json kind (c.in_err-read_json-in-ScalarTypeExtension.ensures.err m) in
    passed _ _ _ none c.from_residual-in_err-read_json-in-ScalarTypeExtension.ensures.1

pub returns-in_err-read_json-in-ObjectTypeExtension-clause-err : goal.returns-in_err-read_json-in-ObjectTypeExtension-clause-err
returns-in_err-read_json-in-ObjectTypeExtension-clause-err c =
    let json = node_data c.args.node in
    let kind : IsOfKind (codes "ObjectTypeExtension") json = c.in_ok-kind.ensures.ok ∙ ap (λ (s : List ℕ). Some (string s)) c.in-ObjectTypeExtension.is in
    let none : ¬ IsMemory c.in_err-read_json-in-ObjectTypeExtension.field-0.0 → (tree : DefinitionTree) → ¬ IsAnyDefinition c.args.node.unknown tree json =
    λ m. only_named c.args.node.unknown name.ObjectTypeExtension json kind (c.in_err-read_json-in-ObjectTypeExtension.ensures.err m) in
    passed _ _ _ none c.from_residual-in_err-read_json-in-ObjectTypeExtension.ensures.1

pub returns-in_err-read_json-in-InterfaceTypeExtension-clause-err : goal.returns-in_err-read_json-in-InterfaceTypeExtension-clause-err
returns-in_err-read_json-in-InterfaceTypeExtension-clause-err c =
    let json = node_data c.args.node in
    let kind : IsOfKind (codes "InterfaceTypeExtension") json = c.in_ok-kind.ensures.ok ∙ ap (λ (s : List ℕ). Some (string s)) c.in-InterfaceTypeExtension.is in
    let none : ¬ IsMemory c.in_err-read_json-in-InterfaceTypeExtension.field-0.0 → (tree : DefinitionTree) →
    ¬ IsAnyDefinition c.args.node.unknown tree json =
    λ m. only_named c.args.node.unknown name.InterfaceTypeExtension json kind (c.in_err-read_json-in-InterfaceTypeExtension.ensures.err m) in
    passed _ _ _ none c.from_residual-in_err-read_json-in-InterfaceTypeExtension.ensures.1

pub returns-in_err-read_json-in-UnionTypeExtension-clause-err : goal.returns-in_err-read_json-in-UnionTypeExtension-clause-err
returns-in_err-read_json-in-UnionTypeExtension-clause-err c =
    let json = node_data c.args.node in
    let kind : IsOfKind (codes "UnionTypeExtension") json = c.in_ok-kind.ensures.ok ∙ ap (λ (s : List ℕ). Some (string s)) c.in-UnionTypeExtension.is in
    let none : ¬ IsMemory c.in_err-read_json-in-UnionTypeExtension.field-0.0 → (tree : DefinitionTree) → ¬ IsAnyDefinition c.args.node.unknown tree json =
    λ m. only_named c.args.node.unknown name.UnionTypeExtension json kind (c.in_err-read_json-in-UnionTypeExtension.ensures.err m) in
    passed _ _ _ none c.from_residual-in_err-read_json-in-UnionTypeExtension.ensures.1

pub returns-in_err-read_json-in-EnumTypeExtension-clause-err : goal.returns-in_err-read_json-in-EnumTypeExtension-clause-err
returns-in_err-read_json-in-EnumTypeExtension-clause-err c =
    let json = node_data c.args.node in
    let kind : IsOfKind (codes "EnumTypeExtension") json = c.in_ok-kind.ensures.ok ∙ ap (λ (s : List ℕ). Some (string s)) c.in-EnumTypeExtension.is in
    let none : ¬ IsMemory c.in_err-read_json-in-EnumTypeExtension.field-0.0 → (tree : DefinitionTree) → ¬ IsAnyDefinition c.args.node.unknown tree json =
    λ m. only_named c.args.node.unknown name.EnumTypeExtension json kind (c.in_err-read_json-in-EnumTypeExtension.ensures.err m) in
    passed _ _ _ none c.from_residual-in_err-read_json-in-EnumTypeExtension.ensures.1

pub returns-in_err-read_json-in-InputObjectTypeExtension-clause-err : goal.returns-in_err-read_json-in-InputObjectTypeExtension-clause-err
returns-in_err-read_json-in-InputObjectTypeExtension-clause-err c =
    let json = node_data c.args.node in
    let kind : IsOfKind (codes "InputObjectTypeExtension") json = c.in_ok-kind.ensures.ok ∙ ap (λ (s : List ℕ). Some
    (string s)) c.in-InputObjectTypeExtension.is in
    let none : ¬ IsMemory c.in_err-read_json-in-InputObjectTypeExtension.field-0.0 → (tree : DefinitionTree) →
    ¬ IsAnyDefinition c.args.node.unknown tree json =
    λ m. only_named c.args.node.unknown name.InputObjectTypeExtension json kind (c.in_err-read_json-in-InputObjectTypeExtension.ensures.err m) in
    passed _ _ _ none c.from_residual-in_err-read_json-in-InputObjectTypeExtension.ensures.1

pub returns-in_default-clause-err : goal.returns-in_default-clause-err
returns-in_default-clause-err c refused tree is =
    let json = node_data c.args.node in
    let same : c.in_ok-kind.kind.now ≡ node_kind tree.name =
    same_string (codes "kind") json c.in_ok-kind.kind.now (node_kind tree.name) c.in_ok-kind.ensures.ok
    (named_node c.args.node.unknown tree.name tree.tree json is) in
    (elim (tree.name) as (λ (n : DefinitionName). c.in_ok-kind.kind.now ≡ node_kind n → ⊥) [
      | name.OperationDefinition ↦ c.in_default.not-OperationDefinition
      | name.FragmentDefinition ↦ c.in_default.not-FragmentDefinition
      | name.DirectiveDefinition ↦ c.in_default.not-DirectiveDefinition
      | name.SchemaDefinition ↦ c.in_default.not-SchemaDefinition
      | name.ScalarTypeDefinition ↦ c.in_default.not-ScalarTypeDefinition
      | name.ObjectTypeDefinition ↦ c.in_default.not-ObjectTypeDefinition
      | name.InterfaceTypeDefinition ↦ c.in_default.not-InterfaceTypeDefinition
      | name.UnionTypeDefinition ↦ c.in_default.not-UnionTypeDefinition
      | name.EnumTypeDefinition ↦ c.in_default.not-EnumTypeDefinition
      | name.InputObjectTypeDefinition ↦ c.in_default.not-InputObjectTypeDefinition
      | name.SchemaExtension ↦ c.in_default.not-SchemaExtension
      | name.ScalarTypeExtension ↦ c.in_default.not-ScalarTypeExtension
      | name.ObjectTypeExtension ↦ c.in_default.not-ObjectTypeExtension
      | name.InterfaceTypeExtension ↦ c.in_default.not-InterfaceTypeExtension
      | name.UnionTypeExtension ↦ c.in_default.not-UnionTypeExtension
      | name.EnumTypeExtension ↦ c.in_default.not-EnumTypeExtension
      | name.InputObjectTypeExtension ↦ c.in_default.not-InputObjectTypeExtension
    ]) same
