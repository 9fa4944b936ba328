-- Lemmas, no definitions of the product: definitions and documents.
use Rattle.std.proofs.Common.{ℕ, ◌≡◌, refl, sym, ap, subst, ◌∙◌, List, [], ◌∷◌, true, false, Option, Some, None, option_and_then, codes, nat_eq}
use Rattle.std.specs.Cmp.Lexicographic.{pointwise}
use Rattle.serde_json.specs.Data.{Data}
use Rattle.serde_json.specs.Find.{as_array}
use Rattle.graphql_ast.specs.Definitions.{DefinitionName, kind_named, DefinitionTree, OperationDefinition, FragmentDefinition}
use Rattle.graphql_ast.specs.Definitions.{DirectiveDefinition, SchemaDefinition, ScalarTypeDefinition, ObjectTypeDefinition}
use Rattle.graphql_ast.specs.Definitions.{InterfaceTypeDefinition, UnionTypeDefinition, EnumTypeDefinition, InputObjectTypeDefinition}
use Rattle.graphql_ast.specs.Definitions.{SchemaExtension, ScalarTypeExtension, ObjectTypeExtension, InterfaceTypeExtension}
use Rattle.graphql_ast.specs.Definitions.{UnionTypeExtension, EnumTypeExtension, InputObjectTypeExtension}
use Rattle.graphql_ast_json.specs.kinds.DocumentJson.{IsNamed, IsAnyDefinition, IsDocument}
use Rattle.ast_json_nodes.specs.nodes.Nodes.{Each, member_of}
use Rattle.ast_json_nodes.specs.nodes.OneTree.{IsOfOneTree, JsonLaws, NodeLaws}
use Rattle.graphql_ast_json.specs.lemmas.DefinitionNodes.{directive_definition_laws}
use Rattle.graphql_ast_json.specs.lemmas.ExecutableNodes.{fragment_definition_laws, operation_definition_laws}
use Rattle.graphql_ast_json.specs.lemmas.TypeSystemNodes.{schema_definition_laws, scalar_type_definition_laws, object_type_definition_laws}
use Rattle.graphql_ast_json.specs.lemmas.TypeSystemNodes.{interface_type_definition_laws, union_type_definition_laws, enum_type_definition_laws}
use Rattle.graphql_ast_json.specs.lemmas.TypeSystemNodes.{input_object_type_definition_laws, schema_extension_laws, scalar_type_extension_laws}
use Rattle.graphql_ast_json.specs.lemmas.TypeSystemNodes.{object_type_extension_laws, interface_type_extension_laws, union_type_extension_laws}
use Rattle.graphql_ast_json.specs.lemmas.TypeSystemNodes.{enum_type_extension_laws, input_object_type_extension_laws}
use Rattle.graphql_ast_json.specs.lemmas.Leaves.{IsOfKind, both_some, no_null, same_each, same_string}
use Rattle.ast_json_nodes.specs.declared.read.Unknown.{Unknown}

-- WHICH DEFINITION A NODE IS

-- which name a node's `kind` tells
abbrev names_by_kind : List (List ℕ × DefinitionName)
names_by_kind =
    (codes "OperationDefinition", OperationDefinition) ∷ (codes "FragmentDefinition", FragmentDefinition)
    ∷ (codes "DirectiveDefinition", DirectiveDefinition) ∷ (codes "SchemaDefinition", SchemaDefinition)
    ∷ (codes "ScalarTypeDefinition", ScalarTypeDefinition) ∷ (codes "ObjectTypeDefinition", ObjectTypeDefinition)
    ∷ (codes "InterfaceTypeDefinition", InterfaceTypeDefinition) ∷ (codes "UnionTypeDefinition", UnionTypeDefinition)
    ∷ (codes "EnumTypeDefinition", EnumTypeDefinition) ∷ (codes "InputObjectTypeDefinition", InputObjectTypeDefinition)
    ∷ (codes "SchemaExtension", SchemaExtension) ∷ (codes "ScalarTypeExtension", ScalarTypeExtension)
    ∷ (codes "ObjectTypeExtension", ObjectTypeExtension) ∷ (codes "InterfaceTypeExtension", InterfaceTypeExtension)
    ∷ (codes "UnionTypeExtension", UnionTypeExtension) ∷ (codes "EnumTypeExtension", EnumTypeExtension)
    ∷ (codes "InputObjectTypeExtension", InputObjectTypeExtension) ∷ []

abbrev first_of_kind : List ℕ → List (List ℕ × DefinitionName) → Option DefinitionName
first_of_kind kind [] = None
first_of_kind kind (one ∷ more) = elim (pointwise nat_eq one.0 kind) [ true ↦ Some one.1 | false ↦ first_of_kind kind more ]

pub name_of_kind : List ℕ → Option DefinitionName
name_of_kind kind = first_of_kind kind names_by_kind

-- what is known of the JSON of a definition that is so named: the `kind` of its node, which tells the name, and that it is of one tree at most
pub record NamedLaws (name : DefinitionName) : Type 0 where
  pub kind : List ℕ
  pub of_kind : (unknown : Unknown) (tree : (kind_named name).Tree) (json : Data) → IsNamed unknown name tree json → IsOfKind kind json
  pub told : name_of_kind kind ≡ Some name
  pub one_tree : (unknown : Unknown) → IsOfOneTree (IsNamed unknown name)

pub told_by : (kind : List ℕ) (name : DefinitionName) → first_of_kind kind names_by_kind ≡ Some name → name_of_kind kind ≡ Some name
unfolding name_of_kind
told_by kind name first = first

abbrev laws_by : {name : DefinitionName} (kind : List ℕ) → first_of_kind kind names_by_kind ≡ Some name →
    ((unknown : Unknown) (tree : (kind_named name).Tree) (json : Data) → IsNamed unknown name tree json → IsOfKind kind json) →
    ((unknown : Unknown) → IsOfOneTree (IsNamed unknown name)) → NamedLaws name
laws_by {name = name} kind first of_kind one_tree = record { kind = kind; of_kind = of_kind; told = told_by kind name first; one_tree = one_tree }

abbrev pub named_laws : (name : DefinitionName) → NamedLaws name
named_laws OperationDefinition = laws_by (codes "OperationDefinition") refl (λ unknown tree json is. is.0.0) operation_definition_laws.one_tree
named_laws FragmentDefinition = laws_by (codes "FragmentDefinition") refl (λ unknown tree json is. is.0.0) fragment_definition_laws.one_tree
named_laws DirectiveDefinition = laws_by (codes "DirectiveDefinition") refl (λ unknown tree json is. is.0.0) directive_definition_laws.one_tree
named_laws SchemaDefinition = laws_by (codes "SchemaDefinition") refl (λ unknown tree json is. is.0.0) schema_definition_laws.one_tree
named_laws ScalarTypeDefinition = laws_by (codes "ScalarTypeDefinition") refl (λ unknown tree json is. is.0.0) scalar_type_definition_laws.one_tree
named_laws ObjectTypeDefinition = laws_by (codes "ObjectTypeDefinition") refl (λ unknown tree json is. is.0.0) object_type_definition_laws.one_tree
named_laws InterfaceTypeDefinition = laws_by (codes "InterfaceTypeDefinition") refl (λ unknown tree json is. is.0.0) interface_type_definition_laws.one_tree
named_laws UnionTypeDefinition = laws_by (codes "UnionTypeDefinition") refl (λ unknown tree json is. is.0.0) union_type_definition_laws.one_tree
named_laws EnumTypeDefinition = laws_by (codes "EnumTypeDefinition") refl (λ unknown tree json is. is.0.0) enum_type_definition_laws.one_tree
named_laws InputObjectTypeDefinition =
    laws_by (codes "InputObjectTypeDefinition") refl (λ unknown tree json is. is.0.0) input_object_type_definition_laws.one_tree
named_laws SchemaExtension = laws_by (codes "SchemaExtension") refl (λ unknown tree json is. is.0.0) schema_extension_laws.one_tree
named_laws ScalarTypeExtension = laws_by (codes "ScalarTypeExtension") refl (λ unknown tree json is. is.0.0) scalar_type_extension_laws.one_tree
named_laws ObjectTypeExtension = laws_by (codes "ObjectTypeExtension") refl (λ unknown tree json is. is.0.0) object_type_extension_laws.one_tree
named_laws InterfaceTypeExtension = laws_by (codes "InterfaceTypeExtension") refl (λ unknown tree json is. is.0.0) interface_type_extension_laws.one_tree
named_laws UnionTypeExtension = laws_by (codes "UnionTypeExtension") refl (λ unknown tree json is. is.0.0) union_type_extension_laws.one_tree
named_laws EnumTypeExtension = laws_by (codes "EnumTypeExtension") refl (λ unknown tree json is. is.0.0) enum_type_extension_laws.one_tree
named_laws InputObjectTypeExtension = laws_by (codes "InputObjectTypeExtension") refl (λ unknown tree json is. is.0.0) input_object_type_extension_laws.one_tree

abbrev pub node_kind : DefinitionName → List ℕ
node_kind name = (named_laws name).kind

pub named_node : (unknown : Unknown) (name : DefinitionName) (tree : (kind_named name).Tree) (json : Data) → IsNamed unknown name tree json →
    IsOfKind (node_kind name) json
named_node unknown name = (named_laws name).of_kind unknown

some_name : (a b : DefinitionName) → Some a ≡ Some b → a ≡ b
some_name a b same = cc

same_node_kind : (a b : DefinitionName) → node_kind a ≡ node_kind b → a ≡ b
same_node_kind a b same = some_name a b (sym (named_laws a).told ∙ ap name_of_kind same ∙ (named_laws b).told)

-- DEFINITIONS

same_at : (unknown : Unknown) (a b : DefinitionName) → a ≡ b → (tree : (kind_named a).Tree) (other : (kind_named b).Tree) (json : Data) →
    IsNamed unknown a tree json →
    IsNamed unknown b other json →
    ◌≡◌ {A = DefinitionTree} (record { name = a; tree = tree }) (record { name = b; tree = other })
same_at unknown a b e tree other json p =
    subst (λ c.
    (there : (kind_named c).Tree) → IsNamed unknown c there json →
    ◌≡◌ {A = DefinitionTree} (record { name = a; tree = tree }) (record { name = c; tree = there })) e
    (λ there q. let same = (named_laws a).one_tree unknown tree there json p q in λ i. record { name = a; tree = same i }) other

pub same_any_definition : (unknown : Unknown) → IsOfOneTree (IsAnyDefinition unknown)
same_any_definition unknown a b json p q =
    let kinds = same_string (codes "kind") json (node_kind a.name) (node_kind b.name) (named_node unknown a.name a.tree json p)
    (named_node unknown b.name b.tree json q) in
    same_at unknown a.name b.name (same_node_kind a.name b.name kinds) a.tree b.tree json p q

-- a node of the kind of one name is no definition of another, and so none at all where it is none of that name
pub only_named : (unknown : Unknown) (name : DefinitionName) (json : Data) → IsOfKind (node_kind name) json → ((tree : (kind_named name).Tree) →
    IsNamed unknown name tree json → ⊥) →
    (definition : DefinitionTree) → IsAnyDefinition unknown definition json → ⊥
only_named unknown name json kind none definition is =
    let kinds = same_string (codes "kind") json (node_kind definition.name) (node_kind name)
    (named_node unknown definition.name definition.tree json is) kind in
    subst (λ n. ((tree : (kind_named n).Tree) → IsNamed unknown n tree json → ⊥) → ⊥) (same_node_kind definition.name name kinds) none_here none
  where
    none_here : ((tree : (kind_named definition.name).Tree) → IsNamed unknown definition.name tree json → ⊥) → ⊥
    none_here not = not definition.tree is

-- DOCUMENTS

pub same_document : (unknown : Unknown) → IsOfOneTree (IsDocument unknown)
same_document unknown a b json p q =
    both_some (option_and_then as_array (member_of (codes "definitions") json)) (Each (IsAnyDefinition unknown) a) (Each (IsAnyDefinition unknown) b) p.1 q.1
    (same_each (IsAnyDefinition unknown) (same_any_definition unknown) a b)

pub any_definition_laws : JsonLaws IsAnyDefinition
any_definition_laws = record {
  one_tree = same_any_definition;
  never_null = λ unknown definition is. no_null (node_kind definition.name) (named_node unknown definition.name definition.tree _ is);
}

pub document_laws : NodeLaws IsDocument
document_laws = record {
  one_tree = same_document;
  node = λ unknown tree json is. record { kind = codes "Document"; node = record { names = codes "definitions" ∷ []; is = is.0 } };
}
