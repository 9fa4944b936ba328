-- Lemmas, no definitions of the product: the JSON of definitions and extensions of the type system is of one of them, and is a node.
use Rattle.std.proofs.Common.{◌≡◌, ℕ, List, Some, codes, refl, sym, ap, ◌∙◌, nat_eq, Option, true, false, [], ◌∷◌}
use Rattle.std.specs.Cmp.Lexicographic.{pointwise}
use Rattle.serde_json.specs.Data.{Data}
use Rattle.graphql_values.specs.kinds.OperationTypes.{OperationTypeTree, operation_type_name}
use Rattle.graphql_values.specs.kinds.OperationTypes as operation
use Rattle.graphql_ast_json.specs.kinds.DefinitionJson.{IsInputValueDefinition}
use Rattle.graphql_ast_json.specs.kinds.DirectiveJson.{HasDirectives, IsDirective}
use Rattle.ast_json_nodes.specs.nodes.Nodes.{Each, HasName, IsName, IsStringValue, OptionalListMember, items_or_none, member_of}
use Rattle.ast_json_nodes.specs.nodes.OneTree.{IsOfOneTree, NodeLaws}
use Rattle.graphql_ast_json.specs.kinds.TypeJson.{IsNamedType, IsTypeReference}
use Rattle.graphql_ast_json.specs.kinds.TypeSystemJson.{IsDefinition, IsExtension, enum_value_members, field_members, HasField}
use Rattle.graphql_ast_json.specs.kinds.TypeSystemJson.{IsFieldDefinition, HasEnumValue, IsEnumValueDefinition, IsRootOperation, HasSchema}
use Rattle.graphql_ast_json.specs.kinds.TypeSystemJson.{HasScalarType, HasImplementingType, HasUnionType, HasBracedType, HasEnumType}
use Rattle.graphql_ast_json.specs.kinds.TypeSystemJson.{HasInputObjectType}
use Rattle.graphql_ast_json.specs.kinds.TypeSystemJson.{IsSchemaDefinition, IsSchemaExtension, IsScalarTypeDefinition, IsScalarTypeExtension}
use Rattle.graphql_ast_json.specs.kinds.TypeSystemJson.{IsObjectTypeDefinition, IsObjectTypeExtension, IsInterfaceTypeDefinition, IsInterfaceTypeExtension}
use Rattle.graphql_ast_json.specs.kinds.TypeSystemJson.{IsUnionTypeDefinition, IsUnionTypeExtension, IsEnumTypeDefinition, IsEnumTypeExtension}
use Rattle.graphql_ast_json.specs.kinds.TypeSystemJson.{IsInputObjectTypeDefinition, IsInputObjectTypeExtension, schema_members, scalar_type_members}
use Rattle.graphql_ast_json.specs.kinds.TypeSystemJson.{implementing_type_members, union_type_members, enum_type_members, input_object_type_members}
use Rattle.graphql_ast_json.specs.lemmas.DefinitionNodes.{same_input_value_definition}
use Rattle.graphql_ast_json.specs.lemmas.DirectiveNodes.{same_directive}
use Rattle.graphql_ast_json.specs.lemmas.Leaves.{both_some, same_each, same_name, same_optional, same_string, same_string_value}
use Rattle.graphql_ast_json.specs.lemmas.TypeNodes.{same_named_type, same_type}
use Rattle.ast_json_nodes.specs.declared.read.Unknown.{Unknown}

-- ANY DEFINITION AND EXTENSION

pub same_definition : (unknown : Unknown) {Body : Type 0} (kind : List ℕ) (names : List (List ℕ)) (Has : Body → Data → Type 0) → IsOfOneTree Has →
    IsOfOneTree (IsDefinition unknown kind names Has)
same_definition unknown kind names Has same a b json p q =
    let description = same_optional (IsStringValue unknown) (same_string_value unknown) a.description b.description (member_of
    (codes "description") json) p.1 q.1 in
    let body = same a.body b.body json p.2 q.2 in
    λ i. record { description = description i; body = body i }

pub same_extension : (unknown : Unknown) {Body : Type 0} (kind : List ℕ) (names : List (List ℕ)) (Has : Body → Data → Type 0) → IsOfOneTree Has →
    IsOfOneTree (IsExtension unknown kind names Has)
same_extension unknown kind names Has same a b json p q = same a b json p.1 q.1

pub definition_laws : {Body : Type 0} (kind : List ℕ) (names : List (List ℕ)) (Has : Unknown → Body → Data → Type 0) →
    ((unknown : Unknown) → IsOfOneTree (Has unknown)) → NodeLaws (λ unknown. IsDefinition unknown kind names (Has unknown))
definition_laws kind names Has same = record {
  one_tree = λ unknown. same_definition unknown kind names (Has unknown) (same unknown);
  node = λ unknown tree json is. record { kind = kind; node = record { names = codes "description" ∷ names; is = is.0 } };
}

pub extension_laws : {Body : Type 0} (kind : List ℕ) (names : List (List ℕ)) (Has : Unknown → Body → Data → Type 0) →
    ((unknown : Unknown) → IsOfOneTree (Has unknown)) → NodeLaws (λ unknown. IsExtension unknown kind names (Has unknown))
extension_laws kind names Has same = record {
  one_tree = λ unknown. same_extension unknown kind names (Has unknown) (same unknown);
  node = λ unknown tree json is. record { kind = kind; node = record { names = names; is = is.0 } };
}

-- MEMBERS THAT MANY HAVE

pub has_name : (unknown : Unknown) → IsOfOneTree (HasName unknown)
has_name unknown a b json p q = both_some (member_of (codes "name") json) (IsName unknown a) (IsName unknown b) p q (same_name unknown a b)

pub has_list : {A : Type 0} (name : List ℕ) (Is : A → Data → Type 0) → IsOfOneTree Is → (xs ys : List A) (json : Data) →
    OptionalListMember name json (Each Is xs) → OptionalListMember name json (Each Is ys) → xs ≡ ys
has_list name Is same xs ys json p q = both_some (items_or_none (member_of name json)) (Each Is xs) (Each Is ys) p q (same_each Is same xs ys)

pub has_directives : (unknown : Unknown) → IsOfOneTree (HasDirectives unknown)
has_directives unknown = has_list (codes "directives") (IsDirective unknown) (same_directive unknown)

-- MEMBERS OF TYPES

pub same_field : (unknown : Unknown) → IsOfOneTree (HasField unknown)
same_field unknown a b json p q =
    let name = has_name unknown a.name b.name json p.0 q.0 in
    let arguments = has_list (codes "arguments") (IsInputValueDefinition unknown) (same_input_value_definition unknown) a.arguments b.arguments json p.1 q.1 in
    let type = both_some (member_of (codes "type") json) (IsTypeReference unknown a.type) (IsTypeReference unknown b.type) p.2 q.2
    (same_type unknown a.type b.type) in
    let directives = has_directives unknown a.directives b.directives json p.3 q.3 in
    λ i. record { name = name i; arguments = arguments i; type = type i; directives = directives i }

pub same_field_definition : (unknown : Unknown) → IsOfOneTree (IsFieldDefinition unknown)
same_field_definition unknown = same_definition unknown (codes "FieldDefinition") field_members (HasField unknown) (same_field unknown)

pub same_enum_value : (unknown : Unknown) → IsOfOneTree (HasEnumValue unknown)
same_enum_value unknown a b json p q =
    let value = has_name unknown a.value b.value json p.0 q.0 in
    let directives = has_directives unknown a.directives b.directives json p.1 q.1 in
    λ i. record { value = value i; directives = directives i }

pub same_enum_value_definition : (unknown : Unknown) → IsOfOneTree (IsEnumValueDefinition unknown)
same_enum_value_definition unknown = same_definition unknown (codes "EnumValueDefinition") enum_value_members (HasEnumValue unknown) (same_enum_value unknown)

operation_type_among : List ℕ → Option OperationTypeTree
operation_type_among name =
    elim (pointwise nat_eq (codes "query") name) [
      | true ↦ Some operation.Query
      | false ↦
          elim (pointwise nat_eq (codes "mutation") name) [ true ↦ Some operation.Mutation | false ↦ Some operation.Subscription ]
    ]

operation_type_is_found : (type : OperationTypeTree) → operation_type_among (operation_type_name type) ≡ Some type
unfolding operation_type_among
operation_type_is_found operation.Query = refl
operation_type_is_found operation.Mutation = refl
operation_type_is_found operation.Subscription = refl

some_operation_type : (a b : OperationTypeTree) → Some a ≡ Some b → a ≡ b
some_operation_type a b same = cc

pub same_operation_type : (a b : OperationTypeTree) → operation_type_name a ≡ operation_type_name b → a ≡ b
same_operation_type a b same = some_operation_type a b (sym (operation_type_is_found a) ∙ ap operation_type_among same ∙ operation_type_is_found b)

pub same_root_operation : (unknown : Unknown) → IsOfOneTree (IsRootOperation unknown)
same_root_operation unknown a b json p q =
    let word = same_string (codes "operation") json (operation_type_name a.operation_type) (operation_type_name b.operation_type) p.1 q.1 in
    let operation_type = same_operation_type a.operation_type b.operation_type word in
    let type = both_some (member_of (codes "type") json) (IsNamedType unknown a.type) (IsNamedType unknown b.type) p.2 q.2
    (same_named_type unknown a.type b.type) in
    λ i. record { operation_type = operation_type i; type = type i }

-- BODIES

pub same_schema : (unknown : Unknown) → IsOfOneTree (HasSchema unknown)
same_schema unknown a b json p q =
    let directives = has_directives unknown a.directives b.directives json p.0 q.0 in
    let root_operations = has_list (codes "operationTypes") (IsRootOperation unknown)
    (same_root_operation unknown) a.root_operations b.root_operations json p.1 q.1 in
    λ i. record { directives = directives i; root_operations = root_operations i }

pub same_scalar_type : (unknown : Unknown) → IsOfOneTree (HasScalarType unknown)
same_scalar_type unknown a b json p q =
    let name = has_name unknown a.name b.name json p.0 q.0 in
    let directives = has_directives unknown a.directives b.directives json p.1 q.1 in
    λ i. record { name = name i; directives = directives i }

pub same_implementing_type : (unknown : Unknown) → IsOfOneTree (HasImplementingType unknown)
same_implementing_type unknown a b json p q =
    let name = has_name unknown a.name b.name json p.0 q.0 in
    let interfaces = has_list (codes "interfaces") (IsNamedType unknown) (same_named_type unknown) a.interfaces b.interfaces json p.1 q.1 in
    let directives = has_directives unknown a.directives b.directives json p.2 q.2 in
    let fields = has_list (codes "fields") (IsFieldDefinition unknown) (same_field_definition unknown) a.fields b.fields json p.3 q.3 in
    λ i. record { name = name i; interfaces = interfaces i; directives = directives i; fields = fields i }

pub same_union_type : (unknown : Unknown) → IsOfOneTree (HasUnionType unknown)
same_union_type unknown a b json p q =
    let name = has_name unknown a.name b.name json p.0 q.0 in
    let directives = has_directives unknown a.directives b.directives json p.1 q.1 in
    let members = has_list (codes "types") (IsNamedType unknown) (same_named_type unknown) a.members b.members json p.2 q.2 in
    λ i. record { name = name i; directives = directives i; members = members i }

same_braced_type : (unknown : Unknown) {Tree : Type 0} (key : List ℕ) (Is : Tree → Data → Type 0) → IsOfOneTree Is → IsOfOneTree (HasBracedType unknown key Is)
same_braced_type unknown key Is same a b json p q =
    let name = has_name unknown a.name b.name json p.0 q.0 in
    let directives = has_directives unknown a.directives b.directives json p.1 q.1 in
    let members = has_list key Is same a.members b.members json p.2 q.2 in
    λ i. record { name = name i; directives = directives i; members = members i }

pub same_enum_type : (unknown : Unknown) → IsOfOneTree (HasEnumType unknown)
same_enum_type unknown = same_braced_type unknown (codes "values") (IsEnumValueDefinition unknown) (same_enum_value_definition unknown)

pub same_input_object_type : (unknown : Unknown) → IsOfOneTree (HasInputObjectType unknown)
same_input_object_type unknown = same_braced_type unknown (codes "fields") (IsInputValueDefinition unknown) (same_input_value_definition unknown)

pub root_operation_laws : NodeLaws IsRootOperation
root_operation_laws = record {
  one_tree = same_root_operation;
  node = λ unknown tree json is. record { kind = codes "OperationTypeDefinition"; node = record { names = codes "operation" ∷ codes "type" ∷ []; is = is.0 } };
}

-- DEFINITIONS AND EXTENSIONS

pub field_definition_laws : NodeLaws IsFieldDefinition
field_definition_laws = definition_laws (codes "FieldDefinition") field_members HasField same_field

pub enum_value_definition_laws : NodeLaws IsEnumValueDefinition
enum_value_definition_laws = definition_laws (codes "EnumValueDefinition") enum_value_members HasEnumValue same_enum_value

pub schema_definition_laws : NodeLaws IsSchemaDefinition
schema_definition_laws = definition_laws (codes "SchemaDefinition") schema_members HasSchema same_schema

pub schema_extension_laws : NodeLaws IsSchemaExtension
schema_extension_laws = extension_laws (codes "SchemaExtension") schema_members HasSchema same_schema

pub scalar_type_definition_laws : NodeLaws IsScalarTypeDefinition
scalar_type_definition_laws = definition_laws (codes "ScalarTypeDefinition") scalar_type_members HasScalarType same_scalar_type

pub scalar_type_extension_laws : NodeLaws IsScalarTypeExtension
scalar_type_extension_laws = extension_laws (codes "ScalarTypeExtension") scalar_type_members HasScalarType same_scalar_type

pub object_type_definition_laws : NodeLaws IsObjectTypeDefinition
object_type_definition_laws = definition_laws (codes "ObjectTypeDefinition") implementing_type_members HasImplementingType same_implementing_type

pub object_type_extension_laws : NodeLaws IsObjectTypeExtension
object_type_extension_laws = extension_laws (codes "ObjectTypeExtension") implementing_type_members HasImplementingType same_implementing_type

pub interface_type_definition_laws : NodeLaws IsInterfaceTypeDefinition
interface_type_definition_laws = definition_laws (codes "InterfaceTypeDefinition") implementing_type_members HasImplementingType same_implementing_type

pub interface_type_extension_laws : NodeLaws IsInterfaceTypeExtension
interface_type_extension_laws = extension_laws (codes "InterfaceTypeExtension") implementing_type_members HasImplementingType same_implementing_type

pub union_type_definition_laws : NodeLaws IsUnionTypeDefinition
union_type_definition_laws = definition_laws (codes "UnionTypeDefinition") union_type_members HasUnionType same_union_type

pub union_type_extension_laws : NodeLaws IsUnionTypeExtension
union_type_extension_laws = extension_laws (codes "UnionTypeExtension") union_type_members HasUnionType same_union_type

pub enum_type_definition_laws : NodeLaws IsEnumTypeDefinition
enum_type_definition_laws = definition_laws (codes "EnumTypeDefinition") enum_type_members HasEnumType same_enum_type

pub enum_type_extension_laws : NodeLaws IsEnumTypeExtension
enum_type_extension_laws = extension_laws (codes "EnumTypeExtension") enum_type_members HasEnumType same_enum_type

pub input_object_type_definition_laws : NodeLaws IsInputObjectTypeDefinition
input_object_type_definition_laws = definition_laws (codes "InputObjectTypeDefinition") input_object_type_members HasInputObjectType same_input_object_type

pub input_object_type_extension_laws : NodeLaws IsInputObjectTypeExtension
input_object_type_extension_laws = extension_laws (codes "InputObjectTypeExtension") input_object_type_members HasInputObjectType same_input_object_type
