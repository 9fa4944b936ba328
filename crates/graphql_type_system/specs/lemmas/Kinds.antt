-- Lemmas, no definitions of the product: the laws of the sixteen kinds. A kind is a described body or an extension, and a part.
use Rattle.std.proofs.Common.{refl, [], ◌∷◌, false, codes, Some}
use Rattle.graphql_text.specs.lexical.Tokens.{lbrace}
use Rattle.graphql_text.specs.grammar.Forms.{a_keyword, a_punctuator, a_string_value}
use Rattle.graphql_text.specs.parts.Members.{has_some}
use Rattle.graphql_text.specs.kinds.Reading.{Laws}
use Rattle.graphql_text.proofs.parts.KindParts.{described_laws, described_part, extension_laws, extension_part}
use Rattle.graphql_text.proofs.parts.KindParts.{part_laws}
use Rattle.graphql_text.proofs.parts.Parts.{KindPart}
use Rattle.graphql_values.specs.kinds.InputValueDefinitions.{input_value_definition_kind}
use Rattle.graphql_values.specs.lemmas.Directives.{excluded_after_directives}
use Rattle.graphql_values.specs.lemmas.FlawsTold.{input_value_definition_tells}
use Rattle.graphql_type_system.specs.kinds.BracedTypes.{braced_type_adds}
use Rattle.graphql_type_system.specs.kinds.EnumTypes.{enum_type_body, enum_type_definition_kind, enum_type_extension_kind}
use Rattle.graphql_type_system.specs.kinds.EnumValueDefinitions.{enum_value_definition_kind}
use Rattle.graphql_type_system.specs.kinds.FieldDefinitions.{field_definition_kind}
use Rattle.graphql_type_system.specs.kinds.ImplementingTypes.{implementing_type_adds}
use Rattle.graphql_type_system.specs.kinds.InputObjectTypes.{input_object_type_body, input_object_type_definition_kind, input_object_type_extension_kind}
use Rattle.graphql_type_system.specs.kinds.InterfaceTypes.{interface_type_body, interface_type_definition_kind, interface_type_extension_kind}
use Rattle.graphql_type_system.specs.kinds.ObjectTypes.{object_type_body, object_type_definition_kind, object_type_extension_kind}
use Rattle.graphql_type_system.specs.kinds.ScalarTypes.{scalar_type_body, scalar_type_definition_kind, scalar_type_extension_kind}
use Rattle.graphql_type_system.specs.kinds.Schemas.{extended_schema_adds, extended_schema_name, extended_schema_body}
use Rattle.graphql_type_system.specs.kinds.Schemas.{schema_body, schema_definition_kind, schema_extension_kind}
use Rattle.graphql_type_system.specs.kinds.UnionTypes.{union_type_adds, union_type_body, union_type_definition_kind, union_type_extension_kind}
use Rattle.graphql_type_system.specs.lemmas.Bodies.{enum_type_body_part, enum_value_definition_part, excluded_after_implementing_type}
use Rattle.graphql_type_system.specs.lemmas.Bodies.{excluded_after_union_type, extended_schema_body_part, field_definition_part}
use Rattle.graphql_type_system.specs.lemmas.Bodies.{input_object_type_body_part, interface_type_body_part, object_type_body_part}
use Rattle.graphql_type_system.specs.lemmas.Bodies.{scalar_type_body_part, schema_body_part, union_type_body_part}
use Rattle.graphql_type_system.specs.lemmas.FlawsTold.{braced_type_tells, enum_value_definition_tells, extended_schema_tells, field_definition_tells}
use Rattle.graphql_type_system.specs.lemmas.FlawsTold.{implementing_type_tells, scalar_type_tells, schema_tells, union_type_tells}

unfoldable pub schema_definition_part : KindPart schema_definition_kind [] (a_string_value ∷ a_keyword (codes "schema") ∷ []) false [] false
schema_definition_part = described_part schema_body schema_body_part refl

pub schema_definition_laws : Laws schema_definition_kind
schema_definition_laws = described_laws schema_body schema_body_part refl schema_tells

unfoldable pub scalar_type_definition_part :
    KindPart scalar_type_definition_kind excluded_after_directives (a_string_value ∷ a_keyword (codes "scalar") ∷ []) false [] false
scalar_type_definition_part = described_part scalar_type_body scalar_type_body_part refl

pub scalar_type_definition_laws : Laws scalar_type_definition_kind
scalar_type_definition_laws = described_laws scalar_type_body scalar_type_body_part refl scalar_type_tells

unfoldable pub object_type_definition_part : KindPart object_type_definition_kind excluded_after_implementing_type
    (a_string_value ∷ a_keyword (codes "type") ∷ []) false (a_punctuator lbrace ∷ []) false
object_type_definition_part = described_part object_type_body object_type_body_part refl

pub object_type_definition_laws : Laws object_type_definition_kind
object_type_definition_laws = described_laws object_type_body object_type_body_part refl implementing_type_tells

unfoldable pub interface_type_definition_part : KindPart interface_type_definition_kind excluded_after_implementing_type
    (a_string_value ∷ a_keyword (codes "interface") ∷ []) false (a_punctuator lbrace ∷ []) false
interface_type_definition_part = described_part interface_type_body interface_type_body_part refl

pub interface_type_definition_laws : Laws interface_type_definition_kind
interface_type_definition_laws = described_laws interface_type_body interface_type_body_part refl implementing_type_tells

unfoldable pub union_type_definition_part :
    KindPart union_type_definition_kind excluded_after_union_type (a_string_value ∷ a_keyword (codes "union") ∷ []) false [] false
union_type_definition_part = described_part union_type_body union_type_body_part refl

pub union_type_definition_laws : Laws union_type_definition_kind
union_type_definition_laws = described_laws union_type_body union_type_body_part refl union_type_tells

unfoldable pub enum_type_definition_part : KindPart enum_type_definition_kind excluded_after_directives
    (a_string_value ∷ a_keyword (codes "enum") ∷ []) false (a_punctuator lbrace ∷ []) false
enum_type_definition_part = described_part enum_type_body enum_type_body_part refl

pub enum_type_definition_laws : Laws enum_type_definition_kind
enum_type_definition_laws = described_laws enum_type_body enum_type_body_part refl (braced_type_tells enum_value_definition_kind enum_value_definition_tells)

unfoldable pub input_object_type_definition_part : KindPart input_object_type_definition_kind excluded_after_directives
    (a_string_value ∷ a_keyword (codes "input") ∷ []) false (a_punctuator lbrace ∷ []) false
input_object_type_definition_part = described_part input_object_type_body input_object_type_body_part refl

pub input_object_type_definition_laws : Laws input_object_type_definition_kind
input_object_type_definition_laws =
    described_laws input_object_type_body input_object_type_body_part refl (braced_type_tells input_value_definition_kind input_value_definition_tells)

unfoldable pub schema_extension_part :
    KindPart schema_extension_kind excluded_after_directives (a_keyword (codes "extend") ∷ []) false (a_punctuator lbrace ∷ []) false
schema_extension_part = extension_part extended_schema_body extended_schema_adds extended_schema_name extended_schema_body_part

pub schema_extension_laws : Laws schema_extension_kind
schema_extension_laws = extension_laws extended_schema_body extended_schema_adds extended_schema_name
    extended_schema_body_part extended_schema_tells

unfoldable pub scalar_type_extension_part : KindPart scalar_type_extension_kind excluded_after_directives (a_keyword (codes "extend") ∷ []) false [] false
scalar_type_extension_part = extension_part scalar_type_body (λ scalar. has_some scalar.directives) (λ scalar. Some scalar.name) scalar_type_body_part

pub scalar_type_extension_laws : Laws scalar_type_extension_kind
scalar_type_extension_laws = extension_laws scalar_type_body (λ scalar. has_some scalar.directives) (λ scalar. Some scalar.name)
    scalar_type_body_part scalar_type_tells

unfoldable pub object_type_extension_part : KindPart object_type_extension_kind excluded_after_implementing_type
    (a_keyword (codes "extend") ∷ []) false (a_punctuator lbrace ∷ []) false
object_type_extension_part = extension_part object_type_body implementing_type_adds (λ type. Some type.name) object_type_body_part

pub object_type_extension_laws : Laws object_type_extension_kind
object_type_extension_laws = extension_laws object_type_body implementing_type_adds (λ type. Some type.name)
    object_type_body_part implementing_type_tells

unfoldable pub interface_type_extension_part : KindPart interface_type_extension_kind excluded_after_implementing_type
    (a_keyword (codes "extend") ∷ []) false (a_punctuator lbrace ∷ []) false
interface_type_extension_part = extension_part interface_type_body implementing_type_adds (λ type. Some type.name) interface_type_body_part

pub interface_type_extension_laws : Laws interface_type_extension_kind
interface_type_extension_laws = extension_laws interface_type_body implementing_type_adds (λ type. Some type.name)
    interface_type_body_part implementing_type_tells

unfoldable pub union_type_extension_part : KindPart union_type_extension_kind excluded_after_union_type (a_keyword (codes "extend") ∷ []) false [] false
union_type_extension_part = extension_part union_type_body union_type_adds (λ union. Some union.name) union_type_body_part

pub union_type_extension_laws : Laws union_type_extension_kind
union_type_extension_laws = extension_laws union_type_body union_type_adds (λ union. Some union.name)
    union_type_body_part union_type_tells

unfoldable pub enum_type_extension_part :
    KindPart enum_type_extension_kind excluded_after_directives (a_keyword (codes "extend") ∷ []) false (a_punctuator lbrace ∷ []) false
enum_type_extension_part = extension_part enum_type_body (braced_type_adds enum_value_definition_kind) (λ type. Some type.name) enum_type_body_part

pub enum_type_extension_laws : Laws enum_type_extension_kind
enum_type_extension_laws = extension_laws enum_type_body (braced_type_adds enum_value_definition_kind) (λ type. Some type.name)
    enum_type_body_part (braced_type_tells enum_value_definition_kind enum_value_definition_tells)

unfoldable pub input_object_type_extension_part : KindPart input_object_type_extension_kind excluded_after_directives
    (a_keyword (codes "extend") ∷ []) false (a_punctuator lbrace ∷ []) false
input_object_type_extension_part =
    extension_part input_object_type_body (braced_type_adds input_value_definition_kind) (λ type. Some type.name) input_object_type_body_part

pub input_object_type_extension_laws : Laws input_object_type_extension_kind
input_object_type_extension_laws = extension_laws input_object_type_body (braced_type_adds input_value_definition_kind) (λ type. Some type.name)
    input_object_type_body_part (braced_type_tells input_value_definition_kind input_value_definition_tells)

pub field_definition_laws : Laws field_definition_kind
field_definition_laws = part_laws field_definition_part (λ broken front tree. refl) field_definition_tells

pub enum_value_definition_laws : Laws enum_value_definition_kind
enum_value_definition_laws = part_laws enum_value_definition_part (λ broken front tree. refl) enum_value_definition_tells
