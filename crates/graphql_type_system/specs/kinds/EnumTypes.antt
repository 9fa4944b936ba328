-- Enum types: EnumTypeDefinition and EnumTypeExtension, section 3.9.
use Rattle.std.specs.Prelude.{codes, Some}
use Rattle.graphql_text.specs.parts.Descriptions.{described}
use Rattle.graphql_text.specs.parts.Extensions.{extension}
use Rattle.graphql_text.specs.kinds.Kinds.{Kind}
use Rattle.graphql_type_system.specs.kinds.BracedTypes.{braced_type, braced_type_adds}
use Rattle.graphql_type_system.specs.kinds.EnumValueDefinitions.{enum_value_definition_kind}
use Rattle.graphql_type_system.specs.kinds.Keywords.{after_keyword}

-- What a definition and an extension share.
abbrev pub enum_type_body : Kind
enum_type_body = after_keyword (codes "enum") (braced_type enum_value_definition_kind)

abbrev pub enum_type_definition_kind : Kind
enum_type_definition_kind = described enum_type_body

abbrev pub enum_type_extension_kind : Kind
enum_type_extension_kind = extension enum_type_body (braced_type_adds enum_value_definition_kind) (λ type. Some type.name)
