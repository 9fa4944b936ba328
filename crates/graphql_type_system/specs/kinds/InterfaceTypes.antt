-- Interface types: InterfaceTypeDefinition and InterfaceTypeExtension, section 3.7.
use Rattle.std.specs.Prelude.{codes, Some}
use Rattle.graphql_text.specs.parts.Descriptions.{described}
use Rattle.graphql_text.specs.parts.Extensions.{extension}
use Rattle.graphql_text.specs.kinds.Kinds.{Kind}
use Rattle.graphql_type_system.specs.kinds.ImplementingTypes.{implementing_type, implementing_type_adds}
use Rattle.graphql_type_system.specs.kinds.Keywords.{after_keyword}

-- What a definition and an extension share.
abbrev pub interface_type_body : Kind
interface_type_body = after_keyword (codes "interface") implementing_type

abbrev pub interface_type_definition_kind : Kind
interface_type_definition_kind = described interface_type_body

abbrev pub interface_type_extension_kind : Kind
interface_type_extension_kind = extension interface_type_body implementing_type_adds (λ type. Some type.name)
