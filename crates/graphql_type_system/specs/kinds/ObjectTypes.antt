-- Object types: ObjectTypeDefinition and ObjectTypeExtension, section 3.6.
use Rattle.std.specs.Prelude.{codes, Some}
use Rattle.graphql_text.specs.parts.Descriptions.{described}
use Rattle.graphql_text.specs.parts.Extensions.{extension}
use Rattle.graphql_text.specs.kinds.Kinds.{Kind}
use Rattle.graphql_type_system.specs.kinds.ImplementingTypes.{implementing_type, implementing_type_adds}
use Rattle.graphql_type_system.specs.kinds.Keywords.{after_keyword}

-- What a definition and an extension share.
abbrev pub object_type_body : Kind
object_type_body = after_keyword (codes "type") implementing_type

abbrev pub object_type_definition_kind : Kind
object_type_definition_kind = described object_type_body

abbrev pub object_type_extension_kind : Kind
object_type_extension_kind = extension object_type_body implementing_type_adds (λ type. Some type.name)
