-- Input object types: InputObjectTypeDefinition and InputObjectTypeExtension, section 3.10.
use Rattle.std.specs.Prelude.{codes, Some}
use Rattle.graphql_text.specs.parts.Descriptions.{described}
use Rattle.graphql_text.specs.parts.Extensions.{extension}
use Rattle.graphql_text.specs.kinds.Kinds.{Kind}
use Rattle.graphql_values.specs.kinds.InputValueDefinitions.{input_value_definition_kind}
use Rattle.graphql_type_system.specs.kinds.BracedTypes.{braced_type, braced_type_adds}
use Rattle.graphql_type_system.specs.kinds.Keywords.{after_keyword}

-- What a definition and an extension share. InputFieldsDefinition, section 3.10, holds definitions of input values.
abbrev pub input_object_type_body : Kind
input_object_type_body = after_keyword (codes "input") (braced_type input_value_definition_kind)

abbrev pub input_object_type_definition_kind : Kind
input_object_type_definition_kind = described input_object_type_body

abbrev pub input_object_type_extension_kind : Kind
input_object_type_extension_kind = extension input_object_type_body (braced_type_adds input_value_definition_kind) (λ type. Some type.name)
