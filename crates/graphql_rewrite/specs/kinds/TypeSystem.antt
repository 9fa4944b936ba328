-- What is made of the definitions and extensions of the type system.
use Rattle.std.specs.Prelude.{map}
use Rattle.graphql_values.specs.kinds.DirectiveDefinitions.{directive_definition_kind}
use Rattle.graphql_type_system.specs.kinds.BracedTypes.{BracedTypeTree}
use Rattle.graphql_type_system.specs.kinds.EnumValueDefinitions.{enum_value_definition_kind}
use Rattle.graphql_type_system.specs.kinds.FieldDefinitions.{field_definition_kind}
use Rattle.graphql_type_system.specs.kinds.ImplementingTypes.{ImplementingTypeTree}
use Rattle.graphql_type_system.specs.kinds.ScalarTypes.{ScalarTypeTree}
use Rattle.graphql_type_system.specs.kinds.Schemas.{SchemaTree}
use Rattle.graphql_type_system.specs.kinds.UnionTypes.{UnionTypeTree}
use Rattle.graphql_rewrite.specs.Rewritings.{Rewriting}
use Rattle.graphql_rewrite.specs.kinds.Values.{with_body, rewritten_directives, rewritten_input_value_definition}

module _ (f : Rewriting) where
  -- MEMBERS

  abbrev pub rewritten_field_definition : field_definition_kind.Tree → field_definition_kind.Tree
  rewritten_field_definition = with_body (λ field. record {
    name = field.name;
    arguments = map (rewritten_input_value_definition f) field.arguments;
    type = field.type;
    directives = rewritten_directives f field.directives;
  })

  abbrev pub rewritten_enum_value_definition : enum_value_definition_kind.Tree → enum_value_definition_kind.Tree
  rewritten_enum_value_definition =
      with_body (λ definition. record { value = definition.value; directives = rewritten_directives f definition.directives })

  -- WHAT A DEFINITION AND AN EXTENSION SHARE

  abbrev pub rewritten_schema : SchemaTree → SchemaTree
  rewritten_schema schema =
      record { directives = rewritten_directives f schema.directives; root_operations = schema.root_operations }

  abbrev pub rewritten_scalar_type : ScalarTypeTree → ScalarTypeTree
  rewritten_scalar_type type = record { name = type.name; directives = rewritten_directives f type.directives }

  abbrev pub rewritten_implementing_type : ImplementingTypeTree → ImplementingTypeTree
  rewritten_implementing_type type = record {
    name = type.name;
    interfaces = type.interfaces;
    directives = rewritten_directives f type.directives;
    fields = map rewritten_field_definition type.fields;
  }

  abbrev pub rewritten_union_type : UnionTypeTree → UnionTypeTree
  rewritten_union_type type =
      record { name = type.name; directives = rewritten_directives f type.directives; members = type.members }

  abbrev pub rewritten_braced_type : {Member : Type 0} → (Member → Member) → BracedTypeTree Member → BracedTypeTree Member
  rewritten_braced_type member type =
      record { name = type.name; directives = rewritten_directives f type.directives; members = map member type.members }

  -- DEFINITIONS OF DIRECTIVES

  abbrev pub rewritten_directive_definition : directive_definition_kind.Tree → directive_definition_kind.Tree
  rewritten_directive_definition = with_body (λ definition. record {
    name = definition.name;
    arguments = map (rewritten_input_value_definition f) definition.arguments;
    repeatable = definition.repeatable;
    locations = definition.locations;
  })
