-- Of the flaws of kinds: they tell what the side conditions do.
use Rattle.std.proofs.Common.{Some, None}
use Rattle.graphql_text.specs.declared.ill_formed.SideCondition.TheVariants.{HasRootOperation, IsNotReserved}
use Rattle.graphql_text.specs.kinds.Flaws.{TellsFlaws, flaw_unless}
use Rattle.graphql_text.specs.kinds.Kinds.{Kind}
use Rattle.graphql_text.specs.parts.Members.{has_some, members_flaws}
use Rattle.graphql_text.proofs.kinds.FlawsTold.{all_tell, both_tell, unless_tells}
use Rattle.graphql_values.specs.kinds.ArgumentsDefinitions.{arguments_definition_flaws}
use Rattle.graphql_values.specs.kinds.Directives.{directives_flaws}
use Rattle.graphql_values.specs.kinds.Values.{Const, is_enum_name}
use Rattle.graphql_values.specs.lemmas.FlawsTold.{arguments_definition_tells, directives_tell}
use Rattle.graphql_type_system.specs.kinds.BracedTypes.{braced_type}
use Rattle.graphql_type_system.specs.kinds.EnumValueDefinitions.{enum_value_definition_kind}
use Rattle.graphql_type_system.specs.kinds.FieldDefinitions.{field_definition_kind}
use Rattle.graphql_type_system.specs.kinds.ImplementingTypes.{implementing_type}
use Rattle.graphql_type_system.specs.kinds.ScalarTypes.{scalar_type}
use Rattle.graphql_type_system.specs.kinds.Schemas.{extended_schema_body, schema_body}
use Rattle.graphql_type_system.specs.kinds.UnionTypes.{union_type}

pub schema_tells : TellsFlaws schema_body.obeys schema_body.flaws
schema_tells schema =
    both_tell (directives_flaws Const schema.directives) (flaw_unless (has_some schema.root_operations) HasRootOperation None)
    (directives_tell Const schema.directives) (unless_tells (has_some schema.root_operations) HasRootOperation None)

pub extended_schema_tells : TellsFlaws extended_schema_body.obeys extended_schema_body.flaws
extended_schema_tells schema = directives_tell Const schema.directives

pub scalar_type_tells : TellsFlaws scalar_type.obeys scalar_type.flaws
scalar_type_tells scalar = directives_tell Const scalar.directives

pub union_type_tells : TellsFlaws union_type.obeys union_type.flaws
union_type_tells union = directives_tell Const union.directives

pub field_definition_tells : TellsFlaws field_definition_kind.obeys field_definition_kind.flaws
field_definition_tells field =
    both_tell (arguments_definition_flaws field.body.arguments) (directives_flaws Const field.body.directives)
    (arguments_definition_tells field.body.arguments) (directives_tell Const field.body.directives)

pub enum_value_definition_tells : TellsFlaws enum_value_definition_kind.obeys enum_value_definition_kind.flaws
enum_value_definition_tells definition =
    let value = definition.body.value in
    both_tell (flaw_unless (is_enum_name value.text) IsNotReserved (Some value)) (directives_flaws Const definition.body.directives)
    (unless_tells (is_enum_name value.text) IsNotReserved (Some value)) (directives_tell Const definition.body.directives)

pub implementing_type_tells : TellsFlaws implementing_type.obeys implementing_type.flaws
implementing_type_tells type =
    both_tell (directives_flaws Const type.directives) (members_flaws field_definition_kind type.fields)
    (directives_tell Const type.directives) (all_tell field_definition_kind.flaws field_definition_tells type.fields)

pub braced_type_tells : (member : Kind) → TellsFlaws member.obeys member.flaws → TellsFlaws (braced_type member).obeys (braced_type member).flaws
braced_type_tells member tells type =
    both_tell (directives_flaws Const type.directives) (members_flaws member type.members)
    (directives_tell Const type.directives) (all_tell member.flaws tells type.members)
