-- Of the flaws of kinds: they tell what the side conditions do.
use Rattle.std.proofs.Common.{◌≡◌, Some, refl}
use Rattle.graphql_text.specs.declared.ill_formed.SideCondition.TheVariants.{HasLocation, IsConstant, IsNotReserved}
use Rattle.graphql_text.specs.kinds.Flaws.{TellsFlaws, flaw_unless, has_no_flaw}
use Rattle.graphql_text.specs.parts.Members.{has_some}
use Rattle.graphql_text.proofs.kinds.FlawsTold.{all_tell, both_tell, optional_tells, unless_tells}
use Rattle.graphql_values.specs.kinds.Arguments.{argument_flaws, argument_obeys, arguments_flaws, arguments_obey}
use Rattle.graphql_values.specs.kinds.ArgumentsDefinitions.{arguments_definition_flaws, arguments_definition_obeys}
use Rattle.graphql_values.specs.kinds.DefaultValues.{default_value_flaws, default_value_obeys}
use Rattle.graphql_values.specs.kinds.DirectiveDefinitions.{directive_definition_kind}
use Rattle.graphql_values.specs.kinds.Directives.{directive_flaws, directive_obeys, directives_flaws, directives_obey}
use Rattle.graphql_values.specs.kinds.InputValueDefinitions.{input_value_definition_kind}
use Rattle.graphql_values.specs.kinds.Values.{Constness, Const, admits_variables, is_enum_name, value_flaws, value_obeys, values_flaws, values_obey}
use Rattle.graphql_values.specs.kinds.Values.{object_fields_flaws, object_fields_obey, ValueTree, ValueTrees, ObjectFieldTrees, no_values, more_values}
use Rattle.graphql_values.specs.kinds.Values.{no_fields, more_fields, enum_value, variable, list_value, object_value}

mutual
  pub value_tells : (c : Constness) (value : ValueTree) → value_obeys c value ≡ has_no_flaw (value_flaws c value)
  value_tells c (enum_value name) = unless_tells (is_enum_name name.text) IsNotReserved (Some name)
  value_tells c (variable name) = unless_tells (admits_variables c) IsConstant (Some name)
  value_tells c (list_value items) = values_tell c items
  value_tells c (object_value fields) = object_fields_tell c fields
  value_tells c _ = refl

  pub values_tell : (c : Constness) (values : ValueTrees) → values_obey c values ≡ has_no_flaw (values_flaws c values)
  values_tell c no_values = refl
  values_tell c (more_values value more) = both_tell (value_flaws c value) (values_flaws c more) (value_tells c value) (values_tell c more)

  pub object_fields_tell : (c : Constness) (fields : ObjectFieldTrees) → object_fields_obey c fields ≡ has_no_flaw (object_fields_flaws c fields)
  object_fields_tell c no_fields = refl
  object_fields_tell c (more_fields name value more) =
      both_tell (value_flaws c value) (object_fields_flaws c more) (value_tells c value) (object_fields_tell c more)

pub argument_tells : (c : Constness) → TellsFlaws (argument_obeys c) (argument_flaws c)
argument_tells c argument = value_tells c argument.value

pub arguments_tell : (c : Constness) → TellsFlaws (arguments_obey c) (arguments_flaws c)
arguments_tell c = all_tell (argument_flaws c) (argument_tells c)

pub directive_tells : (c : Constness) → TellsFlaws (directive_obeys c) (directive_flaws c)
directive_tells c directive = arguments_tell c directive.arguments

pub directives_tell : (c : Constness) → TellsFlaws (directives_obey c) (directives_flaws c)
directives_tell c = all_tell (directive_flaws c) (directive_tells c)

pub default_value_tells : TellsFlaws default_value_obeys default_value_flaws
default_value_tells = optional_tells (value_flaws Const) (value_tells Const)

pub input_value_definition_tells : TellsFlaws input_value_definition_kind.obeys input_value_definition_kind.flaws
input_value_definition_tells input =
    both_tell (default_value_flaws input.body.default_value) (directives_flaws Const input.body.directives)
    (default_value_tells input.body.default_value) (directives_tell Const input.body.directives)

pub arguments_definition_tells : TellsFlaws arguments_definition_obeys arguments_definition_flaws
arguments_definition_tells = all_tell input_value_definition_kind.flaws input_value_definition_tells

pub directive_definition_tells : TellsFlaws directive_definition_kind.obeys directive_definition_kind.flaws
directive_definition_tells definition =
    both_tell (arguments_definition_flaws definition.body.arguments)
    (flaw_unless (has_some definition.body.locations) HasLocation (Some definition.body.name))
    (arguments_definition_tells definition.body.arguments)
    (unless_tells (has_some definition.body.locations) HasLocation (Some definition.body.name))
