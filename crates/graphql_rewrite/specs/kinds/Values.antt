-- What is made of values, arguments, directives and definitions of input values.
use Rattle.std.specs.Prelude.{List, map}
use Rattle.std.specs.Option.{option_map}
use Rattle.graphql_text.specs.lexical.Literals.{NameText}
use Rattle.graphql_text.specs.parts.Descriptions.{Described}
use Rattle.graphql_values.specs.kinds.Arguments.{ArgumentTree}
use Rattle.graphql_values.specs.kinds.Directives.{DirectiveTree}
use Rattle.graphql_values.specs.kinds.InputValueDefinitions.{input_value_definition_kind}
use Rattle.graphql_values.specs.kinds.Values.{ValueTree, list_value, object_value, ValueTrees, no_values, more_values}
use Rattle.graphql_values.specs.kinds.Values.{ObjectFieldTrees, no_fields, more_fields}
use Rattle.graphql_rewrite.specs.Rewritings.{Rewriting}

-- a description stays
abbrev pub with_body : {Body : Type 0} → (Body → Body) → Described Body → Described Body
with_body made tree = record { description = tree.description; body = made tree.body }

module _ (f : Rewriting) where
  -- VALUES

  -- within a value: the items of a list, and the values of the fields of an object
  abbrev mutual
    pub rewritten_within : ValueTree → ValueTree
    rewritten_within (list_value items) = list_value (rewritten_values items)
    rewritten_within (object_value fields) = object_value (rewritten_object_fields fields)
    rewritten_within value = value

    pub rewritten_values : ValueTrees → ValueTrees
    rewritten_values no_values = no_values
    rewritten_values (more_values value more) = more_values (f.value (rewritten_within value)) (rewritten_values more)

    pub rewritten_object_fields : ObjectFieldTrees → ObjectFieldTrees
    rewritten_object_fields no_fields = no_fields
    rewritten_object_fields (more_fields name value more) = more_fields name (f.value (rewritten_within value)) (rewritten_object_fields more)

  abbrev pub rewritten_value : ValueTree → ValueTree
  rewritten_value value = f.value (rewritten_within value)

  abbrev pub rewritten_object_field : NameText × ValueTree → NameText × ValueTree
  rewritten_object_field field = (field.0, rewritten_value field.1)

  -- ARGUMENTS AND DIRECTIVES

  abbrev pub rewritten_argument : ArgumentTree → ArgumentTree
  rewritten_argument argument = record { name = argument.name; value = rewritten_value argument.value }

  abbrev pub rewritten_arguments : List ArgumentTree → List ArgumentTree
  rewritten_arguments arguments = f.arguments (map rewritten_argument arguments)

  abbrev pub rewritten_directive : DirectiveTree → DirectiveTree
  rewritten_directive directive = record { name = directive.name; arguments = rewritten_arguments directive.arguments }

  abbrev pub rewritten_directives : List DirectiveTree → List DirectiveTree
  rewritten_directives directives = f.directives (map rewritten_directive directives)

  -- DEFINITIONS OF INPUT VALUES

  abbrev pub rewritten_input_value_definition : input_value_definition_kind.Tree → input_value_definition_kind.Tree
  rewritten_input_value_definition = with_body (λ input. record {
    name = input.name;
    type = input.type;
    default_value = option_map rewritten_value input.default_value;
    directives = rewritten_directives input.directives;
  })
