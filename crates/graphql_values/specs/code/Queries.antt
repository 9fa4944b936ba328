-- What is looked up by name and asked: the arguments of a directive, the directives of a list, the arguments of a directive definition, and
-- directive definitions in a map.
use Rattle.std.specs.Prelude.{ℕ, ◌+◌, Bool, ◌&&◌, List, Option, drop, filter, is_none, nat_eq, position}
use Rattle.std.specs.Cmp.Lexicographic.{pointwise}
use Rattle.std.specs.List.{find, list_any}
use Rattle.std.specs.Map.{lookup}
use Rattle.std.specs.Option.{option_map}
use Rattle.std.specs.Str.{bytes_eq}
use Rattle.graphql_base.specs.declared.name.Name.{Name}
use Rattle.graphql_base.specs.declared.node.Node.{Node}
use Rattle.graphql_base.specs.Name.{name_text}
use Rattle.graphql_base.specs.Node.{node_value}
use Rattle.graphql_values.specs.trees.TypeTrees.{type_tree}
use Rattle.graphql_values.specs.kinds.Wrappings.{is_non_null}
use Rattle.graphql_values.specs.declared.argument.Argument.{Argument}
use Rattle.graphql_values.specs.declared.directive.Directive.{Directive}
use Rattle.graphql_values.specs.declared.directive_definition.DirectiveDefinition.{DirectiveDefinition}
use Rattle.graphql_values.specs.declared.directive_list.GetAll.{GetAll}
use Rattle.graphql_values.specs.declared.input_value_definition.InputValueDefinition.{InputValueDefinition}
use Rattle.graphql_values.specs.declared.value.Value.{Value}

-- whether the name is that text
abbrev pub is_named : List ℕ → Name → Bool
is_named text name = pointwise nat_eq (name_text name) text

-- ARGUMENTS

-- the value of an argument
abbrev pub argument_value : Node Argument → Node Value
argument_value argument = (node_value argument).value

abbrev pub is_argument_named : List ℕ → Node Argument → Bool
is_argument_named text argument = is_named text (node_value argument).name

-- the first argument of that name
abbrev pub first_argument_named : List ℕ → List (Node Argument) → Option (Node Argument)
first_argument_named text = find (is_argument_named text)

-- DIRECTIVES

abbrev pub is_directive_named : List ℕ → Node Directive → Bool
is_directive_named text directive = is_named text (node_value directive).name

-- the directives of that name, in order
abbrev pub all_directives_named : List ℕ → List (Node Directive) → List (Node Directive)
all_directives_named text = filter (is_directive_named text)

-- those that are still to come
abbrev pub directives_left : GetAll → List (Node Directive)
directives_left all = all_directives_named all.name.now all.rest.now

-- the first directive of that name
abbrev pub first_directive_named : List ℕ → List (Node Directive) → Option (Node Directive)
first_directive_named text = find (is_directive_named text)

-- whether there is one
abbrev pub has_directive_named : List ℕ → List (Node Directive) → Bool
has_directive_named text = list_any (is_directive_named text)

-- the least position, counted from 0 and not below another, of a directive of that name
abbrev pub next_directive_named : List ℕ → ℕ → List (Node Directive) → Option ℕ
next_directive_named text from directives = option_map (λ place. from + place) (position (is_directive_named text) (drop from directives))

-- DEFINITIONS

abbrev pub is_input_value_definition_named : List ℕ → Node InputValueDefinition → Bool
is_input_value_definition_named text input = is_named text (node_value input).name

-- the first input value of that name
abbrev pub first_input_value_definition_named : List ℕ → List (Node InputValueDefinition) → Option (Node InputValueDefinition)
first_input_value_definition_named text = find (is_input_value_definition_named text)

-- the definition that the entries of a map have under that name: the key decides, not the definition's own name
abbrev pub definition_under : List ℕ → List (Name × Node DirectiveDefinition) → Option (Node DirectiveDefinition)
definition_under text = lookup (λ key. bytes_eq text (name_text key))

-- Whether an input value must be given (Required Arguments, section 5.4.2.1; Input Object Required Fields, section 5.6.4): its type is non-null
-- and it has no default value.
abbrev pub is_required : InputValueDefinition → Bool
is_required input = is_non_null (type_tree (node_value input.ty)) && is_none input.default_value
