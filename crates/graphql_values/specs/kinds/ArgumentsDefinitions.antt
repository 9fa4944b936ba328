-- Arguments definitions of fields and directives: ArgumentsDefinition, section 3.6.1.
use Rattle.std.specs.Prelude.{ℕ, List, Bool, false, ◌||◌, is_some}
use Rattle.std.specs.List.{list_all, flat_map}
use Rattle.graphql_text.specs.grammar.Forms.{Form}
use Rattle.graphql_text.specs.kinds.Flaws.{Flaw}
use Rattle.graphql_text.specs.parts.Greatest.{greatest}
use Rattle.graphql_text.specs.layout.Layout.{Item}
use Rattle.graphql_text.specs.parts.Members.{has_some}
use Rattle.graphql_text.specs.parts.Parentheses.{parentheses_form, parentheses_shape, parentheses_nesting}
use Rattle.graphql_values.specs.kinds.InputValueDefinitions.{input_value_definition_kind}
use Rattle.graphql_values.specs.kinds.TypeReferences.{list_depth}

-- The grammar of ArgumentsDefinition, section 3.6.1, or nothing where there is no argument.
abbrev pub arguments_definition_form : List input_value_definition_kind.Tree → Form
arguments_definition_form = parentheses_form input_value_definition_kind.form

-- an argument with a description or a directive wants a line of its own
abbrev pub wants_lines : input_value_definition_kind.Tree → Bool
wants_lines argument = is_some argument.description || has_some argument.body.directives

-- The layout of an arguments definition. It stands on one line in every layout, unless one of its arguments wants a line of its own; then it
-- has the mode around it.
abbrev pub arguments_definition_shape : Bool → List input_value_definition_kind.Tree → List Item
arguments_definition_shape = parentheses_shape wants_lines (λ broken. input_value_definition_kind.shape broken false)

abbrev pub arguments_definition_nesting : List input_value_definition_kind.Tree → ℕ
arguments_definition_nesting = parentheses_nesting input_value_definition_kind.nesting

abbrev pub arguments_definition_obeys : List input_value_definition_kind.Tree → Bool
arguments_definition_obeys = list_all input_value_definition_kind.obeys

abbrev pub arguments_definition_flaws : List input_value_definition_kind.Tree → List Flaw
arguments_definition_flaws = flat_map input_value_definition_kind.flaws

-- the list depth of the type that has the most lists
abbrev pub arguments_list_depth : List input_value_definition_kind.Tree → ℕ
arguments_list_depth = greatest (λ argument. list_depth argument.body.type)
