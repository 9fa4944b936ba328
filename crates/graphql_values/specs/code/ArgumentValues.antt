-- The value that an argument of a directive has: what the directive specifies, or else what the directive's definition says.
use Rattle.std.specs.Prelude.{ℕ, if◌then◌else◌, List, Option, Some, None, Result, Ok, Err, unwrap_or, option_map}
use Rattle.graphql_base.specs.declared.name.Name.{Name}
use Rattle.graphql_base.specs.declared.node.Node.{Node}
use Rattle.graphql_base.specs.Name.{name_text}
use Rattle.graphql_base.specs.Node.{node_value}
use Rattle.graphql_values.specs.code.Queries.{argument_value, first_argument_named, definition_under, first_input_value_definition_named}
use Rattle.graphql_values.specs.trees.TypeTrees.{type_tree}
use Rattle.graphql_values.specs.kinds.Wrappings.{is_non_null}
use Rattle.graphql_values.specs.declared.directive.ArgumentByNameError.{ArgumentByNameError}
use Rattle.graphql_values.specs.declared.directive.ArgumentByNameError.TheVariants.{UndefinedDirective, NoSuchArgument, RequiredArgumentNotSpecified}
use Rattle.graphql_values.specs.declared.directive.ArgumentValue.{ArgumentValue}
use Rattle.graphql_values.specs.declared.directive.ArgumentValue.TheVariants as answer
use Rattle.graphql_values.specs.declared.directive_definition.DirectiveDefinition.{DirectiveDefinition}
use Rattle.graphql_values.specs.declared.input_value_definition.InputValueDefinition.{InputValueDefinition}
use Rattle.graphql_values.specs.declared.directive.Directive.{Directive}
use Rattle.graphql_values.specs.declared.value.Value.{Value}

-- a value, or `None` for the null that nobody wrote; or why there is none
abbrev pub ArgumentAnswer : Type 0
ArgumentAnswer = Result (Option (Node Value)) ArgumentByNameError

-- what the code answers
abbrev pub argument_answer : Result ArgumentValue ArgumentByNameError → ArgumentAnswer
argument_answer (Ok (answer.Value value)) = Ok (Some value.now)
argument_answer (Ok answer.ImplicitNull) = Ok None
argument_answer (Err error) = Err error

-- what the definition of the argument says: its default value, or else null where the type admits it
abbrev answer_of_input_value_definition : Node InputValueDefinition → ArgumentAnswer
answer_of_input_value_definition input =
    let without_default = if is_non_null (type_tree (node_value (node_value input).ty)) then Err RequiredArgumentNotSpecified else Ok None in
    unwrap_or (option_map (λ value. Ok (Some value)) (node_value input).default_value) without_default

-- what the definition of the directive says
abbrev answer_of_definition : List ℕ → Node DirectiveDefinition → ArgumentAnswer
answer_of_definition text definition =
    unwrap_or
    (option_map answer_of_input_value_definition (first_input_value_definition_named text (node_value definition).arguments.items))
    (Err NoSuchArgument)

-- The answer for the argument of that name. The first specified argument decides, whatever the definitions say.
abbrev pub argument_by_name : Directive → List ℕ → List (Name × Node DirectiveDefinition) → ArgumentAnswer
argument_by_name directive text definitions =
    let by_definition = unwrap_or (option_map (answer_of_definition text) (definition_under (name_text directive.name) definitions)) (Err UndefinedDirective) in
    unwrap_or (option_map (λ argument. Ok (Some (argument_value argument))) (first_argument_named text directive.arguments.items)) by_definition
