-- What a document of the code answers: its operations and fragments, the extensions of a type, and the first definition of a name or with a flaw.
use Rattle.std.specs.Prelude.{ℕ, Bool, true, false, ◌&&◌, not, List, Option, Some, None, filter}
use Rattle.std.specs.List.{filter_map, find}
use Rattle.std.specs.Option.{option_and_then}
use Rattle.graphql_base.specs.declared.name.Name.{Name}
use Rattle.graphql_base.specs.declared.node.Node.{Node}
use Rattle.graphql_base.specs.Node.{node_value}
use Rattle.graphql_values.specs.code.Queries.{is_named}
use Rattle.graphql_values.specs.declared.directive_definition.DirectiveDefinition.{DirectiveDefinition}
use Rattle.graphql_executable.specs.declared.fragment_definition.FragmentDefinition.{FragmentDefinition}
use Rattle.graphql_executable.specs.declared.operation_definition.OperationDefinition.{OperationDefinition}
use Rattle.graphql_ast.specs.DefinitionQueries.{definition_name, is_extension, is_type_definition}
use Rattle.graphql_ast.specs.DefinitionQueries.{directive_definition_of, fragment_definition_of, operation_definition_of}
use Rattle.graphql_ast.specs.AstTrees.{definition_tree}
use Rattle.graphql_ast.specs.Definitions.{definition_kind}
use Rattle.graphql_ast.specs.declared.definition.Definition.{Definition}
use Rattle.graphql_ast.specs.declared.definition.Definition.TheVariants as variant
use Rattle.graphql_ast.specs.declared.document.look_ups.Extensions.{Extensions}
use Rattle.graphql_ast.specs.declared.document.look_ups.Fragments.{Fragments}
use Rattle.graphql_ast.specs.declared.document.look_ups.Operations.{Operations}

-- whether it has that name, or none where none is asked for
abbrev pub has_name : Option (List ℕ) → Option Name → Bool
has_name (Some text) (Some name) = is_named text name
has_name None None = true
has_name _ _ = false

-- whether it breaks a side condition
abbrev pub is_ill_formed : Definition → Bool
is_ill_formed definition = not (definition_kind.obeys (definition_tree definition))

-- OPERATIONS

-- the operations, in order
abbrev pub operations : List Definition → List (Node OperationDefinition)
operations = filter_map operation_definition_of

-- those that are still to come
abbrev pub operations_left : Operations → List (Node OperationDefinition)
operations_left all = operations all.rest.now

abbrev pub is_operation_named : Option (List ℕ) → Node OperationDefinition → Bool
is_operation_named text operation = has_name text (node_value operation).name

-- the first operation of that name, or the first anonymous one where none is asked for
abbrev pub first_operation_named : Option (List ℕ) → List Definition → Option (Node OperationDefinition)
first_operation_named text definitions = find (is_operation_named text) (operations definitions)

-- FRAGMENTS

-- the fragments, in order
abbrev pub fragments : List Definition → List (Node FragmentDefinition)
fragments = filter_map fragment_definition_of

-- those that are still to come
abbrev pub fragments_left : Fragments → List (Node FragmentDefinition)
fragments_left all = fragments all.rest.now

abbrev pub is_fragment_named : List ℕ → Node FragmentDefinition → Bool
is_fragment_named text fragment = is_named text (node_value fragment).name

-- the first fragment of that name
abbrev pub first_fragment_named : List ℕ → List Definition → Option (Node FragmentDefinition)
first_fragment_named text definitions = find (is_fragment_named text) (fragments definitions)

-- TYPES AND DIRECTIVES

abbrev pub is_type_definition_named : List ℕ → Definition → Bool
is_type_definition_named text definition = is_type_definition definition && has_name (Some text) (definition_name definition)

-- the first definition of a type of that name
abbrev pub first_type_definition_named : List ℕ → List Definition → Option Definition
first_type_definition_named text = find (is_type_definition_named text)

abbrev pub is_extension_named : List ℕ → Definition → Bool
is_extension_named text definition = is_extension definition && has_name (Some text) (definition_name definition)

-- the extensions of the type of that name, in order
abbrev pub extensions_named : List ℕ → List Definition → List Definition
extensions_named text = filter (is_extension_named text)

-- those that are still to come
abbrev pub extensions_left : Extensions → List Definition
extensions_left all = extensions_named all.name.now all.rest.now

abbrev pub is_directive_definition_named : List ℕ → Definition → Bool
is_directive_definition_named text (variant.DirectiveDefinition node) = is_named text (node_value node).name
is_directive_definition_named text _ = false

-- the first definition of a directive of that name
abbrev pub first_directive_definition_named : List ℕ → List Definition → Option (Node DirectiveDefinition)
first_directive_definition_named text definitions = option_and_then directive_definition_of (find (is_directive_definition_named text) definitions)
