-- The fragments that are spread within nodes, and those that are reached from there: FragmentSpread, section 2.8.
use Rattle.std.specs.Prelude.{ℕ, zero, suc, List, [], ◌∷◌, ◌++◌, Bool, false, Option, Some, None, filter, length, nat_eq}
use Rattle.std.specs.Cmp.Lexicographic.{pointwise}
use Rattle.std.specs.List.{flat_map, list_any}
use Rattle.std.specs.Option.{option_map_or}
use Rattle.graphql_text.specs.lexical.Literals.{NameText}
use Rattle.graphql_executable.specs.kinds.Selections.{spread_selection}
use Rattle.graphql_ast.specs.Definitions.{DefinitionName, DefinitionTree, kind_named}
use Rattle.graphql_ast.specs.Definitions as name
use Rattle.graphql_visit.specs.NodeTrees.{NodeTree, Selection}
use Rattle.graphql_visit.specs.Visits.{nodes_of, one}
use Rattle.graphql_visit.specs.kinds.Documents.{definition_visited}

-- the name of the fragment that is spread at a node
abbrev pub spreads_at : NodeTree → List NameText
spreads_at (Selection (spread_selection spread)) = spread.name ∷ []
spreads_at node = []

-- within nodes, in order, as often as they are spread
abbrev pub spreads_of : List NodeTree → List NameText
spreads_of = flat_map spreads_at

abbrev pub spreads_within : DefinitionTree → List NameText
spreads_within definition = spreads_of (nodes_of (one definition_visited definition))

-- whether a name is one of these
abbrev pub is_one_of : List NameText → NameText → Bool
is_one_of names name = list_any (λ other. pointwise nat_eq other.text name.text) names

-- the name of a fragment
abbrev pub fragment_name : (definition : DefinitionName) → (kind_named definition).Tree → Option NameText
fragment_name name.FragmentDefinition tree = Some tree.body.name
fragment_name definition tree = None

-- whether a definition is a fragment of one of these names
abbrev pub is_fragment_of : List NameText → DefinitionTree → Bool
is_fragment_of names definition = option_map_or (is_one_of names) (fragment_name definition.name definition.tree) false

-- the names, and those that are spread in fragments of these names
abbrev pub further : List DefinitionTree → List NameText → List NameText
further definitions names = names ++ flat_map spreads_within (filter (is_fragment_of names) definitions)

abbrev pub after_steps : ℕ → List DefinitionTree → List NameText → List NameText
after_steps zero definitions names = names
after_steps (suc steps) definitions names = further definitions (after_steps steps definitions names)

-- what is reached from these names at all is reached in as many steps as there are definitions
abbrev pub reached_from : List DefinitionTree → List NameText → List NameText
reached_from definitions = after_steps (length definitions) definitions

-- the fragments that are reached from nodes
abbrev pub fragments_reached : List DefinitionTree → List NodeTree → List DefinitionTree
fragments_reached definitions nodes = filter (is_fragment_of (reached_from definitions (spreads_of nodes))) definitions
