-- The variables of nodes, in order, as often as they are used.
use Rattle.std.specs.Prelude.{List, [], ◌∷◌}
use Rattle.std.specs.List.{flat_map}
use Rattle.graphql_text.specs.lexical.Literals.{NameText}
use Rattle.graphql_values.specs.kinds.Values.{variable}
use Rattle.graphql_visit.specs.NodeTrees.{NodeTree, Value}

abbrev pub variables_at : NodeTree → List NameText
variables_at (Value (variable name)) = name ∷ []
variables_at node = []

abbrev pub variables_of : List NodeTree → List NameText
variables_of = flat_map variables_at
