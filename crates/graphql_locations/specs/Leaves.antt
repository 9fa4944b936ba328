-- The source locations in names, texts and nodes, and in parts that are optional or lists.
use Rattle.std.specs.Prelude.{List, [], ◌∷◌, ◌++◌, Option, Some, None}
use Rattle.std.specs.List.{flat_map}
use Rattle.graphql_base.specs.declared.name.Name.{Name}
use Rattle.graphql_base.specs.declared.node.Node.{Node}
use Rattle.graphql_base.specs.declared.node_str.NodeStr.{NodeStr}
use Rattle.graphql_base.specs.declared.span.SourceSpan.{SourceSpan}
use Rattle.graphql_base.specs.Name.{name_location}
use Rattle.graphql_base.specs.Node.{node_location, node_str_location, node_value}

-- a location, if there is one
abbrev pub known_locations : Option SourceSpan → List SourceSpan
known_locations None = []
known_locations (Some span) = span ∷ []

abbrev pub name_locations : Name → List SourceSpan
name_locations name = known_locations (name_location name)

abbrev pub text_locations : NodeStr → List SourceSpan
text_locations text = known_locations (node_str_location text)

-- of what a part has, those within it
module _ {T : Type 0} (within : T → List SourceSpan) where
  abbrev pub optional_locations : Option T → List SourceSpan
  optional_locations None = []
  optional_locations (Some part) = within part

  abbrev pub list_locations : List T → List SourceSpan
  list_locations = flat_map within

  -- that of the node itself, and those within its value
  abbrev pub node_locations : Node T → List SourceSpan
  node_locations node = known_locations (node_location node) ++ within (node_value node)

  -- those of a name and of the node behind it
  abbrev pub named_node_locations : Name × Node T → List SourceSpan
  named_node_locations pair = name_locations pair.0 ++ node_locations pair.1
