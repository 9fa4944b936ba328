-- What contracts see of a node: its value or text, and its location.
use Rattle.std.specs.Prelude.{◌≡◌, ℕ, List, Option}
use Rattle.graphql_base.specs.declared.span.SourceSpan.{SourceSpan}
use Rattle.graphql_base.specs.declared.node.Node.{Node}
use Rattle.graphql_base.specs.declared.node_str.NodeStr.{NodeStr}

module _ {T : Type 0} where
  abbrev pub node_value : Node T → T
  node_value node = node.value

  abbrev pub node_location : Node T → Option SourceSpan
  node_location node = node.location

  -- the node of this value at this location
  abbrev pub node_at : Option SourceSpan → T → Node T
  node_at location value = record { value = value; location = location }

  -- the node at the same location with another value
  abbrev pub with_node_value : Node T → T → Node T
  with_node_value node value = node_at (node_location node) value

abbrev pub node_str_text : NodeStr → List ℕ
node_str_text node = node.text

abbrev pub node_str_location : NodeStr → Option SourceSpan
node_str_location node = node.location

-- a node of this text at this location
abbrev pub IsNodeStrAt : Option SourceSpan → List ℕ → NodeStr → Type 0
IsNodeStrAt location text node = (node_str_text node ≡ text) × (node_str_location node ≡ location)
