-- JSON that is read as a node, in either form.
use Rattle.std.specs.Prelude.{ℕ, List, [], ◌∷◌, Bool, true, false, not, Option, Some, option_and_then, codes}
use Rattle.std.specs.Option.{option_map_or, unwrap_or}
use Rattle.serde_json.specs.Data.{Data, null, boolean, number, string, array, object, Items, item, Members, no_members, member}
use Rattle.serde_json.specs.Find.{as_array, as_str, get}
use Rattle.graphql_text.specs.grammar.Forms.{is_one_of}
use Rattle.parsed_json.specs.AnyJson.{any_data}
use Rattle.ast_json_nodes.specs.declared.error.JsonType.{JsonType}
use Rattle.ast_json_nodes.specs.declared.error.JsonType.TheVariants as json_type
use Rattle.ast_json_nodes.specs.declared.read.JsonNode.{JsonNode}
use Rattle.ast_json_nodes.specs.declared.read.Unknown.{Unknown}
use Rattle.ast_json_nodes.specs.nodes.Nodes.{member_of, names_among}

-- the JSON that is read
abbrev pub node_data : JsonNode → Data
node_data node = any_data node.json

-- what is read is of this tree, by the reader's rule for what is unknown
abbrev pub IsReadFrom : {Tree : Type 0} → (Unknown → Tree → Data → Type 0) → JsonNode → Tree → Type 0
IsReadFrom Is node tree = Is node.unknown tree (node_data node)

-- it is of no tree
abbrev pub IsFromNone : {Tree : Type 0} → (Unknown → Tree → Data → Type 0) → JsonNode → Type 0
IsFromNone {Tree = Tree} Is node = (tree : Tree) → Is node.unknown tree (node_data node) → ⊥

-- it is an object that has a member of another name
abbrev pub has_other_names : List (List ℕ) → Data → Bool
has_other_names names (object members) = not (names_among names members)
has_other_names names _ = false

-- the names of the members, in order
abbrev pub member_names : Members → List (List ℕ)
member_names no_members = []
member_names (member name _ more) = name ∷ member_names more

-- the type of JSON
abbrev pub type_of : Data → JsonType
type_of null = json_type.Null
type_of (boolean b) = json_type.Boolean
type_of (number n) = json_type.Number
type_of (string s) = json_type.Text
type_of (array js) = json_type.Array
type_of (object ms) = json_type.Object

-- the kind that a node tells, or else the word `node`
abbrev pub told_kind : Data → List ℕ
told_kind json = unwrap_or (option_and_then as_str (get (codes "kind") json)) (codes "node")

abbrev pub has_none : Option Items → Bool
has_none (Some (item _ _)) = false
has_none _ = true

-- the member of this name is no list, or an empty one
abbrev pub lacks : List ℕ → Data → Bool
lacks name json = has_none (option_and_then as_array (member_of name json))

-- the text of a node is one of these
abbrev pub has_text_of : List (List ℕ) → Data → Bool
has_text_of texts json = option_map_or (is_one_of texts) (option_and_then as_str (member_of (codes "value") json)) false
