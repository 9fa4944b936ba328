-- Which error is told of JSON that is of no tree: its problem, and where from the node that is read it stands.
use Rattle.std.specs.Prelude.{◌≡◌, ◌≢◌, ℕ, List, [], ◌∷◌, ◌++◌, length, take, Option, Some, None, IsSomeAnd, MatchOption}
use Rattle.std.specs.Prelude.{option_and_then, codes, false, if◌then◌else◌, nat_lt, string_bytes}
use Rattle.std.specs.Str.{chars}
use Rattle.graphql_text.specs.grammar.Forms.{is_one_of}
use Rattle.serde_json.specs.Data.{Data, Items, object}
use Rattle.serde_json.specs.Find.{as_array, as_str}
use Rattle.serde_json.specs.View.{items_of}
use Rattle.ast_json_nodes.specs.code.Errors.{IsMemory}
use Rattle.ast_json_nodes.specs.code.JsonNodes.{member_names, node_data, told_kind, type_of}
use Rattle.ast_json_nodes.specs.code.NodeReading.{IsInFile, StandsAt}
use Rattle.ast_json_nodes.specs.code.Paths.{item_name, path_in, path_text}
use Rattle.ast_json_nodes.specs.declared.error.AstJsonError.{AstJsonError}
use Rattle.ast_json_nodes.specs.declared.error.AstJsonError.TheVariants.{Invalid}
use Rattle.ast_json_nodes.specs.declared.error.AstJsonProblem.{AstJsonProblem}
use Rattle.ast_json_nodes.specs.declared.error.AstJsonProblem.TheVariants.{WrongType, MissingMember, UnknownMember, UnknownKind, WrongText}
use Rattle.ast_json_nodes.specs.declared.error.Excerpt.{Excerpt}
use Rattle.ast_json_nodes.specs.declared.error.JsonPath.{JsonPath}
use Rattle.ast_json_nodes.specs.declared.error.JsonType.{JsonType}
use Rattle.ast_json_nodes.specs.declared.error.JsonType.TheVariants.{Array, Boolean, Object, Text}
use Rattle.ast_json_nodes.specs.declared.error.NodeLocation.{NodeLocation}
use Rattle.ast_json_nodes.specs.declared.read.JsonNode.{JsonNode}
use Rattle.ast_json_nodes.specs.nodes.Nodes.{Each, IsName, IsNode, items_or_none, member_of}

-- the first 60 characters of a text, and whether it has more
abbrev pub IsExcerptOf : List ℕ → Excerpt → Type 0
IsExcerptOf text excerpt = (chars (string_bytes excerpt.text) ≡ take 60 (chars text)) × (excerpt.is_cut ≡ nat_lt 60 (length (chars text)))

-- JSON of this type was found where that one was wanted
abbrev pub IsWrongType : Data → JsonType → AstJsonProblem → Type 0
IsWrongType json type problem = problem ≡ WrongType (type_of json) type

-- a member of this name is missing, which each of those has
abbrev pub IsMissing : List ℕ → List ℕ → AstJsonProblem → Type 0
IsMissing name each (MissingMember told of) = (string_bytes told ≡ name) × (string_bytes of ≡ each)
IsMissing name each _ = ⊥

-- a member of this name was found, which none of those has
abbrev pub IsUnknownMember : List ℕ → List ℕ → AstJsonProblem → Type 0
IsUnknownMember name each (UnknownMember told of) = IsExcerptOf name told × (string_bytes of ≡ each)
IsUnknownMember name each _ = ⊥

-- this kind was found where that one was wanted
abbrev pub IsUnknownKind : List ℕ → List ℕ → AstJsonProblem → Type 0
IsUnknownKind found kind (UnknownKind told wanted) = IsExcerptOf found told × (string_bytes wanted ≡ kind)
IsUnknownKind found kind _ = ⊥

-- this text was found where that was wanted
abbrev pub IsWrongText : List ℕ → List ℕ → AstJsonProblem → Type 0
IsWrongText found what (WrongText told wanted) = IsExcerptOf found told × (string_bytes wanted ≡ what)
IsWrongText found what _ = ⊥

-- there is a problem, and this is so of its path, its location and itself
abbrev pub IsInvalidAnd : (JsonPath → NodeLocation → AstJsonProblem → Type 0) → AstJsonError → Type 0
IsInvalidAnd Is (Invalid path location problem) = Is path location problem
IsInvalidAnd Is _ = ⊥

-- the location is what the node tells
abbrev pub IsLocationOf : JsonNode → NodeLocation → Type 0
IsLocationOf node location = StandsAt location.0 (node_data node) × IsInFile node.source location.0

-- there is such a problem at this path from the node, whose location is told
abbrev pub IsTold : JsonNode → List ℕ → (AstJsonProblem → Type 0) → AstJsonError → Type 0
IsTold node path Is = IsInvalidAnd (λ told location problem. (path_text told ≡ path) × IsLocationOf node location × Is problem)

-- the location was told already, or is what the node tells
abbrev pub IsLocationOr : JsonNode → NodeLocation → NodeLocation → Type 0
IsLocationOr node inner location = MatchOption inner.0 (IsLocationOf node location) (λ span. location.0 ≡ Some span)

-- Unless memory was refused, the one error is the other, told from what has it in the member of this name.
abbrev pub IsToldFrom : List ℕ → (NodeLocation → NodeLocation → Type 0) → AstJsonError → AstJsonError → Type 0
IsToldFrom name IsLocation (Invalid path location problem) error =
    ¬ IsMemory error → IsInvalidAnd (λ told_path told_location told.
    (path_text told_path ≡ path_in name (path_text path)) × IsLocation location told_location × (told ≡ problem)) error
IsToldFrom name IsLocation inner error = error ≡ inner

-- what is told of a node that has no member of this name, as each of those does
abbrev pub IsWithout : List ℕ → List ℕ → Data → AstJsonProblem → Type 0
IsWithout name each (object _) = IsMissing name each
IsWithout name each json = IsWrongType json Object

-- what is told of the member of this name that a node must have, if it is of another type than the one that is wanted
abbrev pub IsToldOfMember : JsonNode → List ℕ → JsonType → AstJsonError → Type 0
IsToldOfMember node name type error =
    MatchOption (member_of name (node_data node)) (IsTold node [] (IsWithout name (told_kind (node_data node)) (node_data node)) error)
    (λ json. IsTold node name (IsWrongType json type) error)

-- the same of one that may be left out
abbrev pub IsToldOfOptional : JsonNode → List ℕ → JsonType → AstJsonError → Type 0
IsToldOfOptional node name type error = IsSomeAnd (member_of name (node_data node)) (λ json. IsTold node name (IsWrongType json type) error)

-- an error of which this is so, told from the node that has its JSON in the member of this name
abbrev pub IsToldWithin : JsonNode → List ℕ → (AstJsonError → Type 0) → AstJsonError → Type 0
IsToldWithin node name Is error = (inner : AstJsonError) × Is inner × IsToldFrom name (IsLocationOr node) inner error

-- what is told of the member of this name that a node must have, if this is told of its JSON
abbrev pub IsToldOfMemberBy : (Data → AstJsonError → Type 0) → JsonNode → List ℕ → AstJsonError → Type 0
IsToldOfMemberBy Told node name error =
    MatchOption (member_of name (node_data node)) (IsTold node [] (IsWithout name (told_kind (node_data node)) (node_data node)) error)
    (λ json. IsToldWithin node name (Told json) error)

-- the same of one that may be left out
abbrev pub IsToldOfOptionalBy : (Data → AstJsonError → Type 0) → JsonNode → List ℕ → AstJsonError → Type 0
IsToldOfOptionalBy Told node name error = IsSomeAnd (member_of name (node_data node)) (λ json. IsToldWithin node name (Told json) error)

-- what is told of the array that a node must have in the member of this name, if this is told of its items
abbrev pub IsToldOfListBy : (Items → AstJsonError → Type 0) → JsonNode → List ℕ → AstJsonError → Type 0
IsToldOfListBy Told node name error =
    MatchOption (option_and_then as_array (member_of name (node_data node))) (IsToldOfMember node name Array error)
    (λ items. IsToldWithin node name (Told items) error)

-- the same of one that may be left out
abbrev pub IsToldOfOptionalListBy : (Items → AstJsonError → Type 0) → JsonNode → List ℕ → AstJsonError → Type 0
IsToldOfOptionalListBy Told node name error =
    MatchOption (items_or_none (member_of name (node_data node))) (IsToldOfOptional node name Array error)
    (λ items. IsToldWithin node name (Told items) error)

-- the JSON is of no tree, whatever is told of it
abbrev pub IsOfNoTree : {Tree : Type 0} → (Tree → Data → Type 0) → Data → AstJsonError → Type 0
IsOfNoTree {Tree = Tree} Is json error = (tree : Tree) → ¬ Is tree json

-- the first name that is none of those that are known
abbrev pub first_unknown : List (List ℕ) → List (List ℕ) → Option (List ℕ)
first_unknown known [] = None
first_unknown known (name ∷ names) = if is_one_of known name then first_unknown known names else Some name

-- what is told of JSON that is no object with members of these names alone
abbrev pub HasUnknown : List (List ℕ) → List ℕ → Data → AstJsonProblem → Type 0
HasUnknown known each (object ms) problem = IsSomeAnd (first_unknown known (member_names ms)) (λ name. IsUnknownMember name each problem)
HasUnknown known each json problem = IsWrongType json Object problem

-- the text that the member of this name is
abbrev pub text_in : List ℕ → Data → Option (List ℕ)
text_in name json = option_and_then as_str (member_of name json)

-- what is told of JSON that is no node of this kind with members of these names alone
abbrev pub IsToldOfNode : JsonNode → List ℕ → List (List ℕ) → AstJsonError → Type 0
IsToldOfNode node kind names error =
    MatchOption (text_in (codes "kind") (node_data node)) (IsToldOfMember node (codes "kind") Text error)
    (λ found. (found ≢ kind → IsTold node (codes "kind") (IsUnknownKind found kind) error)
    × (found ≡ kind → IsTold node [] (HasUnknown (codes "kind" ∷ codes "loc" ∷ names) kind (node_data node)) error))

-- the same, and what is told of a node of this kind
abbrev pub IsToldOfNodeOr : JsonNode → List ℕ → List (List ℕ) → Type 0 → AstJsonError → Type 0
IsToldOfNodeOr node kind names Else error =
    (¬ IsNode node.unknown kind names (node_data node) → IsToldOfNode node kind names error) × (IsNode node.unknown kind names (node_data node) → Else)

-- what is told of JSON that is no node of this kind whose text is such
abbrev pub IsToldOfText : JsonNode → List ℕ → List ℕ → AstJsonError → Type 0
IsToldOfText node kind what error =
    IsToldOfNodeOr node kind (codes "value" ∷ []) (MatchOption (text_in (codes "value") (node_data node)) (IsToldOfMember node (codes "value") Text error)
    (λ text. IsTold node (codes "value") (IsWrongText text what) error)) error

-- what is told of JSON that is no node of a string
abbrev pub IsToldOfString : JsonNode → AstJsonError → Type 0
IsToldOfString node error =
    IsToldOfNodeOr node (codes "StringValue") (codes "value" ∷ codes "block" ∷ []) (MatchOption (text_in (codes "value") (node_data node))
    (IsToldOfMember node (codes "value") Text error) (λ _. IsToldOfOptional node (codes "block") Boolean error)) error

-- what is told of JSON that is no node of a boolean
abbrev pub IsToldOfBoolean : JsonNode → AstJsonError → Type 0
IsToldOfBoolean node error =
    IsToldOfNodeOr node (codes "BooleanValue") (codes "value" ∷ []) (IsToldOfMember node (codes "value") Boolean error) error

-- what is told of JSON that is no node of a variable
abbrev pub IsToldOfVariable : JsonNode → AstJsonError → Type 0
IsToldOfVariable node error =
    IsToldOfNodeOr node (codes "Variable") (codes "name" ∷ []) (IsToldOfMemberBy (IsOfNoTree (IsName node.unknown)) node (codes "name") error) error

-- the kinds of values
abbrev pub value_kinds : List (List ℕ)
value_kinds =
    codes "Variable" ∷ codes "IntValue" ∷ codes "FloatValue" ∷ codes "StringValue" ∷ codes "BooleanValue" ∷ codes "NullValue" ∷ codes "EnumValue"
    ∷ codes "ListValue" ∷ codes "ObjectValue" ∷ []

-- what is told of JSON whose kind is this, of a value with no others in it, or of none
abbrev pub IsToldOfLeaf : JsonNode → List ℕ → AstJsonError → Type 0
IsToldOfLeaf node kind error =
    (kind ≡ codes "NullValue" → IsToldOfNode node (codes "NullValue") [] error)
    × (kind ≡ codes "EnumValue" → IsToldOfText node (codes "EnumValue") (codes "a name") error)
    × (kind ≡ codes "Variable" → IsToldOfVariable node error) × (kind ≡ codes "StringValue" → IsToldOfString node error)
    × (kind ≡ codes "FloatValue" → IsToldOfText node (codes "FloatValue") (codes "a float") error)
    × (kind ≡ codes "IntValue" → IsToldOfText node (codes "IntValue") (codes "an integer") error)
    × (kind ≡ codes "BooleanValue" → IsToldOfBoolean node error)
    × (is_one_of value_kinds kind ≡ false → IsTold node (codes "kind") (IsUnknownKind kind (codes "a value")) error)

-- what is told of JSON that is no node of a kind of values
abbrev pub IsToldOfValue : JsonNode → AstJsonError → Type 0
IsToldOfValue node error =
    MatchOption (text_in (codes "kind") (node_data node)) (IsToldOfMember node (codes "kind") Text error) (λ kind. IsToldOfLeaf node kind error)

-- The problem is of the first of the items that is of no tree, and is told from the array.
pub record IsToldOfItem {Tree : Type 0} (Is : Tree → Data → Type 0) (items : Items) (error : AstJsonError) : Type 0 where
  pub before : List Data
  pub json : Data
  pub after : List Data
  pub are : items ≡ items_of (before ++ json ∷ after)
  pub trees : List Tree
  pub read : Each Is trees (items_of before)
  pub none : (tree : Tree) → ¬ Is tree json
  pub inner : AstJsonError
  pub told : IsToldFrom (item_name (length before)) (λ location told_location. told_location ≡ location) inner error

-- what is told of JSON that is no array of trees
abbrev pub IsToldOfArray : {Tree : Type 0} → (Tree → Data → Type 0) → JsonNode → AstJsonError → Type 0
IsToldOfArray Is node error =
    MatchOption (as_array (node_data node)) (IsTold node [] (IsWrongType (node_data node) Array) error) (λ items. IsToldOfItem Is items error)

-- the same, and this is told of that item
abbrev pub IsToldOfItemBy : {Tree : Type 0} → (Tree → Data → Type 0) → (Data → AstJsonError → Type 0) → Items → AstJsonError → Type 0
IsToldOfItemBy Is Told items error = (told : IsToldOfItem Is items error) × Told told.json told.inner
