-- Which error is told of JSON that is of no value, where values stand in one another.
use Rattle.std.specs.Prelude.{◌≡◌, ◌⊎◌, ℕ, zero, suc, List, [], ◌∷◌, MatchOption, codes}
use Rattle.serde_json.specs.Data.{Data}
use Rattle.graphql_text.specs.lexical.Literals.{NameText}
use Rattle.graphql_values.specs.kinds.Values.{ValueTree}
use Rattle.ast_json_nodes.specs.code.JsonNodes.{node_data}
use Rattle.ast_json_nodes.specs.code.ToldErrors.{IsOfNoTree, IsToldOfItemBy, IsToldOfLeaf, IsToldOfListBy, IsToldOfMember, IsToldOfMemberBy, IsToldOfNodeOr}
use Rattle.ast_json_nodes.specs.code.ToldErrors.{text_in}
use Rattle.ast_json_nodes.specs.declared.error.AstJsonError.{AstJsonError}
use Rattle.ast_json_nodes.specs.declared.error.JsonType.TheVariants.{Text}
use Rattle.ast_json_nodes.specs.declared.read.JsonNode.{JsonNode}
use Rattle.ast_json_nodes.specs.declared.read.Unknown.{Unknown}
use Rattle.graphql_ast_json.specs.kinds.ValueJson.{IsNamedValue, IsValue}
use Rattle.ast_json_nodes.specs.nodes.Nodes.{HasName, IsLocated, IsName}

-- the other node has this JSON, and is read by the same rules
abbrev pub IsReadAlike : JsonNode → Data → JsonNode → Type 0
IsReadAlike node json other = (node_data other ≡ json) × (other.source ≡ node.source) × (other.unknown ≡ node.unknown)

-- the location of the node is none, or this is told of it
abbrev pub IsToldOfLocated : (JsonNode → AstJsonError → Type 0) → JsonNode → AstJsonError → Type 0
IsToldOfLocated Told node error = (¬ IsLocated node.unknown (node_data node)) ⊎ Told node error

-- the same of a node with this JSON, which is read by the rules of the other node
abbrev pub IsToldInside : (JsonNode → AstJsonError → Type 0) → JsonNode → Data → AstJsonError → Type 0
IsToldInside Told node json error = (inner : JsonNode) × IsReadAlike node json inner × IsToldOfLocated Told inner error

-- what is told of JSON that is no node of a list, if this is told of what is no value
abbrev pub IsToldOfListValue : (JsonNode → AstJsonError → Type 0) → JsonNode → AstJsonError → Type 0
IsToldOfListValue Told node error =
    IsToldOfNodeOr node (codes "ListValue") (codes "values" ∷ [])
    (IsToldOfListBy (IsToldOfItemBy (IsValue node.unknown) (IsToldInside Told node)) node (codes "values") error) error

-- what is told of JSON that is no node of this kind with a name and a value
abbrev pub IsToldOfNamed : List ℕ → (JsonNode → AstJsonError → Type 0) → JsonNode → AstJsonError → Type 0
IsToldOfNamed kind Told node error =
    IsToldOfNodeOr node kind (codes "name" ∷ codes "value" ∷ [])
    ((((name : NameText) → ¬ HasName node.unknown name (node_data node)) → IsToldOfMemberBy (IsOfNoTree (IsName node.unknown)) node (codes "name") error)
    × ((name : NameText) → HasName node.unknown name (node_data node) → IsToldOfMemberBy (IsToldInside Told node) node (codes "value") error)) error

-- the JSON is a field with this name and this value
abbrev pub IsField : Unknown → NameText × ValueTree → Data → Type 0
IsField unknown field = IsNamedValue unknown (codes "ObjectField") field.0 (IsValue unknown field.1)

-- what is told of JSON that is no node of an object
abbrev pub IsToldOfObjectValue : (JsonNode → AstJsonError → Type 0) → JsonNode → AstJsonError → Type 0
IsToldOfObjectValue Told node error =
    IsToldOfNodeOr node (codes "ObjectValue") (codes "fields" ∷ [])
    (IsToldOfListBy (IsToldOfItemBy (IsField node.unknown) (IsToldInside (IsToldOfNamed (codes "ObjectField") Told) node)) node (codes "fields") error) error

-- what is told of JSON whose kind is this, of a value with others in it too
abbrev pub IsToldOfKind : (JsonNode → AstJsonError → Type 0) → JsonNode → List ℕ → AstJsonError → Type 0
IsToldOfKind Told node kind error =
    IsToldOfLeaf node kind error × (kind ≡ codes "ListValue" → IsToldOfListValue Told node error)
    × (kind ≡ codes "ObjectValue" → IsToldOfObjectValue Told node error)

-- what is told of JSON that is of no value, if the problem stands in at most so many values in one another
abbrev pub IsToldOfValueIn : ℕ → JsonNode → AstJsonError → Type 0
IsToldOfValueIn zero node error = ⊥
IsToldOfValueIn (suc n) node error =
    MatchOption (text_in (codes "kind") (node_data node)) (IsToldOfMember node (codes "kind") Text error)
    (λ kind. IsToldOfKind (λ inner told. IsToldOfValueIn n inner told) node kind error)

-- this is so of what is told of values in one another, however many
abbrev pub OfValues : ((JsonNode → AstJsonError → Type 0) → Type 0) → Type 0
OfValues Is = (n : ℕ) × Is (IsToldOfValueIn n)
