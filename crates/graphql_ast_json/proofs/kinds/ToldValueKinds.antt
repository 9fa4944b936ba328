-- Of ToldValues: the kind of a value is one alone, and the values of a list and the fields of an object go one by one.
use Rattle.std.proofs.Common.{◌≡◌, ℕ, suc, List, [], ◌∷◌, Option, Some, MatchOption, option_and_then, codes, map, refl, sym, subst}
use Rattle.graphql_base.specs.declared.name.Name.{Name}
use Rattle.graphql_base.specs.declared.node.Node.{Node}
use Rattle.graphql_base.specs.Node.{node_value}
use Rattle.graphql_text.specs.lexical.Literals.{NameText}
use Rattle.graphql_text.specs.trees.Leaves.{name_tree}
use Rattle.graphql_values.specs.declared.value.Value.{Value}
use Rattle.graphql_values.specs.kinds.Values.{ValueTree}
use Rattle.graphql_values.specs.trees.ValueTrees.{value_tree, value_trees, object_field_trees}
use Rattle.serde_json.specs.Data.{Data, string}
use Rattle.serde_json.specs.Find.{as_str}
use Rattle.serde_json.specs.View.{items_of}
use Rattle.ast_json_nodes.specs.code.JsonNodes.{node_data}
use Rattle.ast_json_nodes.specs.code.ToldErrors.{IsToldOfLeaf, IsToldOfMember}
use Rattle.graphql_ast_json.specs.code.ToldValues.{IsField, IsToldOfKind, IsToldOfValueIn}
use Rattle.ast_json_nodes.specs.declared.error.AstJsonError.{AstJsonError}
use Rattle.ast_json_nodes.specs.declared.error.JsonType.TheVariants.{Text}
use Rattle.ast_json_nodes.specs.declared.read.JsonNode.{JsonNode}
use Rattle.ast_json_nodes.specs.declared.read.Unknown.{Unknown}
use Rattle.graphql_ast_json.specs.kinds.ValueJson.{AreObjectFields, AreValues, IsValue}
use Rattle.ast_json_nodes.specs.nodes.Nodes.{Each, member_of}
use Rattle.graphql_ast_json.proofs.kinds.ValueKinds.{no_other, not_none}

-- of a list and of an object nothing is told as of a value with no others in it
pub no_leaf_of_list : (node : JsonNode) (kind : List ℕ) (error : AstJsonError) → kind ≡ codes "ListValue" → IsToldOfLeaf node kind error
no_leaf_of_list node kind error is = (
  no_other kind (codes "ListValue") (codes "NullValue") is refl,
  no_other kind (codes "ListValue") (codes "EnumValue") is refl,
  no_other kind (codes "ListValue") (codes "Variable") is refl,
  no_other kind (codes "ListValue") (codes "StringValue") is refl,
  no_other kind (codes "ListValue") (codes "FloatValue") is refl,
  no_other kind (codes "ListValue") (codes "IntValue") is refl,
  no_other kind (codes "ListValue") (codes "BooleanValue") is refl,
  not_none kind (codes "ListValue") is refl,
)

pub no_leaf_of_object : (node : JsonNode) (kind : List ℕ) (error : AstJsonError) → kind ≡ codes "ObjectValue" → IsToldOfLeaf node kind error
no_leaf_of_object node kind error is = (
  no_other kind (codes "ObjectValue") (codes "NullValue") is refl,
  no_other kind (codes "ObjectValue") (codes "EnumValue") is refl,
  no_other kind (codes "ObjectValue") (codes "Variable") is refl,
  no_other kind (codes "ObjectValue") (codes "StringValue") is refl,
  no_other kind (codes "ObjectValue") (codes "FloatValue") is refl,
  no_other kind (codes "ObjectValue") (codes "IntValue") is refl,
  no_other kind (codes "ObjectValue") (codes "BooleanValue") is refl,
  not_none kind (codes "ObjectValue") is refl,
)

-- the kind that a node tells is the one of which it is told
pub nested_at : (n : ℕ) (node : JsonNode) (kind : List ℕ) (error : AstJsonError) → member_of (codes "kind") (node_data node) ≡ Some (string kind) →
    IsToldOfKind (λ inner told. IsToldOfValueIn n inner told) node kind error → IsToldOfValueIn (suc n) node error
nested_at n node kind error is told =
    subst (λ (json : Option Data). MatchOption (option_and_then as_str json) (IsToldOfMember node (codes "kind") Text error)
    (λ found. IsToldOfKind (λ inner told. IsToldOfValueIn n inner told) node found error)) (sym is) told

-- values one by one
pub each_value : (unknown : Unknown) (nodes : List (Node Value)) (items : List Data) → AreValues unknown (value_trees nodes) (items_of items) →
    Each (IsValue unknown) (map (λ node. value_tree (node_value node)) nodes) (items_of items)
each_value unknown [] [] are = tt
each_value unknown [] (item ∷ items) are = absurd are
each_value unknown (node ∷ nodes) [] are = absurd are
each_value unknown (node ∷ nodes) (item ∷ items) are = (are.0, each_value unknown nodes items are.1)

-- the name and the value of a field
abbrev pub field_tree : Name × Node Value → NameText × ValueTree
field_tree field = (name_tree field.0, value_tree (node_value field.1))

-- fields one by one
pub each_field : (unknown : Unknown) (fields : List (Name × Node Value)) (items : List Data) →
    AreObjectFields unknown (object_field_trees fields) (items_of items) → Each (IsField unknown) (map field_tree fields) (items_of items)
each_field unknown [] [] are = tt
each_field unknown [] (item ∷ items) are = absurd are
each_field unknown (field ∷ fields) [] are = absurd are
each_field unknown (field ∷ fields) (item ∷ items) are = (are.0, each_field unknown fields items are.1)
