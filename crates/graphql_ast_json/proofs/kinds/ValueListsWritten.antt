-- Lists are written item by item.
use Rattle.std.proofs.Common.{List, [], ◌∷◌, ◌++◌, codes}
use Rattle.graphql_base.specs.declared.name.Name.{Name}
use Rattle.graphql_base.specs.declared.node.Node.{Node}
use Rattle.graphql_text.specs.trees.Leaves.{name_tree}
use Rattle.graphql_values.specs.trees.ValueTrees.{value_tree, value_trees, object_field_trees}
use Rattle.graphql_values.specs.declared.value.Value.{Value}
use Rattle.serde_json.specs.View.{view, items_view}
use Rattle.serde_json.specs.declared.value.Value.{Value as Json}
use Rattle.graphql_ast_json.specs.kinds.ValueJson.{IsValue, IsNamedValue, AreValues, AreObjectFields}
use Rattle.ast_json_nodes.specs.declared.read.Unknown.{Unknown}

pub values_more : (unknown : Unknown) (nodes : List (Node Value)) (node : Node Value) (jsons : List Json) (json : Json) →
    AreValues unknown (value_trees nodes) (items_view jsons) → IsValue unknown (value_tree node.value) (view json) →
    AreValues unknown (value_trees (nodes ++ node ∷ [])) (items_view (jsons ++ json ∷ []))
values_more unknown [] node [] json are is = (is, tt)
values_more unknown (first ∷ nodes) node (one ∷ jsons) json are is = (are.0, values_more unknown nodes node jsons json are.1 is)
values_more unknown [] node (one ∷ jsons) json are is = absurd are
values_more unknown (first ∷ nodes) node [] json are is = absurd are

pub fields_more : (unknown : Unknown) (fields : List (Name × Node Value)) (field : Name × Node Value) (jsons : List Json) (json : Json) →
    AreObjectFields unknown (object_field_trees fields) (items_view jsons) →
    IsNamedValue unknown (codes "ObjectField") (name_tree field.0) (IsValue unknown (value_tree field.1.value)) (view json) →
    AreObjectFields unknown (object_field_trees (fields ++ field ∷ [])) (items_view (jsons ++ json ∷ []))
fields_more unknown [] field [] json are is = (is, tt)
fields_more unknown (first ∷ fields) field (one ∷ jsons) json are is = (are.0, fields_more unknown fields field jsons json are.1 is)
fields_more unknown [] field (one ∷ jsons) json are is = absurd are
fields_more unknown (first ∷ fields) field [] json are is = absurd are
