-- Of ArrayTexts: what is of these trees, and one more behind them.
use Rattle.std.proofs.Common.{List, [], ◌∷◌, ◌++◌, codes, map}
use Rattle.graphql_base.specs.declared.name.Name.{Name}
use Rattle.graphql_base.specs.declared.node.Node.{Node}
use Rattle.graphql_text.specs.trees.Leaves.{name_tree}
use Rattle.graphql_values.specs.trees.ValueTrees.{value_tree, value_trees, object_field_trees}
use Rattle.graphql_values.specs.declared.value.Value.{Value}
use Rattle.graphql_executable.specs.trees.ExecutableTrees.{selection_tree, selection_trees}
use Rattle.graphql_executable.specs.declared.selection.Selection.{Selection}
use Rattle.serde_json.specs.Data.{Data, Items, no_items, item}
use Rattle.ast_json_nodes.specs.nodes.Nodes.{Each}
use Rattle.ast_json_nodes.specs.declared.read.Unknown.{Unknown}
use Rattle.graphql_ast_json.specs.kinds.ExecutableJson.{AreSelections, IsSelection}
use Rattle.graphql_ast_json.specs.kinds.ValueJson.{IsValue, IsNamedValue, AreValues, AreObjectFields}
use Rattle.json_text.proofs.ArrayTexts.{added}

pub each_added : {A Tree : Type 0} (Is : Tree → Data → Type 0) (tree : A → Tree) (xs : List A) (x : A) (items : Items) (json : Data) →
    Each Is (map tree xs) items → Is (tree x) json → Each Is (map tree (xs ++ x ∷ [])) (added items json)
each_added Is tree [] x no_items json are is = (is, tt)
each_added Is tree (first ∷ xs) x (item one rest) json are is = (are.0, each_added Is tree xs x rest json are.1 is)
each_added Is tree [] x (item one rest) json are is = absurd are
each_added Is tree (first ∷ xs) x no_items json are is = absurd are

pub values_added : (unknown : Unknown) (nodes : List (Node Value)) (node : Node Value) (jsons : Items) (json : Data) →
    AreValues unknown (value_trees nodes) jsons → IsValue unknown (value_tree node.value) json →
    AreValues unknown (value_trees (nodes ++ node ∷ [])) (added jsons json)
values_added unknown [] node no_items json are is = (is, tt)
values_added unknown (first ∷ nodes) node (item one rest) json are is = (are.0, values_added unknown nodes node rest json are.1 is)
values_added unknown [] node (item one rest) json are is = absurd are
values_added unknown (first ∷ nodes) node no_items json are is = absurd are

pub fields_added : (unknown : Unknown) (fields : List (Name × Node Value)) (field : Name × Node Value) (jsons : Items) (json : Data) →
    AreObjectFields unknown (object_field_trees fields) jsons →
    IsNamedValue unknown (codes "ObjectField") (name_tree field.0) (IsValue unknown (value_tree field.1.value)) json →
    AreObjectFields unknown (object_field_trees (fields ++ field ∷ [])) (added jsons json)
fields_added unknown [] field no_items json are is = (is, tt)
fields_added unknown (first ∷ fields) field (item one rest) json are is = (are.0, fields_added unknown fields field rest json are.1 is)
fields_added unknown [] field (item one rest) json are is = absurd are
fields_added unknown (first ∷ fields) field no_items json are is = absurd are

pub selections_added : (unknown : Unknown) (selections : List Selection) (selection : Selection) (jsons : Items) (json : Data) →
    AreSelections unknown (selection_trees selections) jsons → IsSelection unknown (selection_tree selection) json →
    AreSelections unknown (selection_trees (selections ++ selection ∷ [])) (added jsons json)
selections_added unknown [] selection no_items json are is = (is, tt)
selections_added unknown (first ∷ selections) selection (item one rest) json are is =
    (are.0, selections_added unknown selections selection rest json are.1 is)
selections_added unknown [] selection (item one rest) json are is = absurd are
selections_added unknown (first ∷ selections) selection no_items json are is = absurd are
