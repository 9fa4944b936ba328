-- The tree of a value and of a type, variant by variant; and what a boolean of JSON is seen as.
use Rattle.std.proofs.Common.{◌≡◌, ◌∙◌, ap, rules, Bool, Vec, Box, String, Global}
use Rattle.graphql_base.specs.declared.name.Name.{Name}
use Rattle.graphql_base.specs.declared.node.Node.{Node}
use Rattle.graphql_text.specs.trees.Leaves.{name_tree}
use Rattle.serde_json.specs.Data.{boolean}
use Rattle.serde_json.specs.View.{view}
use Rattle.serde_json.specs.declared.value.Value.{the_lemmas}
use Rattle.serde_json.specs.declared.value.Value.TheVariants as json
use Rattle.graphql_values.specs.trees.Literals.{int_tree, float_tree, string_tree}
use Rattle.graphql_values.specs.kinds.TypeReferences.{TypeTree, named_type, non_null_named_type, list_type, non_null_list_type}
use Rattle.graphql_values.specs.trees.TypeTrees.{type_tree, type_tree_step}
use Rattle.graphql_values.specs.trees.ValueTrees.{value_tree, value_tree_step, value_trees, object_field_trees}
use Rattle.graphql_values.specs.kinds.Values.{ValueTree, null_value, enum_value, variable, string_value, float_value, int_value}
use Rattle.graphql_values.specs.kinds.Values.{boolean_value, list_value, object_value}
use Rattle.graphql_values.specs.declared.literal.FloatValue.{FloatValue}
use Rattle.graphql_values.specs.declared.literal.IntValue.{IntValue}
use Rattle.graphql_values.specs.declared.types.Type.{«Type», Type-F, map-Type, fold_out-Type}
use Rattle.graphql_values.specs.declared.types.Type.TheVariants as type_variant
use Rattle.graphql_values.specs.declared.value.Value.{Value, Value-F, map-Value, fold_out-Value}
use Rattle.graphql_values.specs.declared.value.Value.TheVariants as variant

abbrev of_value : Value-F Value → ValueTree
of_value level = value_tree_step (map-Value Value ValueTree value_tree level)

pub null_tree : value_tree variant.Null ≡ null_value
null_tree = fold_out-Value ValueTree value_tree_step variant.Null ∙ ap of_value variant.outs-Null

pub enum_tree : (name : Name) → value_tree (variant.Enum name) ≡ enum_value (name_tree name)
enum_tree name = fold_out-Value ValueTree value_tree_step (variant.Enum name) ∙ ap of_value (variant.outs-Enum name)

pub variable_tree : (name : Name) → value_tree (variant.Variable name) ≡ variable (name_tree name)
variable_tree name = fold_out-Value ValueTree value_tree_step (variant.Variable name) ∙ ap of_value (variant.outs-Variable name)

pub string_value_tree : (text : String Global) → value_tree (variant.String text) ≡ string_value (string_tree text)
string_value_tree text = fold_out-Value ValueTree value_tree_step (variant.String text) ∙ ap of_value (variant.outs-String text)

pub float_value_tree : (float : FloatValue) → value_tree (variant.Float float) ≡ float_value (float_tree float)
float_value_tree float = fold_out-Value ValueTree value_tree_step (variant.Float float) ∙ ap of_value (variant.outs-Float float)

pub int_value_tree : (int : IntValue) → value_tree (variant.Int int) ≡ int_value (int_tree int)
int_value_tree int = fold_out-Value ValueTree value_tree_step (variant.Int int) ∙ ap of_value (variant.outs-Int int)

pub boolean_tree : (is_true : Bool) → value_tree (variant.Boolean is_true) ≡ boolean_value is_true
boolean_tree is_true = fold_out-Value ValueTree value_tree_step (variant.Boolean is_true) ∙ ap of_value (variant.outs-Boolean is_true)

pub list_tree : (items : Vec (Node Value) Global) → value_tree (variant.List items) ≡ list_value (value_trees items.items)
list_tree items = fold_out-Value ValueTree value_tree_step (variant.List items) ∙ ap of_value (variant.outs-List items)

pub object_tree : (fields : Vec (Name × Node Value) Global) → value_tree (variant.Object fields) ≡ object_value (object_field_trees fields.items)
object_tree fields = fold_out-Value ValueTree value_tree_step (variant.Object fields) ∙ ap of_value (variant.outs-Object fields)

abbrev of_type : Type-F «Type» → TypeTree
of_type level = type_tree_step (map-Type «Type» TypeTree type_tree level)

pub named_type_tree : (name : Name) → type_tree (type_variant.Named name) ≡ named_type (name_tree name)
named_type_tree name = fold_out-Type TypeTree type_tree_step (type_variant.Named name) ∙ ap of_type (type_variant.outs-Named name)

pub non_null_named_type_tree : (name : Name) → type_tree (type_variant.NonNullNamed name) ≡ non_null_named_type (name_tree name)
non_null_named_type_tree name = fold_out-Type TypeTree type_tree_step (type_variant.NonNullNamed name) ∙ ap of_type (type_variant.outs-NonNullNamed name)

pub list_type_tree : (item : Box «Type» Global) → type_tree (type_variant.List item) ≡ list_type (type_tree item.value)
list_type_tree item = fold_out-Type TypeTree type_tree_step (type_variant.List item) ∙ ap of_type (type_variant.outs-List item)

pub non_null_list_type_tree : (item : Box «Type» Global) → type_tree (type_variant.NonNullList item) ≡ non_null_list_type (type_tree item.value)
non_null_list_type_tree item = fold_out-Type TypeTree type_tree_step (type_variant.NonNullList item) ∙ ap of_type (type_variant.outs-NonNullList item)

-- what a boolean is seen as
pub boolean_view : (b : Bool) → view (json.Bool b) ≡ boolean b
boolean_view b = search (rules, the_lemmas)
