-- Where JSON is of one kind of values, and of none of that kind, it is of no value. And lists of values go item by item.
use Rattle.std.proofs.Common.{◌≡◌, ℕ, zero, suc, ◌<◌, List, [], ◌∷◌, ◌++◌, length, get_or, Bool, String, Global, codes, string_bytes, sym}
use Rattle.std.proofs.Common.{ap, subst, ◌∙◌, arith, rules}
use Rattle.graphql_base.specs.declared.name.Name.{Name}
use Rattle.graphql_base.specs.declared.node.Node.{Node}
use Rattle.graphql_base.specs.Node.{node_value}
use Rattle.graphql_text.specs.trees.Leaves.{name_tree}
use Rattle.graphql_text.specs.lexical.Literals.{NameText, IntText, FloatText}
use Rattle.graphql_values.specs.kinds.Values.{ValueTree, enum_value, string_value, float_value, int_value, boolean_value, list_value}
use Rattle.graphql_values.specs.kinds.Values.{object_value, ValueTrees, no_values, more_values, ObjectFieldTrees, no_fields, more_fields}
use Rattle.graphql_values.specs.trees.ValueTrees.{value_tree, value_trees, object_field_trees}
use Rattle.graphql_values.specs.declared.value.Value.{Value, String as TheString, the_lemmas}
use Rattle.graphql_values.specs.trees.Literals.{string_tree}
use Rattle.std.proofs.lemmas.Str.{IsUtf8-string_bytes, encodes-chars}
use Rattle.serde_json.specs.Data.{Data}
use Rattle.serde_json.specs.View.{items_of}
use Rattle.ast_json_nodes.specs.code.NodeReading.{IsStringOf}
use Rattle.graphql_ast_json.proofs.nodes.KindTexts.{initial, initial_of}
use Rattle.graphql_ast_json.specs.lemmas.Leaves.{IsOfKind}
use Rattle.graphql_ast_json.specs.lemmas.ValueNodes.{value_kind, value_node}
use Rattle.graphql_ast_json.specs.kinds.ValueJson.{IsValue, AreValues, AreObjectFields, IsNamedValue}
use Rattle.ast_json_nodes.specs.declared.read.Unknown.{Unknown}

-- where a value of one kind is none, and the JSON is of that kind, it is of no value
pub only_enum : (unknown : Unknown) (json : Data) → IsOfKind (codes "EnumValue") json → ((name : NameText) → IsValue unknown (enum_value name) json → ⊥) →
    (tree : ValueTree) → IsValue unknown tree json → ⊥
only_enum unknown json e none (enum_value name) is = none name is
only_enum unknown json e none tree is = let clash : initial (value_kind tree) ≡ 69 = ap initial_of (sym (value_node unknown tree json is).is.0 ∙ e) in
    absurd (omega arith)

pub only_string : (unknown : Unknown) (json : Data) → IsOfKind (codes "StringValue") json → ((bytes : List ℕ) → IsStringOf unknown bytes json → ⊥) →
    (tree : ValueTree) → IsValue unknown tree json → ⊥
only_string unknown json e none (string_value text) is = none _ is
only_string unknown json e none tree is = let clash : initial (value_kind tree) ≡ 83 = ap initial_of (sym (value_node unknown tree json is).is.0 ∙ e) in
    absurd (omega arith)

pub only_float : (unknown : Unknown) (json : Data) → IsOfKind (codes "FloatValue") json → ((float : FloatText) → IsValue unknown (float_value float) json → ⊥) →
    (tree : ValueTree) → IsValue unknown tree json → ⊥
only_float unknown json e none (float_value float) is = none float is
only_float unknown json e none tree is = let clash : initial (value_kind tree) ≡ 70 = ap initial_of (sym (value_node unknown tree json is).is.0 ∙ e) in
    absurd (omega arith)

pub only_int : (unknown : Unknown) (json : Data) → IsOfKind (codes "IntValue") json → ((int : IntText) → IsValue unknown (int_value int) json → ⊥) →
    (tree : ValueTree) → IsValue unknown tree json → ⊥
only_int unknown json e none (int_value int) is = none int is
only_int unknown json e none tree is = let clash : initial (value_kind tree) ≡ 73 = ap initial_of (sym (value_node unknown tree json is).is.0 ∙ e) in
    absurd (omega arith)

pub only_boolean : (unknown : Unknown) (json : Data) → IsOfKind (codes "BooleanValue") json → ((value : Bool) →
    IsValue unknown (boolean_value value) json → ⊥) →
    (tree : ValueTree) → IsValue unknown tree json → ⊥
only_boolean unknown json e none (boolean_value value) is = none value is
only_boolean unknown json e none tree is = let clash : initial (value_kind tree) ≡ 66 = ap initial_of (sym (value_node unknown tree json is).is.0 ∙ e) in
    absurd (omega arith)

pub only_list : (unknown : Unknown) (json : Data) → IsOfKind (codes "ListValue") json → ((items : ValueTrees) → IsValue unknown (list_value items) json → ⊥) →
    (tree : ValueTree) → IsValue unknown tree json → ⊥
only_list unknown json e none (list_value items) is = none items is
only_list unknown json e none tree is = let clash : initial (value_kind tree) ≡ 76 = ap initial_of (sym (value_node unknown tree json is).is.0 ∙ e) in
    absurd (omega arith)

pub only_object : (unknown : Unknown) (json : Data) → IsOfKind (codes "ObjectValue") json →
    ((members : ObjectFieldTrees) → IsValue unknown (object_value members) json → ⊥) → (tree : ValueTree) → IsValue unknown tree json → ⊥
only_object unknown json e none (object_value members) is = none members is
only_object unknown json e none tree is = let clash : initial (value_kind tree) ≡ 79 = ap initial_of (sym (value_node unknown tree json is).is.0 ∙ e) in
    absurd (omega arith)

-- one more item
pub more_are_values : (unknown : Unknown) (nodes : List (Node Value)) (items : List Data) (node : Node Value) (item : Data) →
    AreValues unknown (value_trees nodes) (items_of items) → IsValue unknown (value_tree (node_value node)) item
    → AreValues unknown (value_trees (nodes ++ node ∷ [])) (items_of (items ++ item ∷ []))
more_are_values unknown [] [] node item are is = (is, tt)
more_are_values unknown [] (first ∷ items) node item are is = absurd are
more_are_values unknown (first ∷ nodes) [] node item are is = absurd are
more_are_values unknown (first ∷ nodes) (other ∷ items) node item are is = (are.0, more_are_values unknown nodes items node item are.1 is)

pub more_are_fields : (unknown : Unknown) (fields : List (Name × Node Value)) (items : List Data) (field : Name × Node Value) (item : Data) →
    AreObjectFields unknown (object_field_trees fields) (items_of items)
    → IsNamedValue unknown (codes "ObjectField") (name_tree field.0) (IsValue unknown (value_tree (node_value field.1))) item
    → AreObjectFields unknown (object_field_trees (fields ++ field ∷ [])) (items_of (items ++ item ∷ []))
more_are_fields unknown [] [] field item are is = (is, tt)
more_are_fields unknown [] (first ∷ items) field item are is = absurd are
more_are_fields unknown (first ∷ fields) [] field item are is = absurd are
more_are_fields unknown (first ∷ fields) (other ∷ items) field item are is = (are.0, more_are_fields unknown fields items field item are.1 is)

-- each item is a value, so where one is none, they are no values
pub none_at : (unknown : Unknown) (items : List Data) (i : ℕ) (item : Data) → i < length items →
    ((tree : ValueTree) → IsValue unknown tree (get_or items i item) → ⊥) → (trees : ValueTrees) → AreValues unknown trees (items_of items) → ⊥
none_at unknown [] i item lt none trees are = absurd (omega arith)
none_at unknown (first ∷ items) i item lt none no_values are = are
none_at unknown (first ∷ items) zero item lt none (more_values tree trees) are = none tree are.0
none_at unknown (first ∷ items) (suc i) item lt none (more_values tree trees) are = none_at unknown items i item (omega arith) none trees are.1

pub no_field_at : (unknown : Unknown) (items : List Data) (i : ℕ) (item : Data) → i < length items
    → ((name : NameText) → (tree : ValueTree) → IsNamedValue unknown (codes "ObjectField") name (IsValue unknown tree) (get_or items i item) → ⊥)
    → (trees : ObjectFieldTrees) → AreObjectFields unknown trees (items_of items) → ⊥
no_field_at unknown [] i item lt none trees are = absurd (omega arith)
no_field_at unknown (first ∷ items) i item lt none no_fields are = are
no_field_at unknown (first ∷ items) zero item lt none (more_fields name tree trees) are = none name tree are.0
no_field_at unknown (first ∷ items) (suc i) item lt none (more_fields name tree trees) are = no_field_at unknown items i item (omega arith) none trees are.1

-- a string of the code
pub string_is : (unknown : Unknown) (text : String Global) (bytes : List ℕ) (json : Data) → string_bytes text ≡ bytes → IsStringOf unknown bytes json →
    IsValue unknown (value_tree (TheString text)) json
string_is unknown text bytes json same is =
    let tree : value_tree (TheString text) ≡ string_value (string_tree text) = search (rules, the_lemmas) in
    let spelt = encodes-chars (string_bytes text) (IsUtf8-string_bytes text) ∙ same in
    subst (λ (t : ValueTree). IsValue unknown t json) (sym tree) (subst (λ (b : List ℕ). IsStringOf unknown b json) (sym spelt) is)
