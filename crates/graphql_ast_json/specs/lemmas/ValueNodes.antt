-- Lemmas, no definitions of the product: the JSON of a value is a node, of a kind that tells the kind of the value, and of one value.
use Rattle.std.proofs.Common.{◌≡◌, ℕ, List, [], ◌∷◌, option_and_then, codes, nat_eq, refl, ap, false}
use Rattle.std.specs.Cmp.Lexicographic.{pointwise}
use Rattle.graphql_text.proofs.lexical.CheckedTexts.{same_text}
use Rattle.graphql_values.specs.kinds.Values.{ValueTree, null_value, enum_value, variable, string_value, float_value, int_value}
use Rattle.graphql_values.specs.kinds.Values.{boolean_value, list_value, object_value, ValueTrees, no_values, more_values, ObjectFieldTrees}
use Rattle.graphql_values.specs.kinds.Values.{no_fields, more_fields}
use Rattle.serde_json.specs.Data.{Data, Items, no_items, item}
use Rattle.serde_json.specs.Find.{as_array}
use Rattle.ast_json_nodes.specs.nodes.Nodes.{IsName, member_of}
use Rattle.ast_json_nodes.specs.nodes.OneTree.{IsNodeOf, NodeLaws}
use Rattle.graphql_ast_json.specs.kinds.ValueJson.{IsValue, AreValues, AreObjectFields}
use Rattle.graphql_ast_json.specs.lemmas.Leaves.{both_some, different, same_boolean, same_name, same_string, same_string_value}
use Rattle.ast_json_nodes.specs.declared.read.Unknown.{Unknown}

abbrev pub value_kind : ValueTree → List ℕ
value_kind null_value = codes "NullValue"
value_kind (enum_value _) = codes "EnumValue"
value_kind (variable _) = codes "Variable"
value_kind (string_value _) = codes "StringValue"
value_kind (float_value _) = codes "FloatValue"
value_kind (int_value _) = codes "IntValue"
value_kind (boolean_value _) = codes "BooleanValue"
value_kind (list_value _) = codes "ListValue"
value_kind (object_value _) = codes "ObjectValue"

pub value_node : (unknown : Unknown) (value : ValueTree) (json : Data) → IsValue unknown value json → IsNodeOf unknown (value_kind value) json
value_node unknown null_value json is = record { names = []; is = is }
value_node unknown (enum_value _) json is = record { names = codes "value" ∷ []; is = is.0 }
value_node unknown (variable _) json is = record { names = codes "name" ∷ []; is = is.0 }
value_node unknown (string_value _) json is = record { names = codes "value" ∷ codes "block" ∷ []; is = is.0 }
value_node unknown (float_value _) json is = record { names = codes "value" ∷ []; is = is.0 }
value_node unknown (int_value _) json is = record { names = codes "value" ∷ []; is = is.0 }
value_node unknown (boolean_value _) json is = record { names = codes "value" ∷ []; is = is.0 }
value_node unknown (list_value _) json is = record { names = codes "values" ∷ []; is = is.0 }
value_node unknown (object_value _) json is = record { names = codes "fields" ∷ []; is = is.0 }

other_value : (unknown : Unknown) (a b : ValueTree) (json : Data) → IsValue unknown a json → IsValue unknown b json →
    pointwise nat_eq (value_kind a) (value_kind b) ≡ false → a ≡ b
other_value unknown a b json p q apart = absurd (different (value_kind a) (value_kind b) json (value_node unknown a json p).is.0
    (value_node unknown b json q).is.0 apart)

mutual
  pub same_value : (unknown : Unknown) (a b : ValueTree) (json : Data) → IsValue unknown a json → IsValue unknown b json → a ≡ b
  same_value unknown null_value null_value json p q = refl
  same_value unknown (enum_value n) (enum_value m) json p q = ap enum_value (same_text n m (same_string (codes "value") json n.text m.text p.1 q.1))
  same_value unknown (variable n) (variable m) json p q = ap variable (both_some (member_of (codes "name") json) (IsName unknown n)
      (IsName unknown m) p.1 q.1 (same_name unknown n m))
  same_value unknown (string_value s) (string_value t) json p q = ap string_value (same_string_value unknown s t json p q)
  same_value unknown (float_value n) (float_value m) json p q = ap float_value (same_text n m (same_string (codes "value") json n.text m.text p.1 q.1))
  same_value unknown (int_value n) (int_value m) json p q = ap int_value (same_text n m (same_string (codes "value") json n.text m.text p.1 q.1))
  same_value unknown (boolean_value x) (boolean_value y) json p q = ap boolean_value (same_boolean (codes "value") json x y p.1 q.1)
  same_value unknown (list_value xs) (list_value ys) json p q =
      ap list_value (both_some (option_and_then as_array (member_of (codes "values") json)) (AreValues unknown xs) (AreValues unknown ys) p.1 q.1
      (same_values unknown xs ys))
  same_value unknown (object_value xs) (object_value ys) json p q =
      ap object_value (both_some (option_and_then as_array (member_of (codes "fields") json)) (AreObjectFields unknown xs)
      (AreObjectFields unknown ys) p.1 q.1 (same_object_fields unknown xs ys))
  same_value unknown null_value b json p q = other_value unknown null_value b json p q refl
  same_value unknown (enum_value n) b json p q = other_value unknown (enum_value n) b json p q refl
  same_value unknown (variable n) b json p q = other_value unknown (variable n) b json p q refl
  same_value unknown (string_value s) b json p q = other_value unknown (string_value s) b json p q refl
  same_value unknown (float_value n) b json p q = other_value unknown (float_value n) b json p q refl
  same_value unknown (int_value n) b json p q = other_value unknown (int_value n) b json p q refl
  same_value unknown (boolean_value x) b json p q = other_value unknown (boolean_value x) b json p q refl
  same_value unknown (list_value xs) b json p q = other_value unknown (list_value xs) b json p q refl
  same_value unknown (object_value xs) b json p q = other_value unknown (object_value xs) b json p q refl

  same_values : (unknown : Unknown) (xs ys : ValueTrees) (jsons : Items) → AreValues unknown xs jsons → AreValues unknown ys jsons → xs ≡ ys
  same_values unknown no_values no_values no_items p q = refl
  same_values unknown (more_values x xs) (more_values y ys) (item json rest) p q =
      let first = same_value unknown x y json p.0 q.0 in
      let others = same_values unknown xs ys rest p.1 q.1 in
      λ i. more_values (first i) (others i)
  same_values unknown no_values ys (item json rest) p q = absurd p
  same_values unknown no_values (more_values y ys) no_items p q = absurd q
  same_values unknown (more_values x xs) ys no_items p q = absurd p
  same_values unknown (more_values x xs) no_values (item json rest) p q = absurd q

  same_object_fields : (unknown : Unknown) (xs ys : ObjectFieldTrees) (jsons : Items) → AreObjectFields unknown xs jsons →
      AreObjectFields unknown ys jsons → xs ≡ ys
  same_object_fields unknown no_fields no_fields no_items p q = refl
  same_object_fields unknown (more_fields n x xs) (more_fields m y ys) (item json rest) p q =
      let name = both_some (member_of (codes "name") json) (IsName unknown n) (IsName unknown m) p.0.1 q.0.1 (same_name unknown n m) in
      let value = both_some (member_of (codes "value") json) (IsValue unknown x) (IsValue unknown y) p.0.2 q.0.2 (same_value unknown x y) in
      let others = same_object_fields unknown xs ys rest p.1 q.1 in
      λ i. more_fields (name i) (value i) (others i)
  same_object_fields unknown no_fields ys (item json rest) p q = absurd p
  same_object_fields unknown no_fields (more_fields m y ys) no_items p q = absurd q
  same_object_fields unknown (more_fields n x xs) ys no_items p q = absurd p
  same_object_fields unknown (more_fields n x xs) no_fields (item json rest) p q = absurd q

pub value_laws : NodeLaws IsValue
value_laws = record { one_tree = same_value; node = λ unknown value json is. record { kind = value_kind value; node = value_node unknown value json is } }
