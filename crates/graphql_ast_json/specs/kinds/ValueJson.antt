-- Which JSON is of which value.
use Rattle.std.specs.Prelude.{◌≡◌, ℕ, List, [], ◌∷◌, Some, ⊤, codes}
use Rattle.serde_json.specs.Data.{Data, boolean, string, Items, no_items, item}
use Rattle.graphql_text.specs.lexical.Literals.{NameText}
use Rattle.graphql_values.specs.kinds.Values.{ValueTree, null_value, enum_value, variable, string_value, float_value, int_value}
use Rattle.graphql_values.specs.kinds.Values.{boolean_value, list_value, object_value, ValueTrees, no_values, more_values, ObjectFieldTrees}
use Rattle.graphql_values.specs.kinds.Values.{no_fields, more_fields}
use Rattle.ast_json_nodes.specs.declared.read.Unknown.{Unknown}
use Rattle.ast_json_nodes.specs.nodes.Nodes.{IsNode, IsName, IsStringValue, Member, ListMember, member_of}

-- a node of this kind with a name, and with a value that is such: a field of an object, an argument
abbrev pub IsNamedValue : Unknown → List ℕ → NameText → (Data → Type 0) → Data → Type 0
IsNamedValue unknown kind name Is json =
    IsNode unknown kind (codes "name" ∷ codes "value" ∷ []) json × Member (codes "name") json (IsName unknown name) × Member (codes "value") json Is

abbrev mutual
  pub IsValue : Unknown → ValueTree → Data → Type 0
  IsValue unknown null_value json = IsNode unknown (codes "NullValue") [] json
  IsValue unknown (enum_value name) json =
      IsNode unknown (codes "EnumValue") (codes "value" ∷ []) json × (member_of (codes "value") json ≡ Some (string name.text))
  IsValue unknown (variable name) json = IsNode unknown (codes "Variable") (codes "name" ∷ []) json × Member (codes "name") json (IsName unknown name)
  IsValue unknown (string_value text) json = IsStringValue unknown text json
  IsValue unknown (float_value float) json =
      IsNode unknown (codes "FloatValue") (codes "value" ∷ []) json × (member_of (codes "value") json ≡ Some (string float.text))
  IsValue unknown (int_value int) json =
      IsNode unknown (codes "IntValue") (codes "value" ∷ []) json × (member_of (codes "value") json ≡ Some (string int.text))
  IsValue unknown (boolean_value is_true) json =
      IsNode unknown (codes "BooleanValue") (codes "value" ∷ []) json × (member_of (codes "value") json ≡ Some (boolean is_true))
  IsValue unknown (list_value items) json = IsNode unknown (codes "ListValue") (codes "values" ∷ []) json × ListMember (codes "values") json
      (AreValues unknown items)
  IsValue unknown (object_value fields) json =
      IsNode unknown (codes "ObjectValue") (codes "fields" ∷ []) json × ListMember (codes "fields") json (AreObjectFields unknown fields)

  pub AreValues : Unknown → ValueTrees → Items → Type 0
  AreValues unknown no_values no_items = ⊤
  AreValues unknown (more_values value more) (item json rest) = IsValue unknown value json × AreValues unknown more rest
  AreValues unknown _ _ = ⊥

  pub AreObjectFields : Unknown → ObjectFieldTrees → Items → Type 0
  AreObjectFields unknown no_fields no_items = ⊤
  AreObjectFields unknown (more_fields name value more) (item json rest) =
      IsNamedValue unknown (codes "ObjectField") name (IsValue unknown value) json × AreObjectFields unknown more rest
  AreObjectFields unknown _ _ = ⊥
