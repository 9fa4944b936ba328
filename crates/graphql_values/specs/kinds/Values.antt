-- Values: Value, section 2.9, with Variable, section 2.10.
use Rattle.std.specs.Prelude.{ℕ, ◌≡◌, List, [], ◌∷◌, Bool, true, false, not, ◌&&◌, ◌++◌, codes, Some}
use Rattle.graphql_text.specs.lexical.Literals.{NameText, IntText, FloatText, StringText}
use Rattle.graphql_text.specs.lexical.Tokens.{dollar, colon, lbracket, rbracket, lbrace, rbrace, Punctuation, Name, IntValue, FloatValue, StringValue}
use Rattle.graphql_text.specs.declared.ill_formed.SideCondition.TheVariants.{IsConstant, IsNotReserved}
use Rattle.graphql_text.specs.kinds.Flaws.{Flaw, flaw_unless}
use Rattle.graphql_text.specs.kinds.Kinds.{Kind}
use Rattle.graphql_text.specs.grammar.Forms.{Form, token, no_tokens, ◌⨟◌, name_except, only_if, is_one_of, keyword}
use Rattle.graphql_text.specs.layout.Nesting.{group_nesting}
use Rattle.graphql_text.specs.layout.Layout.{Item, Word, StringItem, AsValue, Space, comma_group}

-- Value[Const] or Value: whether a value stands in a const context, which admits no variable.
pub data Constness : Type 0 where
  Const NonConst : Constness

abbrev pub admits_variables : Constness → Bool
admits_variables Const = false
admits_variables NonConst = true

-- A value without locations. The items of a list and the fields of an object stand in order, repeated ones too.
mutual
  pub data ValueTree : Type 0 where
    null_value : ValueTree
    enum_value variable : NameText → ValueTree
    string_value : StringText → ValueTree
    float_value : FloatText → ValueTree
    int_value : IntText → ValueTree
    boolean_value : Bool → ValueTree
    list_value : ValueTrees → ValueTree
    object_value : ObjectFieldTrees → ValueTree

  pub data ValueTrees : Type 0 where
    no_values : ValueTrees
    more_values : ValueTree → ValueTrees → ValueTrees

  pub data ObjectFieldTrees : Type 0 where
    no_fields : ObjectFieldTrees
    more_fields : NameText → ValueTree → ObjectFieldTrees → ObjectFieldTrees

-- EnumValue, section 2.9.6: Name but not `true` or `false` or `null`
abbrev pub not_enum_values : List (List ℕ)
not_enum_values = codes "true" ∷ codes "false" ∷ codes "null" ∷ []

abbrev pub is_enum_name : List ℕ → Bool
is_enum_name text = not (is_one_of not_enum_values text)

-- The grammar of Value[Const], section 2.9.
unfoldable mutual
  pub value_form : Constness → ValueTree → Form
  -- NullValue, section 2.9.5
  value_form c null_value = keyword (codes "null")
  -- EnumValue, section 2.9.6
  value_form c (enum_value name) = name_except not_enum_values name
  -- Variable, section 2.10, where the context isn't const
  value_form c (variable name) = only_if (admits_variables c ≡ true) (token (Punctuation dollar) ⨟ name_except [] name)
  -- StringValue, section 2.9.4
  value_form c (string_value string) = token (StringValue string.text)
  -- FloatValue, section 2.9.2
  value_form c (float_value float) = token (FloatValue float.text)
  -- IntValue, section 2.9.1
  value_form c (int_value int) = token (IntValue int.text)
  -- BooleanValue, section 2.9.3
  value_form c (boolean_value true) = keyword (codes "true")
  value_form c (boolean_value false) = keyword (codes "false")
  -- ListValue, section 2.9.7
  value_form c (list_value items) = token (Punctuation lbracket) ⨟ values_form c items ⨟ token (Punctuation rbracket)
  -- ObjectValue, section 2.9.8
  value_form c (object_value fields) = token (Punctuation lbrace) ⨟ object_fields_form c fields ⨟ token (Punctuation rbrace)

  pub values_form : Constness → ValueTrees → Form
  values_form c no_values = no_tokens
  values_form c (more_values value more) = value_form c value ⨟ values_form c more

  -- ObjectField, section 2.9.8
  pub object_fields_form : Constness → ObjectFieldTrees → Form
  object_fields_form c no_fields = no_tokens
  object_fields_form c (more_fields name value more) = (name_except [] name ⨟ token (Punctuation colon) ⨟ value_form c value) ⨟ object_fields_form c more

-- The layout of a value. Lists and objects are comma groups.
abbrev mutual
  pub value_shape : Bool → ValueTree → List Item
  value_shape broken null_value = Word (Name (codes "null")) ∷ []
  value_shape broken (enum_value name) = Word (Name name.text) ∷ []
  value_shape broken (variable name) = Word (Punctuation dollar) ∷ Word (Name name.text) ∷ []
  value_shape broken (string_value string) = StringItem string.text AsValue ∷ []
  value_shape broken (float_value float) = Word (FloatValue float.text) ∷ []
  value_shape broken (int_value int) = Word (IntValue int.text) ∷ []
  value_shape broken (boolean_value true) = Word (Name (codes "true")) ∷ []
  value_shape broken (boolean_value false) = Word (Name (codes "false")) ∷ []
  value_shape broken (list_value items) = comma_group lbracket rbracket broken (values_shapes broken items)
  value_shape broken (object_value fields) = comma_group lbrace rbrace broken (object_fields_shapes broken fields)

  pub values_shapes : Bool → ValueTrees → List (List Item)
  values_shapes broken no_values = []
  values_shapes broken (more_values value more) = value_shape broken value ∷ values_shapes broken more

  pub object_fields_shapes : Bool → ObjectFieldTrees → List (List Item)
  object_fields_shapes broken no_fields = []
  object_fields_shapes broken (more_fields name value more) =
      (Word (Name name.text) ∷ Word (Punctuation colon) ∷ Space ∷ value_shape broken value) ∷ object_fields_shapes broken more

-- How many lists and objects that aren't empty stand in one another: such a list or object nests one more than
-- the item or field that nests most.
abbrev mutual
  pub value_nesting : ValueTree → ℕ
  value_nesting (list_value items) = group_nesting (values_nestings items)
  value_nesting (object_value fields) = group_nesting (object_fields_nestings fields)
  value_nesting _ = 0

  pub values_nestings : ValueTrees → List ℕ
  values_nestings no_values = []
  values_nestings (more_values value more) = value_nesting value ∷ values_nestings more

  pub object_fields_nestings : ObjectFieldTrees → List ℕ
  object_fields_nestings no_fields = []
  object_fields_nestings (more_fields name value more) = value_nesting value ∷ object_fields_nestings more

-- the same of the items of a list, and of the fields of an object
abbrev pub values_nesting : ValueTrees → ℕ
values_nesting items = group_nesting (values_nestings items)

abbrev pub object_fields_nesting : ObjectFieldTrees → ℕ
object_fields_nesting fields = group_nesting (object_fields_nestings fields)

-- The side conditions: no enum value is `true`, `false` or `null`, and no variable stands in a const context.
abbrev mutual
  pub value_obeys : Constness → ValueTree → Bool
  value_obeys c (enum_value name) = is_enum_name name.text
  value_obeys c (variable name) = admits_variables c
  value_obeys c (list_value items) = values_obey c items
  value_obeys c (object_value fields) = object_fields_obey c fields
  value_obeys c _ = true

  pub values_obey : Constness → ValueTrees → Bool
  values_obey c no_values = true
  values_obey c (more_values value more) = value_obeys c value && values_obey c more

  pub object_fields_obey : Constness → ObjectFieldTrees → Bool
  object_fields_obey c no_fields = true
  object_fields_obey c (more_fields name value more) = value_obeys c value && object_fields_obey c more

-- What breaks them, in the order of print.
abbrev mutual
  pub value_flaws : Constness → ValueTree → List Flaw
  value_flaws c (enum_value name) = flaw_unless (is_enum_name name.text) IsNotReserved (Some name)
  value_flaws c (variable name) = flaw_unless (admits_variables c) IsConstant (Some name)
  value_flaws c (list_value items) = values_flaws c items
  value_flaws c (object_value fields) = object_fields_flaws c fields
  value_flaws c _ = []

  pub values_flaws : Constness → ValueTrees → List Flaw
  values_flaws c no_values = []
  values_flaws c (more_values value more) = value_flaws c value ++ values_flaws c more

  pub object_fields_flaws : Constness → ObjectFieldTrees → List Flaw
  object_fields_flaws c no_fields = []
  object_fields_flaws c (more_fields name value more) = value_flaws c value ++ object_fields_flaws c more

-- A value by itself isn't in a const context.
abbrev pub value_kind : Kind
value_kind = record {
  Tree = ValueTree;
  form = value_form NonConst;
  obeys = value_obeys NonConst;
  flaws = value_flaws NonConst;
  shape = λ broken front. value_shape broken;
  nesting = value_nesting;
}
