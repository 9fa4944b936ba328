-- The layout and the nesting of a list and of an object, over the slice of its items or fields.
use Rattle.std.proofs.Common.{◌≡◌, ◌<◌, Bool, true, List, [], ◌∷◌, ◌++◌, length, refl, ap, sym, ◌∙◌, arith, Some, codes}
use Rattle.std.specs.declared.alloc.Global.{Global}
use Rattle.std.specs.declared.vec.Vec.{Vec}
use Rattle.graphql_base.specs.Name.{name_text}
use Rattle.graphql_base.specs.declared.name.Name.{Name}
use Rattle.graphql_base.specs.declared.node.Node.{Node}
use Rattle.graphql_values.specs.declared.value.Value.{Value}
use Rattle.graphql_values.specs.declared.value.Value.TheOpen as layer
use Rattle.graphql_values.specs.declared.value.Value.TheVariants as variant
use Rattle.graphql_values.specs.declared.value.Value.TheFolds.{fold-roll-Value}
use Rattle.graphql_text.specs.lexical.Tokens.{lbracket, rbracket, lbrace, rbrace, colon, Punctuation, Name as NameToken}
use Rattle.graphql_text.specs.layout.Layout.{Word, Space, Raise, raises, lowers}
use Rattle.graphql_text.specs.code.Groups.{comma_rest}
use Rattle.graphql_text.specs.code.Writing.{fixed_text}
use Rattle.std.proofs.lemmas.Grind.{common_steps}
use Rattle.graphql_text.proofs.code.GroupsOpened.{comma_group_opened}
use Rattle.graphql_text.proofs.code.PendingStackSteps.{pending_items_push, pending_need_push}
use Rattle.graphql_text.proofs.parts.ToldShapes.{told_balanced}
use Rattle.graphql_values.specs.lemmas.Values.{told_value}
use Rattle.graphql_values.specs.code.ValueWalk.{opening, opening_word, opened_level}
use Rattle.graphql_values.specs.kinds.Values.{ValueTree, more_values, more_fields, null_value, enum_value, variable, float_value, int_value}
use Rattle.graphql_values.specs.kinds.Values.{string_value, boolean_value, no_values, no_fields, value_shape, values_shapes}
use Rattle.graphql_values.specs.kinds.Values.{object_fields_shapes, list_value, object_value, value_nesting, values_nesting}
use Rattle.graphql_values.specs.kinds.Values.{object_fields_nesting}
use Rattle.graphql_values.specs.declared.literal.IntValue.{IntValue}
use Rattle.graphql_values.specs.declared.literal.FloatValue.{FloatValue}
use Rattle.graphql_text.specs.trees.Leaves.{name_tree}
use Rattle.graphql_values.specs.trees.Literals.{int_tree, float_tree}
use Rattle.graphql_values.specs.trees.ValueTrees.{value_tree, value_tree_step, value_trees, object_field_trees}

pub value_tree_list : (v : Vec (Node Value) Global) → value_tree (variant.List v) ≡ list_value (value_trees v.items)
value_tree_list v = ap value_tree (sym (variant.rolls-List v)) ∙ fold-roll-Value ValueTree value_tree_step (layer.List v)

pub value_tree_object : (v : Vec (Name × Node Value) Global) → value_tree (variant.Object v) ≡ object_value (object_field_trees v.items)
value_tree_object v = ap value_tree (sym (variant.rolls-Object v)) ∙ fold-roll-Value ValueTree value_tree_step (layer.Object v)

pub value_tree_null : value_tree variant.Null ≡ null_value
value_tree_null = ap value_tree (sym variant.rolls-Null) ∙ fold-roll-Value ValueTree value_tree_step layer.Null

pub value_tree_enum : (n : Name) → value_tree (variant.Enum n) ≡ enum_value (name_tree n)
value_tree_enum n = ap value_tree (sym (variant.rolls-Enum n)) ∙ fold-roll-Value ValueTree value_tree_step (layer.Enum n)

pub value_tree_variable : (n : Name) → value_tree (variant.Variable n) ≡ variable (name_tree n)
value_tree_variable n = ap value_tree (sym (variant.rolls-Variable n)) ∙ fold-roll-Value ValueTree value_tree_step (layer.Variable n)

pub value_tree_float : (f : FloatValue) → value_tree (variant.Float f) ≡ float_value (float_tree f)
value_tree_float f = ap value_tree (sym (variant.rolls-Float f)) ∙ fold-roll-Value ValueTree value_tree_step (layer.Float f)

pub value_tree_int : (i : IntValue) → value_tree (variant.Int i) ≡ int_value (int_tree i)
value_tree_int i = ap value_tree (sym (variant.rolls-Int i)) ∙ fold-roll-Value ValueTree value_tree_step (layer.Int i)

pub value_tree_boolean : (b : Bool) → value_tree (variant.Boolean b) ≡ boolean_value b
value_tree_boolean b = ap value_tree (sym (variant.rolls-Boolean b)) ∙ fold-roll-Value ValueTree value_tree_step (layer.Boolean b)

pub value_nesting_list : (v : Vec (Node Value) Global) → value_nesting (value_tree (variant.List v)) ≡ values_nesting (value_trees v.items)
value_nesting_list v = ap value_nesting (value_tree_list v)

pub value_nesting_object : (v : Vec (Name × Node Value) Global) →
    value_nesting (value_tree (variant.Object v)) ≡ object_fields_nesting (object_field_trees v.items)
value_nesting_object v = ap value_nesting (value_tree_object v)

-- a list or an object that holds something nests at least one deep
pub nesting_some : (ns : List (Node Value)) → 0 < length ns → 0 < values_nesting (value_trees ns)
nesting_some [] h = omega arith
nesting_some (n ∷ ns) h = omega arith

pub fields_some : (fs : List (Name × Node Value)) → 0 < length fs → 0 < object_fields_nesting (object_field_trees fs)
fields_some [] h = omega arith
fields_some (f ∷ fs) h = omega arith

-- what is in a list or an object that holds something, after what opens it
module _ (broken : Bool) where
  list_opens : (n : Node Value) (ns : List (Node Value)) →
      value_shape broken (list_value (value_trees (n ∷ ns)))
      ≡ opening broken (list_value (value_trees (n ∷ ns)))
      ++ comma_rest rbracket broken true (values_shapes broken (value_trees (n ∷ ns)))
  list_opens n ns = comma_group_opened rbracket broken lbracket (value_shape broken (value_tree n.value)) (values_shapes broken (value_trees ns))

  pub list_opened : (v : Vec (Node Value) Global) → 0 < length v.items →
      value_shape broken (value_tree (variant.List v))
      ≡ opening broken (value_tree (variant.List v)) ++ comma_rest rbracket broken true (values_shapes broken (value_trees v.items))
  list_opened v h = rw (value_tree_list v) (go v.items h)
    where
      go : (ns : List (Node Value)) → 0 < length ns →
          value_shape broken (list_value (value_trees ns))
          ≡ opening broken (list_value (value_trees ns)) ++ comma_rest rbracket broken true (values_shapes broken (value_trees ns))
      go [] k = absurd (omega arith)
      go (n ∷ ns) k = list_opens n ns

  object_opens : (f : Name × Node Value) (fs : List (Name × Node Value)) →
      value_shape broken (object_value (object_field_trees (f ∷ fs)))
      ≡ opening broken (object_value (object_field_trees (f ∷ fs)))
      ++ comma_rest rbrace broken true (object_fields_shapes broken (object_field_trees (f ∷ fs)))
  object_opens f fs =
      comma_group_opened rbrace broken lbrace
      (Word (NameToken (name_text f.0)) ∷ Word (Punctuation colon) ∷ Space ∷ value_shape broken (value_tree f.1.value))
      (object_fields_shapes broken (object_field_trees fs))

  pub object_opened : (v : Vec (Name × Node Value) Global) → 0 < length v.items →
      value_shape broken (value_tree (variant.Object v))
      ≡ opening broken (value_tree (variant.Object v))
      ++ comma_rest rbrace broken true (object_fields_shapes broken (object_field_trees v.items))
  object_opened v h = rw (value_tree_object v) (go v.items h)
    where
      go : (fs : List (Name × Node Value)) → 0 < length fs →
          value_shape broken (object_value (object_field_trees fs))
          ≡ opening broken (object_value (object_field_trees fs))
          ++ comma_rest rbrace broken true (object_fields_shapes broken (object_field_trees fs))
      go [] k = absurd (omega arith)
      go (f ∷ fs) k = object_opens f fs

-- an empty list or object
pub empty_list : (v : Vec (Node Value) Global) → length v.items ≡ 0 → value_tree (variant.List v) ≡ list_value no_values
empty_list v h = value_tree_list v ∙ go v.items h
  where
    go : (ns : List (Node Value)) → length ns ≡ 0 → list_value (value_trees ns) ≡ list_value no_values
    go [] k = refl
    go (n ∷ ns) k = absurd (omega arith)

pub empty_object : (v : Vec (Name × Node Value) Global) → length v.items ≡ 0 → value_tree (variant.Object v) ≡ object_value no_fields
empty_object v h = value_tree_object v ∙ go v.items h
  where
    go : (fs : List (Name × Node Value)) → length fs ≡ 0 → object_value (object_field_trees fs) ≡ object_value no_fields
    go [] k = refl
    go (f ∷ fs) k = absurd (omega arith)

-- a list and an object that hold nothing
pub leaf_list : (v : Vec (Node Value) Global) → opened_level (value_tree (variant.List v)) ≡ 0 → value_tree (variant.List v) ≡ list_value no_values
leaf_list v h = value_tree_list v ∙ go v.items (sym (ap opened_level (value_tree_list v)) ∙ h)
  where
    go : (ns : List (Node Value)) → opened_level (list_value (value_trees ns)) ≡ 0 → list_value (value_trees ns) ≡ list_value no_values
    go [] k = refl
    go (n ∷ ns) k = absurd (omega arith)

pub leaf_object : (v : Vec (Name × Node Value) Global) → opened_level (value_tree (variant.Object v)) ≡ 0 →
    value_tree (variant.Object v) ≡ object_value no_fields
leaf_object v h = value_tree_object v ∙ go v.items (sym (ap opened_level (value_tree_object v)) ∙ h)
  where
    go : (fs : List (Name × Node Value)) → opened_level (object_value (object_field_trees fs)) ≡ 0 →
        object_value (object_field_trees fs) ≡ object_value no_fields
    go [] k = refl
    go (f ∷ fs) k = absurd (omega arith)

-- the bracket of a list and of an object that holds something
pub list_bracket : (v : Vec (Node Value) Global) → 0 < length v.items → fixed_text (opening_word (value_tree (variant.List v))) ≡ Some (codes "[")
list_bracket v h = rw (value_tree_list v) (go v.items h)
  where
    go : (ns : List (Node Value)) → 0 < length ns → fixed_text (opening_word (list_value (value_trees ns))) ≡ Some (codes "[")
    go [] k = absurd (omega arith)
    go (n ∷ ns) k = refl

pub object_bracket : (v : Vec (Name × Node Value) Global) → 0 < length v.items → fixed_text (opening_word (value_tree (variant.Object v))) ≡ Some (codes "{")
object_bracket v h = rw (value_tree_object v) (go v.items h)
  where
    go : (fs : List (Name × Node Value)) → 0 < length fs → fixed_text (opening_word (object_value (object_field_trees fs))) ≡ Some (codes "{")
    go [] k = absurd (omega arith)
    go (f ∷ fs) k = refl

-- what opens a value that holds something, and one that doesn't
pub group_opening : (broken : Bool) (value : ValueTree) → opened_level value ≡ 1 → opening broken value ≡ opening_word value ++ (Raise ∷ [])
group_opening broken (list_value (more_values value more)) e = refl
group_opening broken (object_value (more_fields name value more)) e = refl
group_opening broken (list_value no_values) e = absurd (omega arith)
group_opening broken (object_value no_fields) e = absurd (omega arith)
group_opening broken null_value e = absurd (omega arith)
group_opening broken (enum_value name) e = absurd (omega arith)
group_opening broken (variable name) e = absurd (omega arith)
group_opening broken (string_value string) e = absurd (omega arith)
group_opening broken (float_value float) e = absurd (omega arith)
group_opening broken (int_value int) e = absurd (omega arith)
group_opening broken (boolean_value boolean) e = absurd (omega arith)

pub leaf_opening : (broken : Bool) (value : ValueTree) → opened_level value ≡ 0 → opening broken value ≡ value_shape broken value
leaf_opening broken (list_value (more_values value more)) e = absurd (omega arith)
leaf_opening broken (object_value (more_fields name value more)) e = absurd (omega arith)
leaf_opening broken (list_value no_values) e = refl
leaf_opening broken (object_value no_fields) e = refl
leaf_opening broken null_value e = refl
leaf_opening broken (enum_value name) e = refl
leaf_opening broken (variable name) e = refl
leaf_opening broken (string_value string) e = refl
leaf_opening broken (float_value float) e = refl
leaf_opening broken (int_value int) e = refl
leaf_opening broken (boolean_value boolean) e = refl

-- what is written of a value raises the level as often as it lowers it
pub value_balanced : (broken : Bool) (value : ValueTree) → raises (value_shape broken value) ≡ lowers (value_shape broken value)
value_balanced broken value = told_balanced (told_value broken value)

-- what the walk over values cites
pub ruleset value_nesting_steps = (value_nesting_list, value_nesting_object)

pub ruleset value_brackets = (empty_list, empty_object, list_bracket, object_bracket)

pub ruleset opening_steps = (nesting_some, fields_some, value_nesting_steps, list_opened, object_opened, pending_items_push, pending_need_push, common_steps)
