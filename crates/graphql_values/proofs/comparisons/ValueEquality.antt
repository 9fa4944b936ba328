-- What the derived `==` of values decides: whether their trees are the same.
use Rattle.std.proofs.Common.{◌≡◌, Bool, true, false, ◌&&◌, List, [], ◌∷◌, map, eqb, chars, encode_utf8_all, string_bytes, refl, sym, ap}
use Rattle.std.proofs.Common.{ap₂, ◌∙◌, subst, true≢false, Global, String}
use Rattle.std.specs.Bool.{Decides}
use mathlib.Core.Bool.{beq}
use Rattle.std.specs.Cmp.{first_so, second_so, booleans_Decides}
use Rattle.std.specs.Cmp.Lexicographic.{pointwise, bytes_decides}
use Rattle.std.proofs.lemmas.Str.{IsUtf8-string_bytes, encodes-chars}
use denote.Enum.Compared.{Each, by}
use Rattle.graphql_base.specs.declared.name.Name.{Name}
use Rattle.graphql_base.specs.declared.node.Node.{Node}
use Rattle.graphql_text.specs.lexical.Literals.{NameText, IntText, FloatText, StringText}
use Rattle.graphql_text.proofs.lexical.CheckedTexts.{same_text}
use Rattle.graphql_text.specs.trees.Leaves.{name_tree}
use Rattle.graphql_values.specs.trees.Literals.{int_tree, float_tree, string_tree}
use Rattle.graphql_values.specs.kinds.Values.{ValueTree, null_value, enum_value, variable, string_value, float_value, int_value}
use Rattle.graphql_values.specs.kinds.Values.{boolean_value, list_value, object_value, ValueTrees, no_values, more_values, ObjectFieldTrees}
use Rattle.graphql_values.specs.kinds.Values.{no_fields, more_fields}
use Rattle.graphql_values.specs.trees.ValueTrees.{value_tree, value_tree_step, items_of, fields_of, IsCloneOf, IsLevelCloneOf}
use Rattle.graphql_values.specs.contracts.value.Value.{enum as Shape}
use Rattle.graphql_values.specs.contracts.value.ValuePartialEq.TheImpl.{ghosts}
use Rattle.graphql_values.specs.contracts.value.ValuePartialEq.TheImpl.Laws.{is}
use Rattle.graphql_values.specs.declared.literal.IntValue.{IntValue}
use Rattle.graphql_values.specs.declared.literal.FloatValue.{FloatValue}
use Rattle.graphql_values.specs.declared.value.Value.{Value, Value-F, out-Value, roll-Value, out-roll-Value, roll-out-Value}
use Rattle.graphql_values.specs.declared.value.Value.{fold-roll-Value, fold_out-Value, map-Value, ind-Value}
use Rattle.graphql_values.specs.declared.value.Value.TheBlock.{split-Value, the_family}

abbrev same : Value → Value → Bool
same = ghosts.eq

-- DECISIONS

module _ {P Q R : Type 0} where
  pub both : (a b : Bool) → Decides a P → Decides b Q → (R → P × Q) → (P → Q → R) → Decides (a && b) R
  both a b p q split join = (
    λ e. join (p.0 (first_so a b e)) (q.0 (second_so a b e)),
    λ r. ap₂ (λ s t. s && t) (p.1 (split r).0) (q.1 (split r).1),
  )

pub through : {P R : Type 0} {a : Bool} → Decides a P → (R → P) → (P → R) → Decides a R
through d f g = (λ e. g (d.0 e), λ r. d.1 (f r))

pub never : {R : Type 0} → (R → ⊥) → Decides false R
never f = (λ e. absurd (true≢false (sym e)), λ r. absurd (f r))

pub always : {R : Type 0} → R → Decides true R
always r = (λ e. r, λ _. refl)

-- LEAVES

abbrev pub same_names : Name → Name → Bool
same_names x y = pointwise eqb x.text.bytes y.text.bytes

pub names_decide : (x y : Name) → Decides (same_names x y) (name_tree x ≡ name_tree y)
names_decide x y = through (bytes_decides x.text.bytes y.text.bytes) (ap (λ t. t.text)) (same_text (name_tree x) (name_tree y))

ints_decide : (x y : IntValue) → Decides (pointwise eqb x.numeral y.numeral) (int_tree x ≡ int_tree y)
ints_decide x y = through (bytes_decides x.numeral y.numeral) (ap (λ t. t.text)) (same_text (int_tree x) (int_tree y))

floats_decide : (x y : FloatValue) → Decides (pointwise eqb x.text y.text) (float_tree x ≡ float_tree y)
floats_decide x y = through (bytes_decides x.text y.text) (ap (λ t. t.text)) (same_text (float_tree x) (float_tree y))

-- two strings of the same characters have the same bytes
same_bytes : (x y : String Global) → chars (string_bytes x) ≡ chars (string_bytes y) → string_bytes x ≡ string_bytes y
same_bytes x y e = sym (encodes-chars (string_bytes x) (IsUtf8-string_bytes x)) ∙ ap encode_utf8_all e ∙ encodes-chars (string_bytes y) (IsUtf8-string_bytes y)

pub strings_decide : (x y : String Global) → Decides (pointwise eqb (string_bytes x) (string_bytes y)) (string_tree x ≡ string_tree y)
strings_decide x y =
    through (bytes_decides (string_bytes x) (string_bytes y)) (λ e. same_bytes x y (ap (λ t. t.text) e))
    (λ e. same_text (string_tree x) (string_tree y) (ap chars e))

-- `==` AT ONE LEVEL, OVER AN `==` OF WHAT IS INSIDE

abbrev eq_step : (Value → Value → Bool) → Value-F Value → Value-F Value → Bool
eq_step E Value-F.Null Value-F.Null = true
eq_step E (Value-F.Enum x) (Value-F.Enum y) = pointwise eqb x.text.bytes y.text.bytes
eq_step E (Value-F.Variable x) (Value-F.Variable y) = pointwise eqb x.text.bytes y.text.bytes
eq_step E (Value-F.String x) (Value-F.String y) = pointwise eqb (string_bytes x) (string_bytes y)
eq_step E (Value-F.Float x) (Value-F.Float y) = pointwise eqb x.text y.text
eq_step E (Value-F.Int x) (Value-F.Int y) = pointwise eqb x.numeral y.numeral
eq_step E (Value-F.Boolean x) (Value-F.Boolean y) = beq x y
eq_step E (Value-F.List x) (Value-F.List y) = pointwise (λ n m. E n.value m.value) x.items y.items
eq_step E (Value-F.Object x) (Value-F.Object y) = pointwise (λ p q. pointwise eqb p.0.text.bytes q.0.text.bytes && E p.1.value q.1.value) x.items y.items
eq_step E x y = false

-- the same, for each variant in turn
abbrev each : Each Bool Shape.parts
each = (
  λ a b. true,
  (
    λ a b. pointwise eqb a.0.text.bytes b.0.text.bytes,
    (
      λ a b. pointwise eqb a.0.text.bytes b.0.text.bytes,
      (
        λ a b. pointwise eqb (string_bytes a.0) (string_bytes b.0),
        (
          λ a b. pointwise eqb a.0.text b.0.text,
          (
            λ a b. pointwise eqb a.0.numeral b.0.numeral,
            (
              λ a b. beq a.0 b.0,
              (
                λ a b. pointwise (λ n m. same n.value m.value) a.0.items b.0.items,
                (λ a b. pointwise (λ p q. pointwise eqb p.0.text.bytes q.0.text.bytes && same p.1.value q.1.value) a.0.items b.0.items, tt),
              ),
            ),
          ),
        ),
      ),
    ),
  ),
)

abbrev stepped : Value-F Value → Value-F Value → Bool
stepped x y = by false false Shape.parts each (split-Value the_family x) (split-Value the_family y)

at_level : (x y : Value-F Value) → stepped x y ≡ eq_step same x y
at_level Value-F.Null Value-F.Null = refl
at_level (Value-F.Enum x) (Value-F.Enum y) = refl
at_level (Value-F.Variable x) (Value-F.Variable y) = refl
at_level (Value-F.String x) (Value-F.String y) = refl
at_level (Value-F.Float x) (Value-F.Float y) = refl
at_level (Value-F.Int x) (Value-F.Int y) = refl
at_level (Value-F.Boolean x) (Value-F.Boolean y) = refl
at_level (Value-F.List x) (Value-F.List y) = refl
at_level (Value-F.Object x) (Value-F.Object y) = refl
at_level x y = refl

is_stepped : (u v : Value) → same u v ≡ stepped (out-Value u) (out-Value v)
is_stepped u v = is u v

eq_is : (x y : Value-F Value) → same (roll-Value x) (roll-Value y) ≡ eq_step same x y
eq_is x y = is_stepped (roll-Value x) (roll-Value y) ∙ ap₂ stepped (out-roll-Value x) (out-roll-Value y) ∙ at_level x y

-- WHAT A TREE IS MADE OF

module _ (name : NameText) where
  abbrev name_in : ValueTree → NameText
  name_in (enum_value t) = t
  name_in (variable t) = t
  name_in _ = name

module _ (string : StringText) where
  abbrev string_in : ValueTree → StringText
  string_in (string_value t) = t
  string_in _ = string

module _ (float : FloatText) where
  abbrev float_in : ValueTree → FloatText
  float_in (float_value t) = t
  float_in _ = float

module _ (int : IntText) where
  abbrev int_in : ValueTree → IntText
  int_in (int_value t) = t
  int_in _ = int

abbrev boolean_in : ValueTree → Bool
boolean_in (boolean_value b) = b
boolean_in _ = false

abbrev items_in : ValueTree → ValueTrees
items_in (list_value ts) = ts
items_in _ = no_values

abbrev fields_in : ValueTree → ObjectFieldTrees
fields_in (object_value fs) = fs
fields_in _ = no_fields

abbrev first_value : ValueTrees → ValueTree
first_value no_values = null_value
first_value (more_values t ts) = t

abbrev other_values : ValueTrees → ValueTrees
other_values no_values = no_values
other_values (more_values t ts) = ts

abbrev first_name : NameText → ObjectFieldTrees → NameText
first_name name no_fields = name
first_name name (more_fields k t fs) = k

abbrev first_field : ObjectFieldTrees → ValueTree
first_field no_fields = null_value
first_field (more_fields k t fs) = t

abbrev other_fields : ObjectFieldTrees → ObjectFieldTrees
other_fields no_fields = no_fields
other_fields (more_fields k t fs) = fs

-- ONE LEVEL, WHERE `==` OF WHAT IS INSIDE DECIDES

abbrev on_node : {X Y : Type 0} → (X → Y) → Node X → Node Y
on_node h n = record { value = h n.value; location = n.location }

abbrev on_field : {X Y : Type 0} → (X → Y) → Name × Node X → Name × Node Y
on_field h p = (p.0, on_node h p.1)

module _ {S : Type 0} (down : S → Value) (known : (e : S) (v : Value) → Decides (same (down e) v) (value_tree (down e) ≡ value_tree v)) where
  items_decide : (ns : List (Node S)) (ms : List (Node Value))
      → Decides (pointwise (λ n m. same n.value m.value) (map (on_node down) ns) ms)
      (items_of (map (on_node value_tree) (map (on_node down) ns)) ≡ items_of (map (on_node value_tree) ms))
  items_decide [] [] = always refl
  items_decide [] (m ∷ ms) = never (λ e. cc)
  items_decide (n ∷ ns) [] = never (λ e. cc)
  items_decide (n ∷ ns) (m ∷ ms) =
      both _ _ (known n.value m.value) (items_decide ns ms) (λ e. (ap first_value e, ap other_values e)) (λ p q. ap₂ more_values p q)

  fields_decide : (ps : List (Name × Node S)) (qs : List (Name × Node Value))
      → Decides (pointwise (λ p q. pointwise eqb p.0.text.bytes q.0.text.bytes && same p.1.value q.1.value) (map (on_field down) ps) qs)
      (fields_of (map (on_field value_tree) (map (on_field down) ps)) ≡ fields_of (map (on_field value_tree) qs))
  fields_decide [] [] = always refl
  fields_decide [] (q ∷ qs) = never (λ e. cc)
  fields_decide (p ∷ ps) [] = never (λ e. cc)
  fields_decide (p ∷ ps) (q ∷ qs) = both _ _ (both _ _ (names_decide p.0 q.0) (known p.1.value q.1.value) (λ r. r) (λ k v. (k, v))) (fields_decide ps qs)
      (λ e. ((ap (first_name (name_tree p.0)) e, ap first_field e), ap other_fields e)) (λ r es. λ i. more_fields (r.0 i) (r.1 i) (es i))

  level_decides : (y : Value-F S) (z : Value-F Value) →
      Decides (eq_step same (map-Value S Value down y) z)
      (value_tree_step (map-Value Value ValueTree value_tree (map-Value S Value down y))
      ≡ value_tree_step (map-Value Value ValueTree value_tree z))
  level_decides Value-F.Null Value-F.Null = always refl
  level_decides (Value-F.Enum x) (Value-F.Enum y) = through (names_decide x y) (ap (name_in (name_tree x))) (ap enum_value)
  level_decides (Value-F.Variable x) (Value-F.Variable y) = through (names_decide x y) (ap (name_in (name_tree x))) (ap variable)
  level_decides (Value-F.String x) (Value-F.String y) = through (strings_decide x y) (ap (string_in (string_tree x))) (ap string_value)
  level_decides (Value-F.Float x) (Value-F.Float y) = through (floats_decide x y) (ap (float_in (float_tree x))) (ap float_value)
  level_decides (Value-F.Int x) (Value-F.Int y) = through (ints_decide x y) (ap (int_in (int_tree x))) (ap int_value)
  level_decides (Value-F.Boolean x) (Value-F.Boolean y) = through (booleans_Decides x y) (ap boolean_in) (ap boolean_value)
  level_decides (Value-F.List x) (Value-F.List y) = through (items_decide x.items y.items) (ap items_in) (ap list_value)
  level_decides (Value-F.Object x) (Value-F.Object y) = through (fields_decide x.items y.items) (ap fields_in) (ap object_value)
  level_decides y z = never (λ e. cc)

-- AT EVERY LEVEL

abbrev IsKnown : Value → Type 0
IsKnown u = (v : Value) → Decides (same u v) (value_tree u ≡ value_tree v)

at_rolls : (x z : Value-F Value) →
    Decides (eq_step same x z)
    (value_tree_step (map-Value Value ValueTree value_tree x) ≡ value_tree_step (map-Value Value ValueTree value_tree z)) →
    Decides (same (roll-Value x) (roll-Value z)) (value_tree (roll-Value x) ≡ value_tree (roll-Value z))
at_rolls x z d = (
  λ e. fold-roll-Value ValueTree value_tree_step x ∙ d.0 (sym (eq_is x z) ∙ e) ∙ sym (fold-roll-Value ValueTree value_tree_step z),
  λ e. eq_is x z ∙ d.1 (sym (fold-roll-Value ValueTree value_tree_step x) ∙ e ∙ fold-roll-Value ValueTree value_tree_step z),
)

pub values_decide : (u v : Value) → Decides (same u v) (value_tree u ≡ value_tree v)
values_decide = ind-Value IsKnown (λ x y e.
    let inside = map-Value _ Value (λ e. e.0) y in
    subst (λ x. IsKnown (roll-Value x)) e
    (λ v. subst (λ v. Decides (same (roll-Value inside) v) (value_tree (roll-Value inside) ≡ value_tree v)) (roll-out-Value v)
    (at_rolls inside (out-Value v) (level_decides (λ e. e.0) (λ e. e.1) y (out-Value v)))))

-- A CLONE

clone_level : (x y : Value-F Value) → IsLevelCloneOf x y →
    value_tree_step (map-Value Value ValueTree value_tree x) ≡ value_tree_step (map-Value Value ValueTree value_tree y)
clone_level Value-F.Null Value-F.Null c = refl
clone_level (Value-F.Enum x) (Value-F.Enum y) c = sym (ap (λ n. enum_value (name_tree n)) c)
clone_level (Value-F.Variable x) (Value-F.Variable y) c = sym (ap (λ n. variable (name_tree n)) c)
clone_level (Value-F.String x) (Value-F.String y) c = sym (ap string_value (same_text (string_tree y) (string_tree x) (ap chars c)))
clone_level (Value-F.Float x) (Value-F.Float y) c = sym (ap (λ n. float_value (float_tree n)) c)
clone_level (Value-F.Int x) (Value-F.Int y) c = sym (ap (λ n. int_value (int_tree n)) c)
clone_level (Value-F.Boolean x) (Value-F.Boolean y) c = sym (ap boolean_value c)
clone_level (Value-F.List x) (Value-F.List y) c = sym (ap (λ ns. list_value (items_of (map (on_node value_tree) ns))) c)
clone_level (Value-F.Object x) (Value-F.Object y) c = sym (ap (λ ps. object_value (fields_of (map (on_field value_tree) ps))) c)
clone_level x y c = absurd c

pub clone_tree : (u v : Value) → IsCloneOf u v → value_tree v ≡ value_tree u
clone_tree u v c =
    sym (fold_out-Value ValueTree value_tree_step u ∙ clone_level (out-Value u) (out-Value v) c
    ∙ sym (fold_out-Value ValueTree value_tree_step v))
