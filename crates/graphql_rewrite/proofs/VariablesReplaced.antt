-- Of VariableRewritings: variables of the code that values take the place of.
use Rattle.std.proofs.Common.{◌≡◌, ℕ, ◌+◌, ◌<◌, ◌≤◌, true, false, List, ◌∷◌, length, get_or, drop, map, Some, None, refl, ap, sym, ◌∙◌}
use Rattle.std.proofs.Math.ListN.{drop_of_length-le}
use Rattle.std.specs.Prelude.{if◌then◌else◌, nat_eq, unwrap_or}
use Rattle.std.specs.Cmp.Lexicographic.{pointwise}
use Rattle.graphql_base.specs.declared.name.Name.{Name}
use Rattle.graphql_base.specs.Name.{name_text}
use Rattle.graphql_text.specs.lexical.Literals.{NameText}
use Rattle.graphql_text.specs.trees.Leaves.{name_tree}
use Rattle.graphql_values.specs.declared.value.Value.{Value, Value-F, out-Value, roll-Value, roll-out-Value, fold-roll-Value}
use Rattle.graphql_values.specs.declared.value.Value.TheVariants.{rolls-Variable}
use Rattle.graphql_values.specs.declared.value.Value as value
use Rattle.graphql_values.specs.kinds.Values.{ValueTree, variable}
use Rattle.graphql_values.specs.trees.ValueTrees.{value_tree, value_tree_step}
use Rattle.graphql_visit.proofs.Steps.{drop_at}
use Rattle.graphql_rewrite.specs.VariableRewritings.{replaced_variable, value_named}
use Rattle.graphql_rewrite.proofs.ValuesMade.{stays_at}

abbrev named_tree : Name × Value → NameText × ValueTree
named_tree named = (name_tree named.0, value_tree named.1)

-- THE FIRST VALUE OF A NAME

module _ (name : Name) (values : List (Name × Value)) where
  -- what is left decides
  abbrev pub IsLeft : ℕ → Type 0
  IsLeft i = value_named (name_tree name) (map named_tree (drop i values)) ≡ value_named (name_tree name) (map named_tree values)

  at : (i : ℕ) (x : Name × Value) → i < length values → x ≡ get_or values i x →
      value_named (name_tree name) (map named_tree (drop i values))
      ≡ (if pointwise nat_eq (name_text x.0) (name_text name) then Some (value_tree x.1)
      else value_named (name_tree name) (map named_tree (drop (i + 1) values)))
  at i x below is =
      ap (λ l. value_named (name_tree name) (map named_tree l)) (drop_at values i x below is)

  pub goes_on : (i : ℕ) (x : Name × Value) → i < length values → x ≡ get_or values i x →
      pointwise nat_eq (name_text x.0) (name_text name) ≡ false → IsLeft i → IsLeft (i + 1)
  goes_on i x below is other left =
      ap (λ b. if b then Some (value_tree x.1) else value_named (name_tree name) (map named_tree (drop (i + 1) values))) (sym other)
      ∙ sym (at i x below is) ∙ left

  pub is_found : (i : ℕ) (x : Name × Value) → i < length values → x ≡ get_or values i x →
      pointwise nat_eq (name_text x.0) (name_text name) ≡ true → IsLeft i → Some (value_tree x.1) ≡ value_named (name_tree name) (map named_tree values)
  is_found i x below is same left =
      ap (λ b. if b then Some (value_tree x.1) else value_named (name_tree name) (map named_tree (drop (i + 1) values))) (sym same)
      ∙ sym (at i x below is) ∙ left

  pub is_not_there : (i : ℕ) → length values ≤ i → IsLeft i → None ≡ value_named (name_tree name) (map named_tree values)
  is_not_there i past left = ap (λ l. value_named (name_tree name) (map named_tree l)) (sym (drop_of_length-le values past)) ∙ left

pub ruleset named_steps = (goes_on, is_found, is_not_there)

-- A VARIABLE, AND ANY OTHER VALUE

module _ (values : List (NameText × ValueTree)) where
  variable_is : (v : Value) (name : Name) → v ≡ value.Variable name → value_tree v ≡ variable (name_tree name)
  variable_is v name is =
      ap value_tree (is ∙ sym (rolls-Variable name)) ∙ fold-roll-Value ValueTree value_tree_step (Value-F.Variable name)

  pub is_replaced : (v w : Value) (name : Name) (found : ValueTree) → v ≡ value.Variable name → value_named (name_tree name) values ≡ Some found →
      value_tree w ≡ found → value_tree w ≡ replaced_variable values (value_tree v)
  is_replaced v w name found is named same =
      same ∙ ap (λ o. unwrap_or o (variable (name_tree name))) (sym named) ∙ sym (ap (replaced_variable values) (variable_is v name is))

  pub has_no_value : (v : Value) (name : Name) → v ≡ value.Variable name → value_named (name_tree name) values ≡ None →
      value_tree v ≡ replaced_variable values (value_tree v)
  has_no_value v name is none =
      variable_is v name is ∙ ap (λ o. unwrap_or o (variable (name_tree name))) (sym none) ∙ sym (ap (replaced_variable values) (variable_is v name is))

  other_at : (inside : Value-F Value) → ((name : Name) → roll-Value inside ≡ value.Variable name → ⊥) →
      replaced_variable values (value_tree (roll-Value inside)) ≡ value_tree (roll-Value inside)
  other_at Value-F.Null other = stays_at (replaced_variable values) _ _ (fold-roll-Value ValueTree value_tree_step Value-F.Null) refl
  other_at (Value-F.Enum name) other = stays_at (replaced_variable values) _ _ (fold-roll-Value ValueTree value_tree_step (Value-F.Enum name)) refl
  other_at (Value-F.Variable name) other = absurd (other name (rolls-Variable name))
  other_at (Value-F.String string) other = stays_at (replaced_variable values) _ _ (fold-roll-Value ValueTree value_tree_step (Value-F.String string)) refl
  other_at (Value-F.Float float) other = stays_at (replaced_variable values) _ _ (fold-roll-Value ValueTree value_tree_step (Value-F.Float float)) refl
  other_at (Value-F.Int int) other = stays_at (replaced_variable values) _ _ (fold-roll-Value ValueTree value_tree_step (Value-F.Int int)) refl
  other_at (Value-F.Boolean boolean) other = stays_at (replaced_variable values) _ _ (fold-roll-Value ValueTree value_tree_step (Value-F.Boolean boolean)) refl
  other_at (Value-F.List items) other = stays_at (replaced_variable values) _ _ (fold-roll-Value ValueTree value_tree_step (Value-F.List items)) refl
  other_at (Value-F.Object fields) other = stays_at (replaced_variable values) _ _ (fold-roll-Value ValueTree value_tree_step (Value-F.Object fields)) refl

  pub other_stays : (v : Value) → ((name : Name) → v ≡ value.Variable name → ⊥) → value_tree v ≡ replaced_variable values (value_tree v)
  other_stays v other =
      let tree : value_tree v ≡ value_tree (roll-Value (out-Value v)) = ap value_tree (sym (roll-out-Value v)) in
      tree ∙ sym (ap (replaced_variable values) tree ∙ other_at (out-Value v) (λ name is. other name (sym (roll-out-Value v) ∙ is)))

pub ruleset replaced_steps = (is_replaced, has_no_value, other_stays)
