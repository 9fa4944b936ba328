-- Of kinds.Values: what is within a type of the code.
use Rattle.std.proofs.Common.{◌≡◌, Result, Ok, ControlFlow, sym, ap, ◌∙◌, subst, Box, Global}
use Rattle.std.specs.Prelude.{⊤}
use Rattle.graphql_values.specs.declared.types.Type.{«Type», Type-F, out-Type, roll-Type, roll-out-Type, fold-roll-Type}
use Rattle.graphql_values.specs.declared.types.Type.TheVariants as variant
use Rattle.graphql_values.specs.kinds.TypeReferences.{TypeTree}
use Rattle.graphql_values.specs.trees.TypeTrees.{type_tree, type_tree_step}
use Rattle.graphql_values.proofs.layout.TypeShapes.{list_tree, non_null_list_tree}
use Rattle.graphql_visit.specs.NodeTrees.{NodeTree}
use Rattle.graphql_visit.specs.Walks.{Walks}
use Rattle.graphql_visit.specs.declared.visitor.Ended.{Ended}
use Rattle.graphql_visit.specs.declared.visitor.Flow.{Flow}
use Rattle.graphql_visit.specs.Visits.{one, no_visits}
use Rattle.graphql_visit.specs.kinds.Values.{type_visited, within_type}
use Rattle.graphql_visit.proofs.Steps.{walks_none}

-- nothing is within a type that is no list type
named_at : (inside : Type-F «Type») → ((item : Box «Type» Global) → roll-Type inside ≡ variant.List item → ⊥) →
    ((item : Box «Type» Global) → roll-Type inside ≡ variant.NonNullList item → ⊥) → within_type (type_tree (roll-Type inside)) ≡ no_visits
named_at (Type-F.Named name) list non_null = ap within_type (fold-roll-Type TypeTree type_tree_step (Type-F.Named name))
named_at (Type-F.NonNullNamed name) list non_null = ap within_type (fold-roll-Type TypeTree type_tree_step (Type-F.NonNullNamed name))
named_at (Type-F.List item) list non_null = absurd (list item (variant.rolls-List item))
named_at (Type-F.NonNullList item) list non_null = absurd (non_null item (variant.rolls-NonNullList item))

named : (ty : «Type») → ((item : Box «Type» Global) → ty ≡ variant.List item → ⊥) → ((item : Box «Type» Global) → ty ≡ variant.NonNullList item → ⊥) →
    within_type (type_tree ty) ≡ no_visits
named ty list non_null =
    ap (λ x. within_type (type_tree x)) (sym (roll-out-Type ty))
    ∙ named_at (out-Type ty) (λ item is. list item (sym (roll-out-Type ty) ∙ is)) (λ item is. non_null item (sym (roll-out-Type ty) ∙ is))

module _ {S E : Type 0} (enters : NodeTree → S → Result Flow E → S → Type 0) (leaves : NodeTree → S → Result (ControlFlow ⊤ ⊤) E → S → Type 0) where
  pub list_walked : (ty item : «Type») (within : Box «Type» Global) (s t : S) (answer : Result ⊤ (Ended E)) → ty ≡ variant.List within → item ≡ within.value →
      Walks enters leaves (one type_visited (type_tree item)) s answer t → Walks enters leaves (within_type (type_tree ty)) s answer t
  list_walked ty item within s t answer is same walked =
      subst (λ tree. Walks enters leaves (within_type tree) s answer t) (sym (ap type_tree is ∙ list_tree within))
      (subst (λ i. Walks enters leaves (one type_visited (type_tree i)) s answer t) same walked)

  pub non_null_list_walked : (ty item : «Type») (within : Box «Type» Global) (s t : S) (answer : Result ⊤ (Ended E)) → ty ≡ variant.NonNullList within →
      item ≡ within.value →
      Walks enters leaves (one type_visited (type_tree item)) s answer t → Walks enters leaves (within_type (type_tree ty)) s answer t
  non_null_list_walked ty item within s t answer is same walked =
      subst (λ tree. Walks enters leaves (within_type tree) s answer t) (sym (ap type_tree is ∙ non_null_list_tree within))
      (subst (λ i. Walks enters leaves (one type_visited (type_tree i)) s answer t) same walked)

  pub named_walked : (ty : «Type») (s : S) → ((item : Box «Type» Global) → ty ≡ variant.List item → ⊥) →
      ((item : Box «Type» Global) → ty ≡ variant.NonNullList item → ⊥) → Walks enters leaves (within_type (type_tree ty)) s (Ok tt) s
  named_walked ty s list non_null = subst (λ visits. Walks enters leaves visits s (Ok tt) s) (sym (named ty list non_null)) (walks_none enters leaves s)

pub ruleset type_steps = (list_walked, non_null_list_walked)
