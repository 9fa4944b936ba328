-- What the derived `==` of arguments, directives and lists of directives decides: whether their trees are the same.
use Rattle.std.proofs.Common.{◌≡◌, Bool, Option, Some, None, List, [], ◌∷◌, map, refl, ap, ap₂}
use Rattle.std.specs.Bool.{Decides}
use Rattle.std.specs.Cmp.Lexicographic.{pointwise}
use Rattle.std.specs.Option.{option_eq, option_map}
use Rattle.graphql_base.specs.declared.node.Node.{Node}
use Rattle.graphql_values.proofs.comparisons.ValueEquality.{both, through, never, always, names_decide, values_decide}
use Rattle.graphql_values.specs.trees.DirectiveTrees.{argument_tree, directive_tree, directive_trees}
use Rattle.graphql_values.specs.contracts.argument.ArgumentPartialEq.TheImpl as argument
use Rattle.graphql_values.specs.contracts.directive.DirectivePartialEq.TheImpl as directive
use Rattle.graphql_values.specs.contracts.directive_list.DirectiveListPartialEq.TheImpl as directive_list
use Rattle.graphql_values.specs.declared.argument.Argument.{Argument}
use Rattle.graphql_values.specs.declared.directive.Directive.{Directive}
use Rattle.graphql_values.specs.declared.directive_list.DirectiveList.{DirectiveList}

module _ {A B : Type 0} (E : A → A → Bool) (f : A → B) (decides : (x y : A) → Decides (E x y) (f x ≡ f y)) where
  -- lists of parts
  first_of_map : (x y : A) (xs ys : List A) → map f (x ∷ xs) ≡ map f (y ∷ ys) → f x ≡ f y
  first_of_map x y xs ys e = cc

  rest_of_map : (x y : A) (xs ys : List A) → map f (x ∷ xs) ≡ map f (y ∷ ys) → map f xs ≡ map f ys
  rest_of_map x y xs ys e = cc

  pub lists_decide : (xs ys : List A) → Decides (pointwise E xs ys) (map f xs ≡ map f ys)
  lists_decide [] [] = always refl
  lists_decide [] (y ∷ ys) = never (λ e. cc)
  lists_decide (x ∷ xs) [] = never (λ e. cc)
  lists_decide (x ∷ xs) (y ∷ ys) =
      both _ _ (decides x y) (lists_decide xs ys) (λ e. (first_of_map x y xs ys e, rest_of_map x y xs ys e)) (λ p q. ap₂ (λ t ts. t ∷ ts) p q)

  -- parts that may be left out
  pub options_decide : (x y : Option A) → Decides (option_eq E x y) (option_map f x ≡ option_map f y)
  options_decide None None = always refl
  options_decide None (Some y) = never (λ e. cc)
  options_decide (Some x) None = never (λ e. cc)
  options_decide (Some x) (Some y) = through (decides x y) (λ e. cc) (ap Some)

abbrev pub same_nodes : {M : Type 0} → (M → M → Bool) → List (Node M) → List (Node M) → Bool
same_nodes same = pointwise (λ n m. same n.value m.value)

pub nodes_decide : {M Tree : Type 0} (same : M → M → Bool) (tree : M → Tree) → ((a b : M) → Decides (same a b) (tree a ≡ tree b)) → (xs ys : List (Node M)) →
    Decides (same_nodes same xs ys) (map (λ n. tree n.value) xs ≡ map (λ n. tree n.value) ys)
nodes_decide same tree decides = lists_decide (λ n m. same n.value m.value) (λ n. tree n.value) (λ n m. decides n.value m.value)

pub arguments_decide : (a b : Argument) → Decides (argument.ghosts.eq a b) (argument_tree a ≡ argument_tree b)
arguments_decide a b =
    both _ _ (names_decide a.name b.name) (values_decide a.value.value b.value.value)
    (λ e. (ap (λ t. t.name) e, ap (λ t. t.value) e)) (λ p q. λ i. record { name = p i; value = q i })

pub directives_decide : (a b : Directive) → Decides (directive.ghosts.eq a b) (directive_tree a ≡ directive_tree b)
directives_decide a b =
    both _ _ (names_decide a.name b.name)
    (nodes_decide argument.ghosts.eq argument_tree arguments_decide a.arguments.items b.arguments.items)
    (λ e. (ap (λ t. t.name) e, ap (λ t. t.arguments) e)) (λ p q. λ i. record { name = p i; arguments = q i })

pub directive_lists_decide : (a b : DirectiveList) → Decides (directive_list.ghosts.eq a b) (directive_trees a ≡ directive_trees b)
directive_lists_decide a b =
    nodes_decide directive.ghosts.eq directive_tree directives_decide a.0.items b.0.items
