-- Of DirectiveRewritings: the directives of the code that are left.
use Rattle.std.proofs.Common.{◌≡◌, ℕ, ◌+◌, ◌<◌, ◌≤◌, Bool, true, false, List, [], ◌∷◌, ◌++◌, length, get_or, take, refl, ap, sym, ◌∙◌, append-nil}
use Rattle.std.specs.Prelude.{◌||◌, cond, filter, not, nat_eq}
use Rattle.std.specs.Cmp.Lexicographic.{pointwise}
use Rattle.std.proofs.lemmas.List.{map-append, take_all, take_more}
use Rattle.std.proofs.lemmas.List.Elements.{filter-append}
use Rattle.graphql_base.specs.declared.node.Node.{Node}
use Rattle.graphql_base.specs.Node.{node_value}
use Rattle.graphql_values.specs.code.Queries.{has_directive_named, is_directive_named}
use Rattle.graphql_values.specs.declared.directive.Directive.{Directive}
use Rattle.graphql_values.specs.kinds.Directives.{DirectiveTree}
use Rattle.graphql_values.specs.trees.DirectiveTrees.{directive_node_trees, directive_tree}
use Rattle.graphql_rewrite.specs.DirectiveRewritings.{without_directive}

module _ (text : List ℕ) where
  abbrev is_kept : DirectiveTree → Bool
  is_kept tree = not (pointwise nat_eq tree.name.text text)

  one_stays : (b rest : Bool) (x : DirectiveTree) (xs left : List DirectiveTree) → (b || rest) ≡ false → (rest ≡ false → xs ≡ left) →
      x ∷ xs ≡ cond (not b) (x ∷ left) left
  one_stays false rest x xs left none same = ap (λ l. x ∷ l) (same none)
  one_stays true rest x xs left none same = absurd (cc none)

  -- where there is none of that name all stay
  pub all_stay : (nodes : List (Node Directive)) → has_directive_named text nodes ≡ false →
      directive_node_trees nodes ≡ without_directive text (directive_node_trees nodes)
  all_stay [] none = refl
  all_stay (node ∷ nodes) none =
      one_stays (is_directive_named text node) (has_directive_named text nodes) (directive_tree (node_value node)) (directive_node_trees nodes)
      (without_directive text (directive_node_trees nodes)) none (all_stay nodes)

  -- of the first ones, those that are kept
  module _ (nodes : List (Node Directive)) where
    abbrev pub AreLeft : ℕ → List (Node Directive) → Type 0
    AreLeft i made = directive_node_trees made ≡ without_directive text (directive_node_trees (take i nodes))

    more : (i : ℕ) (x : Node Directive) → i < length nodes → x ≡ get_or nodes i x →
        without_directive text (directive_node_trees (take (i + 1) nodes))
        ≡ without_directive text (directive_node_trees (take i nodes)) ++ filter is_kept (directive_tree (node_value x) ∷ [])
    more i x below is =
        ap (λ l. without_directive text (directive_node_trees l)) (take_more nodes i x below ∙ ap (λ y. take i nodes ++ y ∷ []) (sym is))
        ∙ ap (filter is_kept) (map-append (λ node. directive_tree (node_value node)) (take i nodes) (x ∷ []))
        ∙ filter-append is_kept (directive_node_trees (take i nodes)) (directive_tree (node_value x) ∷ [])

    pub kept : (i : ℕ) (x : Node Directive) (made : List (Node Directive)) → i < length nodes → x ≡ get_or nodes i x →
        is_directive_named text x ≡ false → AreLeft i made → AreLeft (i + 1) (made ++ x ∷ [])
    kept i x made below is not_named so_far =
        map-append (λ node. directive_tree (node_value node)) made (x ∷ [])
        ∙ ap (λ l. l ++ directive_tree (node_value x) ∷ []) so_far
        ∙ ap (λ b. without_directive text (directive_node_trees (take i nodes)) ++ cond (not b) (directive_tree (node_value x) ∷ []) []) (sym not_named)
        ∙ sym (more i x below is)

    pub left_out : (i : ℕ) (x : Node Directive) (made : List (Node Directive)) → i < length nodes → x ≡ get_or nodes i x →
        is_directive_named text x ≡ true → AreLeft i made → AreLeft (i + 1) made
    left_out i x made below is named so_far =
        so_far ∙ sym (append-nil (without_directive text (directive_node_trees (take i nodes))))
        ∙ ap (λ b. without_directive text (directive_node_trees (take i nodes)) ++ cond (not b) (directive_tree (node_value x) ∷ []) []) (sym named)
        ∙ sym (more i x below is)

    pub all_left : (i : ℕ) (made : List (Node Directive)) → length nodes ≤ i → AreLeft i made →
        directive_node_trees made ≡ without_directive text (directive_node_trees nodes)
    all_left i made past so_far = so_far ∙ ap (λ l. without_directive text (directive_node_trees l)) (take_all i nodes past)

pub ruleset left_steps = (all_stay, kept, left_out, all_left)
