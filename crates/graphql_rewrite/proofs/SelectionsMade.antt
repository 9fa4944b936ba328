-- Of kinds.Executable: selection sets are made selection by selection, and what is made of a selection of the code.
use Rattle.std.proofs.Common.{◌≡◌, ℕ, ◌<◌, ◌≤◌, List, [], ◌∷◌, length, map, Option, Vec, Global, refl, ap, sym, ◌∙◌, arith}
use Rattle.graphql_base.specs.declared.node.Node.{Node}
use Rattle.graphql_base.specs.Node.{node_value}
use Rattle.graphql_executable.specs.declared.field.Field.{Field}
use Rattle.graphql_executable.specs.declared.fragment_spread.FragmentSpread.{FragmentSpread}
use Rattle.graphql_executable.specs.declared.inline_fragment.InlineFragment.{InlineFragment}
use Rattle.graphql_executable.specs.declared.selection.Selection.{Selection}
use Rattle.graphql_executable.specs.declared.selection.Selection.TheVariants as variant
use Rattle.graphql_executable.specs.kinds.Fields.{selection_of_field}
use Rattle.graphql_executable.specs.kinds.InlineFragments.{selection_of_inline_fragment}
use Rattle.graphql_executable.specs.kinds.Selections.{SelectionTree, spread_selection, more_selections}
use Rattle.graphql_executable.specs.trees.ExecutableTrees.{field_tree, fragment_spread_tree, inline_fragment_tree}
use Rattle.graphql_executable.specs.trees.ExecutableTrees.{selection_tree, selection_trees, selections_of}
use Rattle.graphql_executable.proofs.layout.SelectionShapes.{selection_is_field, selection_is_inline, selection_is_spread}
use Rattle.graphql_rewrite.specs.Outcomes.{outcome}
use Rattle.graphql_rewrite.specs.Rewritings.{Rewriting}
use Rattle.graphql_rewrite.specs.kinds.Executable.{rewritten_field, rewritten_fragment_spread, rewritten_inline_fragment}
use Rattle.graphql_rewrite.specs.kinds.Executable.{rewritten_selection, rewritten_selections, rewritten_set}
use Rattle.graphql_rewrite.proofs.Lists.{IsMadeUpTo, all_made, outcome_within}

module _ (f : Rewriting) where
  -- SETS

  each_selection : (trees : List SelectionTree) → selections_of (map (rewritten_selection f) trees) ≡ rewritten_selections f (selections_of trees)
  each_selection [] = refl
  each_selection (tree ∷ trees) = ap (more_selections (rewritten_selection f tree)) (each_selection trees)

  pub selections_made : (selections : List Selection) (i : ℕ) (made : Option (Vec Selection Global)) → length selections ≤ i →
      IsMadeUpTo selection_tree (rewritten_selection f) selections i made →
      outcome (λ all. selection_trees all.items) (selection_trees selections) made ≡ rewritten_selections f (selection_trees selections)
  selections_made selections i made past so_far =
      outcome_within selection_tree selections_of selection_trees (λ all. refl) selections made
      ∙ ap selections_of (all_made selection_tree (rewritten_selection f) selections i made past so_far)
      ∙ each_selection (map selection_tree selections)

  pub set_is : (selections : List Selection) → 0 < length selections →
      rewritten_set f (selection_trees selections) ≡ f.selections (rewritten_selections f (selection_trees selections))
  set_is [] some = absurd (omega arith)
  set_is (selection ∷ selections) some = refl

  pub empty_set_stays : (selections : List Selection) → length selections ≡ 0 →
      selection_trees selections ≡ rewritten_set f (selection_trees selections)
  empty_set_stays [] none = refl
  empty_set_stays (selection ∷ selections) none = absurd (omega arith)

  -- A SELECTION OF EACH KIND

  pub field_made : (selection : Selection) (n made : Node Field) → selection ≡ variant.Field n →
      field_tree (node_value made) ≡ rewritten_field f (field_tree (node_value n)) →
      selection_tree (variant.Field made) ≡ rewritten_selection f (selection_tree selection)
  field_made selection n made is h =
      selection_is_field made ∙ ap selection_of_field h ∙ sym (ap (rewritten_selection f) (ap selection_tree is ∙ selection_is_field n))

  pub field_stays : (selection : Selection) (n : Node Field) → selection ≡ variant.Field n →
      field_tree (node_value n) ≡ rewritten_field f (field_tree (node_value n)) → selection_tree selection ≡ rewritten_selection f (selection_tree selection)
  field_stays selection n is h = ap selection_tree is ∙ field_made selection n n is h

  pub spread_made : (selection : Selection) (n made : Node FragmentSpread) → selection ≡ variant.FragmentSpread n →
      fragment_spread_tree (node_value made) ≡ rewritten_fragment_spread f (fragment_spread_tree (node_value n)) →
      selection_tree (variant.FragmentSpread made) ≡ rewritten_selection f (selection_tree selection)
  spread_made selection n made is h =
      selection_is_spread made ∙ ap spread_selection h ∙ sym (ap (rewritten_selection f) (ap selection_tree is ∙ selection_is_spread n))

  pub spread_stays : (selection : Selection) (n : Node FragmentSpread) → selection ≡ variant.FragmentSpread n →
      fragment_spread_tree (node_value n) ≡ rewritten_fragment_spread f (fragment_spread_tree (node_value n)) →
      selection_tree selection ≡ rewritten_selection f (selection_tree selection)
  spread_stays selection n is h = ap selection_tree is ∙ spread_made selection n n is h

  pub inline_made : (selection : Selection) (n made : Node InlineFragment) → selection ≡ variant.InlineFragment n →
      inline_fragment_tree (node_value made) ≡ rewritten_inline_fragment f (inline_fragment_tree (node_value n)) →
      selection_tree (variant.InlineFragment made) ≡ rewritten_selection f (selection_tree selection)
  inline_made selection n made is h =
      selection_is_inline made ∙ ap selection_of_inline_fragment h
      ∙ sym (ap (rewritten_selection f) (ap selection_tree is ∙ selection_is_inline n))

  pub inline_stays : (selection : Selection) (n : Node InlineFragment) → selection ≡ variant.InlineFragment n →
      inline_fragment_tree (node_value n) ≡ rewritten_inline_fragment f (inline_fragment_tree (node_value n)) →
      selection_tree selection ≡ rewritten_selection f (selection_tree selection)
  inline_stays selection n is h = ap selection_tree is ∙ inline_made selection n n is h

pub ruleset set_steps = (set_is, empty_set_stays)

pub ruleset selection_steps = (field_made, field_stays, spread_made, spread_stays, inline_made, inline_stays)
