-- Of kinds.Executable: selection sets go selection by selection, and what is within a selection of the code.
use Rattle.std.proofs.Common.{◌≡◌, Result, List, [], ◌∷◌, map, ControlFlow, refl, sym, ap, ◌∙◌, subst}
use Rattle.std.specs.Prelude.{⊤}
use Rattle.graphql_base.specs.declared.node.Node.{Node}
use Rattle.graphql_base.specs.Node.{node_value}
use Rattle.graphql_values.specs.trees.DirectiveTrees.{argument_trees, directive_trees}
use Rattle.graphql_executable.specs.declared.field.Field.{Field}
use Rattle.graphql_executable.specs.declared.fragment_spread.FragmentSpread.{FragmentSpread}
use Rattle.graphql_executable.specs.declared.inline_fragment.InlineFragment.{InlineFragment}
use Rattle.graphql_executable.specs.declared.selection.Selection.{Selection}
use Rattle.graphql_executable.specs.declared.selection.Selection.TheVariants as variant
use Rattle.graphql_executable.specs.kinds.Fields.{selection_of_field}
use Rattle.graphql_executable.specs.kinds.InlineFragments.{selection_of_inline_fragment}
use Rattle.graphql_executable.specs.kinds.Selections.{spread_selection}
use Rattle.graphql_executable.specs.trees.ExecutableTrees.{field_tree, fragment_spread_tree, inline_fragment_tree, selection_tree, selection_trees}
use Rattle.graphql_executable.proofs.layout.SelectionShapes.{field_is, inline_fragment_is, selection_is_field, selection_is_inline, selection_is_spread}
use Rattle.graphql_visit.specs.NodeTrees as node
use Rattle.graphql_visit.specs.NodeTrees.{NodeTree}
use Rattle.graphql_visit.specs.Walks.{Walks}
use Rattle.graphql_visit.specs.declared.visitor.Ended.{Ended}
use Rattle.graphql_visit.specs.declared.visitor.Flow.{Flow}
use Rattle.graphql_visit.specs.Visits.{each, visit, ◌⨟◌}
use Rattle.graphql_visit.specs.kinds.Executable.{selection_visited, selections_visits, within_selection}
use Rattle.graphql_visit.specs.kinds.Values.{argument_visited, directive_visited}

each_selection : (selections : List Selection) → each selection_visited (map selection_tree selections) ≡ selections_visits (selection_trees selections)
each_selection [] = refl
each_selection (selection ∷ selections) =
    ap (visit (node.Selection (selection_tree selection)) (within_selection (selection_tree selection))) (each_selection selections)

-- the reference to a selection is to its node
pub field_node : (selection : Selection) (n : Node Field) → selection ≡ variant.Field n →
    node.Selection (selection_of_field (field_tree (node_value n))) ≡ node.Selection (selection_tree selection)
field_node selection n is = ap node.Selection (sym (ap selection_tree is ∙ selection_is_field n))

pub spread_node : (selection : Selection) (n : Node FragmentSpread) → selection ≡ variant.FragmentSpread n →
    node.Selection (spread_selection (fragment_spread_tree (node_value n))) ≡ node.Selection (selection_tree selection)
spread_node selection n is = ap node.Selection (sym (ap selection_tree is ∙ selection_is_spread n))

pub inline_node : (selection : Selection) (n : Node InlineFragment) → selection ≡ variant.InlineFragment n →
    node.Selection (selection_of_inline_fragment (inline_fragment_tree (node_value n))) ≡ node.Selection (selection_tree selection)
inline_node selection n is = ap node.Selection (sym (ap selection_tree is ∙ selection_is_inline n))

module _ {S E : Type 0} (enters : NodeTree → S → Result Flow E → S → Type 0) (leaves : NodeTree → S → Result (ControlFlow ⊤ ⊤) E → S → Type 0) where
  pub set_walked : (selections : List Selection) (s t : S) (answer : Result ⊤ (Ended E)) →
      Walks enters leaves (each selection_visited (map selection_tree selections)) s answer t →
      Walks enters leaves (selections_visits (selection_trees selections)) s answer t
  set_walked selections s t answer = subst (λ visits. Walks enters leaves visits s answer t) (each_selection selections)

  pub field_walked : (selection : Selection) (n : Node Field) (s t : S) (answer : Result ⊤ (Ended E)) → selection ≡ variant.Field n →
      Walks enters leaves (each argument_visited (argument_trees (node_value n).arguments.items)
      ⨟ each directive_visited (directive_trees (node_value n).directives)
      ⨟ selections_visits (selection_trees (node_value n).selection_set.items)) s answer t →
      Walks enters leaves (within_selection (selection_tree selection)) s answer t
  field_walked selection n s t answer is =
      subst (λ tree. Walks enters leaves (within_selection tree) s answer t)
      (sym (ap selection_tree is ∙ selection_is_field n ∙ ap selection_of_field (field_is (node_value n))))

  pub spread_walked : (selection : Selection) (n : Node FragmentSpread) (s t : S) (answer : Result ⊤ (Ended E)) → selection ≡ variant.FragmentSpread n →
      Walks enters leaves (each directive_visited (directive_trees (node_value n).directives)) s answer t →
      Walks enters leaves (within_selection (selection_tree selection)) s answer t
  spread_walked selection n s t answer is =
      subst (λ tree. Walks enters leaves (within_selection tree) s answer t) (sym (ap selection_tree is ∙ selection_is_spread n))

  pub inline_walked : (selection : Selection) (n : Node InlineFragment) (s t : S) (answer : Result ⊤ (Ended E)) → selection ≡ variant.InlineFragment n →
      Walks enters leaves (each directive_visited (directive_trees (node_value n).directives)
      ⨟ selections_visits (selection_trees (node_value n).selection_set.items)) s answer t →
      Walks enters leaves (within_selection (selection_tree selection)) s answer t
  inline_walked selection n s t answer is =
      subst (λ tree. Walks enters leaves (within_selection tree) s answer t)
      (sym (ap selection_tree is ∙ selection_is_inline n ∙ ap selection_of_inline_fragment (inline_fragment_is (node_value n))))

pub ruleset node_steps = (field_node, spread_node, inline_node)

pub ruleset selection_steps = (field_walked, spread_walked, inline_walked)
