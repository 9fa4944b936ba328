-- Inline fragments by themselves: InlineFragment, section 2.8.
use Rattle.graphql_text.specs.kinds.Kinds.{Kind}
use Rattle.graphql_executable.specs.kinds.SelectionHeads.{InlineFragmentHeadTree}
use Rattle.graphql_executable.specs.kinds.Selections.{SelectionTree, SelectionTrees, inline_selection, selection_kind}

-- An inline fragment without locations.
pub record InlineFragmentTree : Type 0 where
  pub head : InlineFragmentHeadTree
  pub selections : SelectionTrees

-- the selection that it is
abbrev pub selection_of_inline_fragment : InlineFragmentTree → SelectionTree
selection_of_inline_fragment fragment = inline_selection fragment.head fragment.selections

-- An inline fragment by itself is what it is among selections.
abbrev pub inline_fragment_kind : Kind
inline_fragment_kind = record {
  Tree = InlineFragmentTree;
  form = λ fragment. selection_kind.form (selection_of_inline_fragment fragment);
  obeys = λ fragment. selection_kind.obeys (selection_of_inline_fragment fragment);
  flaws = λ fragment. selection_kind.flaws (selection_of_inline_fragment fragment);
  shape = λ broken front fragment. selection_kind.shape broken front (selection_of_inline_fragment fragment);
  nesting = λ fragment. selection_kind.nesting (selection_of_inline_fragment fragment);
}
