-- Fields by themselves: Field, section 2.5.
use Rattle.graphql_text.specs.kinds.Kinds.{Kind}
use Rattle.graphql_executable.specs.kinds.SelectionHeads.{FieldHeadTree}
use Rattle.graphql_executable.specs.kinds.Selections.{SelectionTree, SelectionTrees, field_selection, selection_kind}

-- A field without locations.
pub record FieldTree : Type 0 where
  pub head : FieldHeadTree
  pub selections : SelectionTrees

-- the selection that it is
abbrev pub selection_of_field : FieldTree → SelectionTree
selection_of_field field = field_selection field.head field.selections

-- A field by itself is what it is among selections.
abbrev pub field_kind : Kind
field_kind = record {
  Tree = FieldTree;
  form = λ field. selection_kind.form (selection_of_field field);
  obeys = λ field. selection_kind.obeys (selection_of_field field);
  flaws = λ field. selection_kind.flaws (selection_of_field field);
  shape = λ broken front field. selection_kind.shape broken front (selection_of_field field);
  nesting = λ field. selection_kind.nesting (selection_of_field field);
}
