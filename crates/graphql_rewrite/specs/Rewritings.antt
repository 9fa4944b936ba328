-- What is made of each value, list of arguments, list of directives, field and selection set of a tree, within which each is rewritten already.
use Rattle.std.specs.Prelude.{List}
use Rattle.graphql_values.specs.kinds.Arguments.{ArgumentTree}
use Rattle.graphql_values.specs.kinds.Directives.{DirectiveTree}
use Rattle.graphql_values.specs.kinds.Values.{ValueTree}
use Rattle.graphql_executable.specs.kinds.Fields.{FieldTree}
use Rattle.graphql_executable.specs.kinds.Selections.{SelectionTrees}

pub record Rewriting : Type 0 where
  -- Value, section 2.9
  pub value : ValueTree → ValueTree
  -- Arguments, section 2.6, and Directives, section 2.12: lists, which may be empty
  pub arguments : List ArgumentTree → List ArgumentTree
  pub directives : List DirectiveTree → List DirectiveTree
  -- Field, section 2.5, and SelectionSet, section 2.4, which has a selection
  pub field : FieldTree → FieldTree
  pub selections : SelectionTrees → SelectionTrees

-- Nothing is made. A rewriting of some parts alone begins with it: record { unchanged with selections = .. } in words.
abbrev pub unchanged : Rewriting
unchanged = record {
  value = λ value. value;
  arguments = λ arguments. arguments;
  directives = λ directives. directives;
  field = λ field. field;
  selections = λ selections. selections;
}
