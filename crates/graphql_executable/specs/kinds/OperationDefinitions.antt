-- Operations: OperationDefinition, section 2.3; they may have a description.
use Rattle.std.specs.Prelude.{max, List, [], ◌∷◌, ◌++◌, Bool, true, false, if◌then◌else◌, ◌&&◌, Option, is_none, IsTrue, not}
use Rattle.graphql_text.specs.lexical.Literals.{NameText}
use Rattle.graphql_text.specs.lexical.Tokens.{Name}
use Rattle.graphql_text.specs.parts.Descriptions.{described}
use Rattle.graphql_text.specs.grammar.Forms.{Form, ◌⨟◌, name_except, optional, only_if, either}
use Rattle.graphql_text.specs.kinds.Kinds.{Kind}
use Rattle.graphql_text.specs.layout.Layout.{Item, Word, Space}
use Rattle.graphql_text.specs.parts.Members.{has_some}
use Rattle.graphql_text.specs.parts.Optional.{optional_shape}
use Rattle.graphql_values.specs.kinds.Directives.{DirectiveTree, directives_form, directives_shape, directives_nesting, directives_obey}
use Rattle.graphql_values.specs.kinds.OperationTypes.{OperationTypeTree, Query, operation_type_form, operation_type_shape}
use Rattle.graphql_values.specs.kinds.Values.{NonConst}
use Rattle.graphql_executable.specs.kinds.Selections.{SelectionTrees, selection_set_form, selection_set_shape, selection_set_nesting, selection_set_obeys}
use Rattle.graphql_executable.specs.kinds.VariableDefinitions.{variable_definition_kind, variable_definitions_form}
use Rattle.graphql_executable.specs.kinds.VariableDefinitions.{variable_definitions_shape, variable_definitions_nesting}
use Rattle.graphql_executable.specs.kinds.VariableDefinitions.{variable_definitions_obey}
use Rattle.graphql_values.specs.kinds.Directives.{directives_flaws}
use Rattle.graphql_executable.specs.kinds.Selections.{selection_set_flaws}
use Rattle.graphql_executable.specs.kinds.VariableDefinitions.{variable_definitions_flaws}

-- An operation without its description and without locations.
pub record OperationDefinitionTree : Type 0 where
  pub operation_type : OperationTypeTree
  pub name : Option NameText
  pub variables : List variable_definition_kind.Tree
  pub directives : List DirectiveTree
  pub selections : SelectionTrees

-- The layout of the name of an operation, after a space.
abbrev pub operation_name_shape : NameText → List Item
operation_name_shape name = Space ∷ Word (Name name.text) ∷ []

abbrev pub operation_definition_body : Kind
operation_definition_body = record {
  Tree = OperationDefinitionTree;
  -- the grammar of OperationDefinition, section 2.3, behind its description and not in shorthand
  form = λ operation.
      operation_type_form operation.operation_type ⨟ optional (name_except []) operation.name ⨟ variable_definitions_form operation.variables
      ⨟ directives_form NonConst operation.directives ⨟ selection_set_form operation.selections;
  -- the side conditions: it has a selection, and its variables, directives and selections obey theirs
  obeys = λ operation.
      variable_definitions_obey operation.variables
      && (directives_obey NonConst operation.directives && selection_set_obeys operation.selections);
  flaws = λ operation.
      variable_definitions_flaws operation.variables
      ++ (directives_flaws NonConst operation.directives ++ selection_set_flaws operation.name operation.selections);
  -- the layout of an operation, behind its description and not in shorthand
  shape = λ broken front operation.
      operation_type_shape operation.operation_type
      ++ (optional_shape operation_name_shape operation.name
      ++ (variable_definitions_shape broken operation.variables
      ++ (directives_shape operation.directives ++ (Space ∷ selection_set_shape operation.selections))));
  -- it nests as its variables, its directives or its selection set do, whichever nest most
  nesting = λ operation.
      max (variable_definitions_nesting operation.variables)
      (max (directives_nesting operation.directives) (selection_set_nesting operation.selections));
}

-- An operation that is written in full, after its description.
abbrev pub full_operation_kind : Kind
full_operation_kind = described operation_definition_body

abbrev pub is_query : OperationTypeTree → Bool
is_query Query = true
is_query _ = false

-- whether it is a query that has nothing but a selection set: the query shorthand of section 2.3 stands for such a one
abbrev pub is_bare_query : full_operation_kind.Tree → Bool
is_bare_query operation =
    is_none operation.description && is_query operation.body.operation_type && is_none operation.body.name
    && not (has_some operation.body.variables) && not (has_some operation.body.directives)

-- The grammar of OperationDefinition, section 2.3: in shorthand, or in full.
unfoldable pub operation_form : full_operation_kind.Tree → Form
operation_form operation =
    either (only_if (IsTrue (is_bare_query operation)) (selection_set_form operation.body.selections)) (full_operation_kind.form operation)

-- The layout of an operation. The shorthand stands only where nothing is written before it, and then always.
unfoldable pub operation_shape : Bool → Bool → full_operation_kind.Tree → List Item
operation_shape broken front operation =
    if front && is_bare_query operation then selection_set_shape operation.body.selections else full_operation_kind.shape broken front operation

abbrev pub operation_definition_kind : Kind
operation_definition_kind = record {
  Tree = full_operation_kind.Tree;
  form = operation_form;
  obeys = full_operation_kind.obeys;
  flaws = full_operation_kind.flaws;
  shape = operation_shape;
  nesting = full_operation_kind.nesting;
}
