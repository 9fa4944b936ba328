-- Rewritings that keep the side conditions of each part.
use Rattle.std.specs.Prelude.{Bool, true, false, List, IsTrue}
use Rattle.std.specs.List.{list_any}
use Rattle.graphql_text.specs.parts.Members.{has_some}
use Rattle.graphql_values.specs.kinds.Arguments.{ArgumentTree, arguments_obey}
use Rattle.graphql_values.specs.kinds.Directives.{DirectiveTree, directives_obey}
use Rattle.graphql_values.specs.kinds.Values.{Constness, ValueTree, value_obeys}
use Rattle.graphql_executable.specs.kinds.Fields.{FieldTree, field_kind}
use Rattle.graphql_executable.specs.kinds.Selections.{SelectionTrees, selection_set_obeys}
use Rattle.graphql_ast.specs.Definitions as name
use Rattle.graphql_ast.specs.Definitions.{DefinitionName, DefinitionTree}
use Rattle.graphql_rewrite.specs.Rewritings.{Rewriting}

-- What is made of a part that obeys the side conditions obeys them: of values, arguments and directives in a const context, and in any other.
pub record Keeps (f : Rewriting) : Type 0 where
  pub value : (c : Constness) (value : ValueTree) → IsTrue (value_obeys c value) → IsTrue (value_obeys c (f.value value))
  pub arguments : (c : Constness) (arguments : List ArgumentTree) → IsTrue (arguments_obey c arguments) → IsTrue (arguments_obey c (f.arguments arguments))
  pub directives : (c : Constness) (directives : List DirectiveTree) → IsTrue (directives_obey c directives) →
      IsTrue (directives_obey c (f.directives directives))
  pub field : (field : FieldTree) → IsTrue (field_kind.obeys field) → IsTrue (field_kind.obeys (f.field field))
  pub selections : (set : SelectionTrees) → IsTrue (selection_set_obeys set) → IsTrue (selection_set_obeys (f.selections set))

-- It leaves a directive where there is one: an extension may add nothing else.
abbrev pub LeavesSome : Rewriting → Type 0
LeavesSome f = (directives : List DirectiveTree) → IsTrue (has_some directives) → IsTrue (has_some (f.directives directives))

-- TypeSystemExtension, section 3.1
abbrev pub is_extension : DefinitionName → Bool
is_extension name.SchemaExtension = true
is_extension name.ScalarTypeExtension = true
is_extension name.ObjectTypeExtension = true
is_extension name.InterfaceTypeExtension = true
is_extension name.UnionTypeExtension = true
is_extension name.EnumTypeExtension = true
is_extension name.InputObjectTypeExtension = true
is_extension _ = false

abbrev pub has_extension : List DefinitionTree → Bool
has_extension = list_any (λ definition. is_extension definition.name)
