-- Documents: Document, section 2.2.
use Rattle.std.specs.Prelude.{List, [], ◌∷◌, ◌++◌, Bool, false, ◌&&◌, None}
use Rattle.std.specs.List.{list_all, flat_map}
use Rattle.graphql_text.specs.grammar.Forms.{nonempty_list_of}
use Rattle.graphql_text.specs.parts.Greatest.{greatest}
use Rattle.graphql_text.specs.kinds.Kinds.{Kind}
use Rattle.graphql_text.specs.layout.Layout.{Item, Blank, Finish}
use Rattle.graphql_text.specs.parts.Members.{has_some}
use Rattle.graphql_ast.specs.Definitions.{DefinitionTree, definition_kind}
use Rattle.graphql_text.specs.declared.ill_formed.SideCondition.TheVariants.{HasDefinition}
use Rattle.graphql_text.specs.kinds.Flaws.{flaw_unless}

-- The layout behind the first definition: an empty line before each that follows, or a space on one line, and a line feed at the end, unless it
-- is on one line. Something is written before each, so none is in shorthand.
unfoldable pub more_definitions_shape : Bool → List DefinitionTree → List Item
more_definitions_shape broken [] = Finish ∷ []
more_definitions_shape broken (definition ∷ more) =
    Blank ∷ (definition_kind.shape broken false definition ++ more_definitions_shape broken more)

-- The layout of a document. Without a definition it is nothing.
unfoldable pub document_shape : Bool → Bool → List DefinitionTree → List Item
document_shape broken front [] = []
document_shape broken front (definition ∷ more) = definition_kind.shape broken front definition ++ more_definitions_shape broken more

-- A document: definitions one after another, of which there is one at least.
abbrev pub document_kind : Kind
document_kind = record {
  Tree = List DefinitionTree;
  form = nonempty_list_of definition_kind.form;
  obeys = λ definitions. has_some definitions && list_all definition_kind.obeys definitions;
  flaws = λ definitions. flaw_unless (has_some definitions) HasDefinition None ++ flat_map definition_kind.flaws definitions;
  shape = document_shape;
  nesting = greatest definition_kind.nesting;
}
