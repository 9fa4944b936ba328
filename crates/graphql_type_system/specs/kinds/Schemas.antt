-- Schemas: SchemaDefinition and SchemaExtension, section 3.3.
use Rattle.std.specs.Prelude.{ℕ, max, List, [], ◌∷◌, ◌++◌, codes, true, ◌&&◌, ◌||◌, None, Option, Bool}
use Rattle.graphql_text.specs.lexical.Literals.{NameText}
use Rattle.graphql_text.specs.lexical.Tokens.{colon, Punctuation, Name}
use Rattle.graphql_text.specs.parts.Descriptions.{described}
use Rattle.graphql_text.specs.parts.Extensions.{extension}
use Rattle.graphql_text.specs.grammar.Forms.{◌⨟◌, token, keyword, name_except}
use Rattle.graphql_text.specs.kinds.Kinds.{Kind}
use Rattle.graphql_text.specs.layout.Layout.{Word, Space}
use Rattle.graphql_text.specs.parts.Members.{has_some, members_form, members_shape, members_nesting, required_members_form, required_members_shape}
use Rattle.graphql_values.specs.kinds.Directives.{DirectiveTree, directives_form, directives_shape, directives_nesting, directives_obey}
use Rattle.graphql_values.specs.kinds.OperationTypes.{OperationTypeTree, operation_type_name, operation_type_form}
use Rattle.graphql_values.specs.kinds.Values.{Const}
use Rattle.graphql_text.specs.declared.ill_formed.SideCondition.TheVariants.{HasRootOperation}
use Rattle.graphql_text.specs.kinds.Flaws.{flaw_unless}
use Rattle.graphql_values.specs.kinds.Directives.{directives_flaws}

-- ROOT OPERATIONS

-- A root operation without locations: the type that operations of a type begin at.
pub record RootOperationTree : Type 0 where
  pub operation_type : OperationTypeTree
  pub type : NameText

-- There is no group in it, and there are no side conditions.
abbrev pub root_operation_kind : Kind
root_operation_kind = record {
  Tree = RootOperationTree;
  -- the grammar of RootOperationTypeDefinition, section 3.3
  form = λ root. operation_type_form root.operation_type ⨟ token (Punctuation colon) ⨟ name_except [] root.type;
  obeys = λ root. true;
  flaws = λ root. [];
  -- the layout of a root operation
  shape = λ broken front root.
      Word (Name (operation_type_name root.operation_type)) ∷ Word (Punctuation colon) ∷ Space ∷ Word (Name root.type.text) ∷ [];
  nesting = λ root. 0;
}

-- SCHEMAS

-- A schema without its description and without locations.
pub record SchemaTree : Type 0 where
  pub directives : List DirectiveTree
  pub root_operations : List RootOperationTree

-- It nests as its directives or its root operations in braces do, whichever nest more.
abbrev pub schema_nesting : SchemaTree → ℕ
schema_nesting schema = max (directives_nesting schema.directives) (members_nesting root_operation_kind schema.root_operations)

abbrev pub schema_body : Kind
schema_body = record {
  Tree = SchemaTree;
  -- the grammar of SchemaDefinition, section 3.3, behind its description
  form = λ schema.
      keyword (codes "schema") ⨟ directives_form Const schema.directives ⨟ required_members_form root_operation_kind schema.root_operations;
  -- the side conditions: the directives obey theirs, in a const context, and there is a root operation
  obeys = λ schema. directives_obey Const schema.directives && has_some schema.root_operations;
  flaws = λ schema. directives_flaws Const schema.directives ++ flaw_unless (has_some schema.root_operations) HasRootOperation None;
  -- the layout of a definition, behind its description
  shape = λ broken front schema.
      Word (Name (codes "schema")) ∷ (directives_shape schema.directives ++ required_members_shape root_operation_kind broken schema.root_operations);
  nesting = schema_nesting;
}

-- A definition, after its description.
abbrev pub schema_definition_kind : Kind
schema_definition_kind = described schema_body

-- EXTENSIONS

abbrev pub extended_schema_body : Kind
extended_schema_body = record {
  Tree = SchemaTree;
  -- the grammar of SchemaExtension, section 3.3, behind `extend`: the root operations may be left out, and then no `{` follows
  form = λ schema. keyword (codes "schema") ⨟ directives_form Const schema.directives ⨟ members_form root_operation_kind schema.root_operations;
  -- the side conditions are those of the directives
  obeys = λ schema. directives_obey Const schema.directives;
  flaws = λ schema. directives_flaws Const schema.directives;
  -- the layout of an extension, behind `extend`
  shape = λ broken front schema.
      Word (Name (codes "schema")) ∷ (directives_shape schema.directives ++ members_shape root_operation_kind broken schema.root_operations);
  nesting = schema_nesting;
}

-- An extension adds a directive or a root operation.
abbrev pub extended_schema_adds : SchemaTree → Bool
extended_schema_adds schema = has_some schema.directives || has_some schema.root_operations

-- a schema has no name
abbrev pub extended_schema_name : SchemaTree → Option NameText
extended_schema_name schema = None

abbrev pub schema_extension_kind : Kind
schema_extension_kind = extension extended_schema_body extended_schema_adds extended_schema_name
