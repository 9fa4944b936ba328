-- Types that may implement interfaces and have fields: object types, section 3.6, and interface types, section 3.7. They differ in their
-- keyword alone.
use Rattle.std.specs.Prelude.{ℕ, max, List, [], ◌∷◌, ◌++◌, codes, Bool, ◌&&◌, ◌||◌}
use Rattle.graphql_text.specs.lexical.Literals.{NameText}
use Rattle.graphql_text.specs.lexical.Tokens.{amp, Name}
use Rattle.graphql_text.specs.grammar.Forms.{Form, ◌⨟◌, name_except, joined_by}
use Rattle.graphql_text.specs.parts.Greatest.{greatest}
use Rattle.graphql_text.specs.parts.JoinedNames.{joined_names_shape}
use Rattle.graphql_text.specs.kinds.Kinds.{Kind}
use Rattle.graphql_text.specs.layout.Layout.{Word}
use Rattle.graphql_text.specs.parts.Members.{has_some, members_form, members_shape, members_nesting, members_obey}
use Rattle.graphql_values.specs.kinds.Directives.{DirectiveTree, directives_form, directives_shape, directives_nesting, directives_obey}
use Rattle.graphql_values.specs.kinds.Values.{Const}
use Rattle.graphql_type_system.specs.kinds.FieldDefinitions.{field_definition_kind, field_definition_list_depth}
use Rattle.graphql_text.specs.parts.Members.{members_flaws}
use Rattle.graphql_values.specs.kinds.Directives.{directives_flaws}

-- A type without its description and without locations.
pub record ImplementingTypeTree : Type 0 where
  pub name : NameText
  pub interfaces : List NameText
  pub directives : List DirectiveTree
  pub fields : List field_definition_kind.Tree

-- The grammar of ImplementsInterfaces, section 3.6, or nothing where there is no interface.
abbrev pub interfaces_form : List NameText → Form
interfaces_form = joined_by (Name (codes "implements")) amp (name_except [])

-- It nests as its directives or its fields in braces do, whichever nest more.
abbrev pub implementing_type_nesting : ImplementingTypeTree → ℕ
implementing_type_nesting type = max (directives_nesting type.directives) (members_nesting field_definition_kind type.fields)

-- the list depth of the field that has the most lists
abbrev pub fields_list_depth : List field_definition_kind.Tree → ℕ
fields_list_depth = greatest (λ field. field_definition_list_depth field.body)

abbrev pub implementing_type : Kind
implementing_type = record {
  Tree = ImplementingTypeTree;
  -- the grammar of a type, sections 3.6 and 3.7, behind its keyword. Where the fields are left out no `{` follows.
  form = λ type.
      name_except [] type.name ⨟ interfaces_form type.interfaces ⨟ directives_form Const type.directives
      ⨟ members_form field_definition_kind type.fields;
  -- the side conditions are those of the directives, in a const context, and of the fields
  obeys = λ type. directives_obey Const type.directives && members_obey field_definition_kind type.fields;
  flaws = λ type. directives_flaws Const type.directives ++ members_flaws field_definition_kind type.fields;
  -- the layout of a type, behind its keyword
  shape = λ broken front type.
      Word (Name type.name.text) ∷ (joined_names_shape (Name (codes "implements")) amp (λ name. name.text) type.interfaces
      ++ (directives_shape type.directives ++ members_shape field_definition_kind broken type.fields));
  nesting = implementing_type_nesting;
}

-- An extension adds an interface, a directive or a field.
abbrev pub implementing_type_adds : ImplementingTypeTree → Bool
implementing_type_adds type = has_some type.interfaces || has_some type.directives || has_some type.fields
