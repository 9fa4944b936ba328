-- Types that have members between braces, and no interfaces: enum types, section 3.9, and input object types, section 3.10. They differ in
-- their keyword and in the kind of their members.
use Rattle.std.specs.Prelude.{ℕ, max, List, [], ◌∷◌, ◌++◌, Bool, ◌&&◌, ◌||◌}
use Rattle.graphql_text.specs.lexical.Literals.{NameText}
use Rattle.graphql_text.specs.lexical.Tokens.{Name}
use Rattle.graphql_text.specs.grammar.Forms.{◌⨟◌, name_except}
use Rattle.graphql_text.specs.kinds.Kinds.{Kind}
use Rattle.graphql_text.specs.layout.Layout.{Item, Word}
use Rattle.graphql_text.specs.parts.Members.{has_some, members_form, members_shape, members_nesting, members_obey}
use Rattle.graphql_values.specs.kinds.Directives.{DirectiveTree, directives_form, directives_shape, directives_nesting, directives_obey}
use Rattle.graphql_values.specs.kinds.Values.{Const}
use Rattle.graphql_text.specs.parts.Members.{members_flaws}
use Rattle.graphql_values.specs.kinds.Directives.{directives_flaws}

-- A type without its description and without locations.
pub record BracedTypeTree (Member : Type 0) : Type 0 where
  pub name : NameText
  pub directives : List DirectiveTree
  pub members : List Member

module _ (member : Kind) where
  -- The layout of a type, behind its keyword.
  unfoldable pub braced_type_shape : Bool → BracedTypeTree member.Tree → List Item
  braced_type_shape broken type = Word (Name type.name.text) ∷ (directives_shape type.directives ++ members_shape member broken type.members)

  -- It nests as its directives or its members in braces do, whichever nest more.
  abbrev pub braced_type_nesting : BracedTypeTree member.Tree → ℕ
  braced_type_nesting type = max (directives_nesting type.directives) (members_nesting member type.members)

  abbrev pub braced_type : Kind
  braced_type = record {
    Tree = BracedTypeTree member.Tree;
    -- the grammar of a type, sections 3.9 and 3.10, behind its keyword. Where the members are left out no `{` follows.
    form = λ type. name_except [] type.name ⨟ directives_form Const type.directives ⨟ members_form member type.members;
    -- the side conditions are those of the directives, in a const context, and of the members
    obeys = λ type. directives_obey Const type.directives && members_obey member type.members;
    flaws = λ type. directives_flaws Const type.directives ++ members_flaws member type.members;
    shape = λ broken front. braced_type_shape broken;
    nesting = braced_type_nesting;
  }

  -- An extension adds a directive or a member.
  abbrev pub braced_type_adds : BracedTypeTree member.Tree → Bool
  braced_type_adds type = has_some type.directives || has_some type.members
