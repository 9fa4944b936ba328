-- Type references: Type, section 2.11.
use Rattle.std.specs.Prelude.{ℕ, ◌+◌, List, [], ◌∷◌, ◌++◌, true}
use Rattle.graphql_text.specs.lexical.Literals.{NameText}
use Rattle.graphql_text.specs.lexical.Tokens.{bang, lbracket, rbracket, Punctuation, Name}
use Rattle.graphql_text.specs.grammar.Forms.{Form, token, ◌⨟◌, name_except}
use Rattle.graphql_text.specs.kinds.Kinds.{Kind}
use Rattle.graphql_text.specs.layout.Layout.{Item, Word}

-- A type without locations: NamedType or ListType, each with or without `!`.
pub data TypeTree : Type 0 where
  named_type non_null_named_type : NameText → TypeTree
  list_type non_null_list_type : TypeTree → TypeTree

-- The grammar of Type, section 2.11: NamedType, ListType, and NonNullType of either.
unfoldable pub type_form : TypeTree → Form
type_form (named_type name) = name_except [] name
type_form (non_null_named_type name) = name_except [] name ⨟ token (Punctuation bang)
type_form (list_type item) = token (Punctuation lbracket) ⨟ type_form item ⨟ token (Punctuation rbracket)
type_form (non_null_list_type item) = token (Punctuation lbracket) ⨟ type_form item ⨟ token (Punctuation rbracket) ⨟ token (Punctuation bang)

-- The layout of a type: its words, with nothing between them.
unfoldable pub type_shape : TypeTree → List Item
type_shape (named_type name) = Word (Name name.text) ∷ []
type_shape (non_null_named_type name) = Word (Name name.text) ∷ Word (Punctuation bang) ∷ []
type_shape (list_type item) = Word (Punctuation lbracket) ∷ (type_shape item ++ (Word (Punctuation rbracket) ∷ []))
type_shape (non_null_list_type item) = Word (Punctuation lbracket) ∷ (type_shape item ++ (Word (Punctuation rbracket) ∷ Word (Punctuation bang) ∷ []))

-- how many lists stand around the name
abbrev pub list_depth : TypeTree → ℕ
list_depth (named_type name) = 0
list_depth (non_null_named_type name) = 0
list_depth (list_type item) = list_depth item + 1
list_depth (non_null_list_type item) = list_depth item + 1

-- The brackets of a type are no group, and there are no side conditions, and no flaws.
abbrev pub type_kind : Kind
type_kind = record {
  Tree = TypeTree;
  form = type_form;
  obeys = λ type. true;
  flaws = λ type. [];
  shape = λ broken front. type_shape;
  nesting = λ type. 0;
}
