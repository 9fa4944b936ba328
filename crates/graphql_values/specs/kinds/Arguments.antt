-- Arguments: Argument and Arguments, section 2.6.
use Rattle.std.specs.Prelude.{ℕ, List, [], ◌∷◌, Bool, false}
use Rattle.std.specs.List.{list_all, flat_map}
use Rattle.graphql_text.specs.lexical.Literals.{NameText}
use Rattle.graphql_text.specs.lexical.Tokens.{colon, Punctuation, Name}
use Rattle.graphql_text.specs.grammar.Forms.{Form, token, ◌⨟◌, name_except}
use Rattle.graphql_text.specs.kinds.Flaws.{Flaw}
use Rattle.graphql_text.specs.kinds.Kinds.{Kind}
use Rattle.graphql_text.specs.layout.Layout.{Item, Word, Space, flat}
use Rattle.graphql_text.specs.parts.Parentheses.{parentheses_form, flat_parentheses_shape, parentheses_nesting}
use Rattle.graphql_values.specs.kinds.Values.{Constness, NonConst, ValueTree, value_form, value_shape, value_nesting, value_obeys, value_flaws}

-- An argument without locations.
pub record ArgumentTree : Type 0 where
  pub name : NameText
  pub value : ValueTree

-- The grammar of Argument[Const], section 2.6.
abbrev pub argument_form : Constness → ArgumentTree → Form
argument_form c argument = name_except [] argument.name ⨟ token (Punctuation colon) ⨟ value_form c argument.value

-- The items of an argument of a field or a directive.
abbrev pub argument_items : ArgumentTree → List Item
argument_items argument = Word (Name argument.name.text) ∷ Word (Punctuation colon) ∷ Space ∷ value_shape false argument.value

-- The layout of an argument, which stands on one line in every layout.
abbrev pub argument_shape : ArgumentTree → List Item
argument_shape argument = flat (argument_items argument)

-- It nests as its value does.
abbrev pub argument_nesting : ArgumentTree → ℕ
argument_nesting argument = value_nesting argument.value

-- The side conditions are those of the value.
abbrev pub argument_obeys : Constness → ArgumentTree → Bool
argument_obeys c argument = value_obeys c argument.value

abbrev pub argument_flaws : Constness → ArgumentTree → List Flaw
argument_flaws c argument = value_flaws c argument.value

abbrev pub argument_kind : Kind
argument_kind = record {
  Tree = ArgumentTree;
  form = argument_form NonConst;
  obeys = argument_obeys NonConst;
  flaws = argument_flaws NonConst;
  shape = λ broken front. argument_shape;
  nesting = argument_nesting;
}

-- The grammar of Arguments[Const], section 2.6, or nothing where there is no argument.
abbrev pub arguments_form : Constness → List ArgumentTree → Form
arguments_form c = parentheses_form (argument_form c)

-- The layout of arguments, which stand on one line in every layout.
abbrev pub arguments_shape : List ArgumentTree → List Item
arguments_shape = flat_parentheses_shape argument_items

abbrev pub arguments_nesting : List ArgumentTree → ℕ
arguments_nesting = parentheses_nesting argument_nesting

abbrev pub arguments_obey : Constness → List ArgumentTree → Bool
arguments_obey c = list_all (argument_obeys c)

abbrev pub arguments_flaws : Constness → List ArgumentTree → List Flaw
arguments_flaws c = flat_map (argument_flaws c)
