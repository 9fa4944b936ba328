-- Fragment spreads: FragmentSpread, section 2.8.
use Rattle.std.specs.Prelude.{ℕ, List, ◌∷◌, ◌&&◌, Some, ◌++◌}
use Rattle.graphql_text.specs.lexical.Literals.{NameText}
use Rattle.graphql_text.specs.lexical.Tokens.{spread, Punctuation, Name}
use Rattle.graphql_text.specs.grammar.Forms.{token, ◌⨟◌, name_except}
use Rattle.graphql_text.specs.kinds.Kinds.{Kind}
use Rattle.graphql_text.specs.layout.Layout.{Item, Word}
use Rattle.graphql_values.specs.kinds.Directives.{DirectiveTree, directives_form, directives_shape, directives_nesting, directives_obey}
use Rattle.graphql_values.specs.kinds.Values.{NonConst}
use Rattle.graphql_executable.specs.kinds.FragmentNames.{not_fragment_names, is_fragment_name}
use Rattle.graphql_text.specs.declared.ill_formed.SideCondition.TheVariants.{IsNotOn}
use Rattle.graphql_text.specs.kinds.Flaws.{flaw_unless}
use Rattle.graphql_values.specs.kinds.Directives.{directives_flaws}

-- A fragment spread without locations.
pub record FragmentSpreadTree : Type 0 where
  pub name : NameText
  pub directives : List DirectiveTree

-- The layout of a fragment spread.
unfoldable pub fragment_spread_shape : FragmentSpreadTree → List Item
fragment_spread_shape fragment = Word (Punctuation spread) ∷ Word (Name fragment.name.text) ∷ directives_shape fragment.directives

-- It nests as its directives do.
abbrev pub fragment_spread_nesting : FragmentSpreadTree → ℕ
fragment_spread_nesting fragment = directives_nesting fragment.directives

abbrev pub fragment_spread_kind : Kind
fragment_spread_kind = record {
  Tree = FragmentSpreadTree;
  -- the grammar of FragmentSpread, section 2.8
  form = λ fragment. token (Punctuation spread) ⨟ name_except not_fragment_names fragment.name ⨟ directives_form NonConst fragment.directives;
  -- the side conditions: it isn't named `on`, and its directives obey theirs
  obeys = λ fragment. is_fragment_name fragment.name.text && directives_obey NonConst fragment.directives;
  flaws = λ fragment.
      flaw_unless (is_fragment_name fragment.name.text) IsNotOn (Some fragment.name) ++ directives_flaws NonConst fragment.directives;
  shape = λ broken front. fragment_spread_shape;
  nesting = fragment_spread_nesting;
}
