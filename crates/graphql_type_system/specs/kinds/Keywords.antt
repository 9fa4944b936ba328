-- Keywords: what stands behind a word of the grammar.
use Rattle.std.specs.Prelude.{ℕ, List, ◌∷◌, false}
use Rattle.graphql_text.specs.lexical.Tokens.{Name}
use Rattle.graphql_text.specs.grammar.Forms.{◌⨟◌, keyword}
use Rattle.graphql_text.specs.kinds.Kinds.{Kind}
use Rattle.graphql_text.specs.layout.Layout.{Word, Space}

-- The trees of a kind, each after a keyword.
abbrev pub after_keyword : List ℕ → Kind → Kind
after_keyword word body = record {
  Tree = body.Tree;
  form = λ tree. keyword word ⨟ body.form tree;
  obeys = body.obeys;
  flaws = body.flaws;
  shape = λ broken front tree. Word (Name word) ∷ Space ∷ body.shape broken false tree;
  nesting = body.nesting;
}
