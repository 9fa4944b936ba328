-- Extensions: TypeSystemExtension, section 3.1. An extension is `extend` and the body of a definition, and adds something.
use Rattle.std.specs.Prelude.{◌∷◌, ◌++◌, codes, Bool, ◌&&◌, IsTrue, false, Option}
use Rattle.graphql_text.specs.lexical.Literals.{NameText}
use Rattle.graphql_text.specs.lexical.Tokens.{Name}
use Rattle.graphql_text.specs.grammar.Forms.{◌⨟◌, keyword, only_if}
use Rattle.graphql_text.specs.declared.ill_formed.SideCondition.TheVariants.{AddsSomething}
use Rattle.graphql_text.specs.kinds.Flaws.{flaw_unless}
use Rattle.graphql_text.specs.kinds.Kinds.{Kind}
use Rattle.graphql_text.specs.layout.Layout.{Word, Space}

-- The extensions whose bodies are of a kind; the test says whether a body adds something, and the name is that of what is extended.
abbrev pub extension : (body : Kind) → (body.Tree → Bool) → (body.Tree → Option NameText) → Kind
extension body adds name = record {
  Tree = body.Tree;
  form = λ tree. only_if (IsTrue (adds tree)) (keyword (codes "extend") ⨟ body.form tree);
  obeys = λ tree. adds tree && body.obeys tree;
  flaws = λ tree. flaw_unless (adds tree) AddsSomething (name tree) ++ body.flaws tree;
  shape = λ broken front tree. Word (Name (codes "extend")) ∷ Space ∷ body.shape broken false tree;
  nesting = body.nesting;
}
