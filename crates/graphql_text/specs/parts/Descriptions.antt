-- Descriptions, and what may have one: Description, section 3.2.
use Rattle.std.specs.Prelude.{List, [], ◌∷◌, ◌++◌, false, Option}
use Rattle.graphql_text.specs.lexical.Literals.{StringText}
use Rattle.graphql_text.specs.lexical.Tokens.{StringValue}
use Rattle.graphql_text.specs.grammar.Forms.{Form, ◌⨟◌, token, optional}
use Rattle.graphql_text.specs.kinds.Kinds.{Kind}
use Rattle.graphql_text.specs.layout.Layout.{Item, StringItem, AsDescription, Soft}
use Rattle.graphql_text.specs.parts.Optional.{optional_shape}

-- The grammar of Description, section 3.2, or nothing where there is none.
abbrev pub description_form : Option StringText → Form
description_form = optional (λ string. token (StringValue string.text))

-- The layout of a description, before what it describes. The empty text is a description too.
abbrev pub description_shape : Option StringText → List Item
description_shape = optional_shape (λ string. StringItem string.text AsDescription ∷ Soft ∷ [])

-- A tree, and its description.
pub record Described (Body : Type 0) : Type 0 where
  pub description : Option StringText
  pub body : Body

-- The trees of a kind, each after its description.
abbrev pub described : Kind → Kind
described body = record {
  Tree = Described body.Tree;
  form = λ tree. description_form tree.description ⨟ body.form tree.body;
  obeys = λ tree. body.obeys tree.body;
  flaws = λ tree. body.flaws tree.body;
  shape = λ broken front tree. description_shape tree.description ++ body.shape broken false tree.body;
  nesting = λ tree. body.nesting tree.body;
}
