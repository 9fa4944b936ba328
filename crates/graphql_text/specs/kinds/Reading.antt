-- What it is for a text, or for bytes, to be read as a tree; and the laws of a kind of trees.
use Rattle.std.specs.Prelude.{ℕ, ◌≡◌, ◌↔◌, Bool, true, List, [], Option, None, Some, IsTrue, encode_utf8_all}
use Rattle.graphql_text.specs.lexical.Characters.{IsSourceText}
use Rattle.graphql_text.specs.lexical.Tokens.{Token, Lexes}
use Rattle.graphql_text.specs.grammar.Forms.{Form}
use Rattle.graphql_text.specs.kinds.Flaws.{TellsFlaws}
use Rattle.graphql_text.specs.kinds.Kinds.{Kind, layout_of}
use Rattle.graphql_text.specs.layout.Layout.{IsBlankMode, is_broken, is_front, lowers, raises}
use Rattle.graphql_text.specs.strings.BlockStringValue.{is_blank}
use Rattle.graphql_text.specs.layout.Lines.{LinesAreIndented, HasNoLineBreak}
use Rattle.graphql_text.specs.layout.Nesting.{deepest}
use Rattle.graphql_text.specs.layout.Spelling.{tokens_of_items}

-- The source text has tokens that derive the tree, with nothing left over.
abbrev pub ReadsAs : {Tree : Type 0} → (Tree → Form) → List ℕ → Tree → Type 0
ReadsAs derives text tree =
    IsSourceText text × (tokens : List Token) × Lexes text tokens × derives tree tokens []

-- The bytes are the UTF-8 form of a source text that is read as the tree.
abbrev pub BytesReadAs : {Tree : Type 0} → (Tree → Form) → List ℕ → Tree → Type 0
BytesReadAs derives bytes tree =
    (text : List ℕ) × (encode_utf8_all text ≡ bytes) × ReadsAs derives text tree

-- The bytes are read as the tree, and as no other.
pub record ReadsAlone (kind : Kind) (bytes : List ℕ) (tree : kind.Tree) : Type 0 where
  pub itself : BytesReadAs kind.form bytes tree
  pub alone : (other : kind.Tree) → BytesReadAs kind.form bytes other → other ≡ tree

-- The laws of a kind: its layouts, its side conditions and its grammar fit together.
pub record Laws (kind : Kind) : Type 0 where
  -- a tree that obeys the side conditions, printed on one line or under a prefix of spaces and tabs, is read back as that tree, and as no other
  pub reads_alone : (tree : kind.Tree) (mode : Option (List ℕ)) (level : ℕ) → IsTrue (kind.obeys tree) → IsBlankMode mode →
      ReadsAlone kind (encode_utf8_all (layout_of kind mode level tree)) tree
  -- what is printed of a tree, well-formed or not, lexes as the words and strings of its shape
  pub lexes : (tree : kind.Tree) (mode : Option (List ℕ)) (level : ℕ) → IsBlankMode mode →
      Lexes (layout_of kind mode level tree) (tokens_of_items (kind.shape (is_broken mode) (is_front mode level) tree))
  -- its text, as characters, is read as that tree too
  pub reads_back : (tree : kind.Tree) (mode : Option (List ℕ)) (level : ℕ) → IsTrue (kind.obeys tree) → IsBlankMode mode →
      ReadsAs kind.form (layout_of kind mode level tree) tree
  -- all trees as which one text is read are the same, printed or not
  pub one_tree : (text : List ℕ) (tree other : kind.Tree) → ReadsAs kind.form text tree → ReadsAs kind.form text other → tree ≡ other
  pub one_tree_of_bytes : (bytes : List ℕ) (tree other : kind.Tree) →
      BytesReadAs kind.form bytes tree → BytesReadAs kind.form bytes other → tree ≡ other
  -- a tree as which a text is read obeys the side conditions
  pub read_obeys : (text : List ℕ) (tree : kind.Tree) → ReadsAs kind.form text tree → IsTrue (kind.obeys tree)
  -- it does exactly if it has no flaw
  pub tells : TellsFlaws kind.obeys kind.flaws
  -- two trees are the same exactly if their texts under one layout are
  pub same_text : (tree other : kind.Tree) (mode : Option (List ℕ)) (level : ℕ) → IsTrue (kind.obeys tree) → IsTrue (kind.obeys other) → IsBlankMode mode →
      (layout_of kind mode level tree ≡ layout_of kind mode level other) ↔ (tree ≡ other)
  -- the texts of a tree under two layouts are read alike
  pub two_layouts : (tree other : kind.Tree) (mode mode' : Option (List ℕ)) (level level' : ℕ) →
      IsTrue (kind.obeys tree) → IsBlankMode mode → IsBlankMode mode' →
      ReadsAs kind.form (layout_of kind mode level tree) other → ReadsAs kind.form (layout_of kind mode' level' tree) other
  -- under a prefix of spaces and tabs each line of the text of a tree, well-formed or not, is indented as its brackets say
  pub lines : (tree : kind.Tree) (prefix : List ℕ) (level : ℕ) → is_blank prefix ≡ true →
      LinesAreIndented prefix level (layout_of kind (Some prefix) level tree)
  -- and without a prefix there is no line break in it
  pub one_line : (tree : kind.Tree) (level : ℕ) → HasNoLineBreak (layout_of kind None level tree)
  -- the nesting of a tree is the greatest number of Raise marks that are open at one place of its shape
  pub nests : (broken front : Bool) (tree : kind.Tree) → kind.nesting tree ≡ deepest (kind.shape broken front tree)
  -- what is written of a tree ends at the level where it began
  pub balanced : (broken front : Bool) (tree : kind.Tree) → raises (kind.shape broken front tree) ≡ lowers (kind.shape broken front tree)
