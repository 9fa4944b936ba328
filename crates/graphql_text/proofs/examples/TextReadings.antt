-- Texts that are read as a tree, and texts that are read as none.
use Rattle.std.proofs.Common.{◌≡◌, ◌∙◌, ℕ, Bool, false, List, [], ◌∷◌, length, map, IsTrue, Option, Some, None, ap, le_refl, refl, sym, true, subst}
use Rattle.std.proofs.lemmas.Bool.{false≢true}
use Rattle.std.specs.List.{All}
use Rattle.std.specs.Str.{all_scalars}
use Rattle.std.proofs.lemmas.List.Elements.{All-cons, All-nil}
use Rattle.graphql_text.specs.lexical.Tokens.{Token}
use Rattle.graphql_text.specs.grammar.Forms.{Form, TokenClass}
use Rattle.graphql_text.specs.layout.Layout.{Item}
use Rattle.graphql_text.specs.examples.Tables.{AreRead, AreRefused, IsRefused}
use Rattle.graphql_text.specs.kinds.Reading.{ReadsAs}
use Rattle.graphql_text.proofs.lexical.CheckedTexts as tested
use Rattle.graphql_text.proofs.reader.ReaderComplete.{unread, read_as}
use Rattle.graphql_text.proofs.parts.KindParts as kinds
use Rattle.graphql_text.proofs.grammar.FormParsers as parsing
use Rattle.graphql_text.proofs.grammar.FormParsers.{Parser, Reads}
use Rattle.graphql_text.proofs.parts.Parts as parts
use Rattle.graphql_text.proofs.parts.Parts.{Part}
use Rattle.graphql_text.proofs.reader.TokenReader.{lex}
use Rattle.graphql_text.proofs.parts.RowParts as rows
use Rattle.graphql_text.proofs.reader.ReaderSound.{lex_sound}

-- a text that lexes to nothing
pub no_tokens_read : {Tree : Type 0} (form : Tree → Form) (text : List ℕ) → lex text ≡ None → (tree : Tree) → ReadsAs form text tree → ⊥
no_tokens_read form text none tree r = unread text r.1 none r.2

-- a text that lexes to tokens of no tree
pub no_tree_read : {Tree : Type 0} (form : Tree → Form) (text : List ℕ) (tokens : List Token) → lex text ≡ Some tokens → (tree : Tree) →
    (form tree tokens [] → ⊥) → ReadsAs form text tree → ⊥
no_tree_read form text tokens lexes tree none r = none (subst (λ ts. form tree ts []) (read_as text tokens r.1 lexes r.2) r.3)

-- whether a reader leaves nothing over
abbrev pub reads_all : {A : Type 0} → Option (A × List Token) → Bool
reads_all None = false
reads_all (Some (a, [])) = true
reads_all (Some (a, token ∷ rest)) = false

module _ {A : Type 0} {f : A → Form} {F L : List TokenClass} {b : Bool} (parser : Parser A) (read : (k : ℕ) (a : A) → Reads k parser a (f a) F L b) where
  -- whether a text has tokens that a reader reads to their end
  abbrev pub is_read : Option (List Token) → Bool
  is_read None = false
  is_read (Some tokens) = reads_all (parser tokens)

  read_to_the_end : (tokens : List Token) (a : A) → f a tokens [] → reads_all (parser tokens) ≡ true
  read_to_the_end tokens a derived = ap reads_all ((read (length tokens) a).finds tokens [] derived (le_refl _) refl)

  refuses : (text : List ℕ) (lexed : Option (List Token)) → lex text ≡ lexed → is_read lexed ≡ false → (a : A) → ReadsAs f text a → ⊥
  refuses text None lexes unread_text a = no_tokens_read f text lexes a
  refuses text (Some tokens) lexes left a = no_tree_read f text tokens lexes a (λ derived. false≢true (sym left ∙ read_to_the_end tokens a derived))

  each_refused : (texts : List (List ℕ)) → map (λ each. is_read (lex each)) texts ≡ map (λ each. false) texts → All (IsRefused f) texts
  each_refused [] same = All-nil _
  each_refused (text ∷ texts) same =
      let left : is_read (lex text) ≡ false = cc in
      let more : map (λ each. is_read (lex each)) texts ≡ map (λ each. false) texts = cc in
      All-cons (IsRefused f) text texts (refuses text (lex text) refl left) (each_refused texts more)

  -- each of these texts has no tokens, or such that the reader finds nothing in them or leaves some over
  pub texts_refused : (texts : List (List ℕ)) → map (λ each. is_read (lex each)) texts ≡ map (λ each. false) texts → AreRefused f texts
  texts_refused texts same = record { each = each_refused texts same }

module _ {A : Type 0} {f : A → Form} {s : Bool → A → List Item} {n : A → ℕ} {o : A → Bool} {F L S : List TokenClass} {b opens : Bool}
    (p : Part f s n o F L b S opens) where
  -- a text that lexes to the tokens of a tree as it is printed
  pub part_reads : (text : List ℕ) (a : A) → IsTrue (o a) → all_scalars text ≡ true → lex text ≡ Some (p.tokens a []) → ReadsAs f text a
  part_reads text a holds source lexes = (source, p.tokens a [], lex_sound text (p.tokens a []) lexes, p.written a holds [] refl)

  -- whether the tree of a row obeys its side conditions, whether its text is one of characters, and what that lexes to
  abbrev pub got : List ℕ × A → Bool × Bool × Option (List Token)
  got row = (o row.1, all_scalars row.0, lex row.0)

  abbrev pub wanted : List ℕ × A → Bool × Bool × Option (List Token)
  wanted row = (true, true, Some (p.tokens row.1 []))

  each_read : (rows : List (List ℕ × A)) → map got rows ≡ map wanted rows → All (λ row. ReadsAs f row.0 row.1) rows
  each_read [] same = All-nil _
  each_read (row ∷ rows) same =
      let first : got row ≡ wanted row = cc in
      let more : map got rows ≡ map wanted rows = cc in
      let reads = part_reads row.0 row.1 (λ i. (first i).0) (λ i. (first i).1) (λ i. (first i).2) in
      All-cons (λ each. ReadsAs f each.0 each.1) row rows reads (each_read rows more)

  -- each text of a table lexes to the tokens of the tree beside it as it is printed
  pub parts_read : (rows : List (List ℕ × A)) → map got rows ≡ map wanted rows → AreRead f rows
  parts_read rows same = record { each = each_read rows same }

  -- each of these texts has no tokens, or such that its reader finds nothing in them or leaves some over
  pub parts_refuse : (texts : List (List ℕ)) → map (λ each. is_read p.parser p.read (lex each)) texts ≡ map (λ each. false) texts → AreRefused f texts
  parts_refuse = texts_refused p.parser p.read

-- What parts are printed as and what their readers find, by computing. A crate that states parts says both again, with its own unfolded too.
module _ {A : Type 0} {f : A → Form} {s : Bool → A → List Item} {n : A → ℕ} {o : A → Bool} {F L S : List TokenClass} {b opens : Bool}
    (p : Part f s n o F L b S opens) where
  -- the tokens of a tree as it is printed
  unfoldable pub printed : A → List Token
  unfolding parts.part_then parts.plain_then parts.name_part parts.name_then parts.word_then parts.mark_then parts.space_then
      parts.excluding parts.under parts.restated parts.retold parts.unbroken parts.flat_part parts.optional_part parts.plain_optional_part
      rows.flat_parentheses_part rows.parentheses_part rows.members_part rows.required_members_part rows.joined_names_part
      kinds.description_part kinds.described_part kinds.extension_part
  printed a = p.tokens a []

  -- what its reader finds
  unfoldable pub found : List Token → Option (A × List Token)
  unfolding parts.part_then parts.plain_then parts.name_part parts.name_then parts.word_then parts.mark_then parts.space_then
      parts.excluding parts.under parts.restated parts.retold parts.unbroken parts.flat_part parts.optional_part parts.plain_optional_part
      rows.flat_parentheses_part rows.parentheses_part rows.members_part rows.required_members_part rows.joined_names_part
      kinds.description_part kinds.described_part kinds.extension_part parsing.bounded parsing.alt parsing.◌>>=◌ parsing.pure parsing.fail
      parsing.leaf parsing.accepted parsing.accept parsing.named parsing.parse_name parsing.checked parsing.many parsing.parse_each
      parsing.parse_maybe parsing.parse_optional parsing.parse_some parsing.parse_group parsing.parse_joined tested.checked_text
      kinds.got_text kinds.description_reader
  found tokens = p.parser tokens
