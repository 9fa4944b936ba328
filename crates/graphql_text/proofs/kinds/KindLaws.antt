-- The laws of a kind, from six facts: its shape spells its tokens, its brackets fit its marks and nest as deep as the
-- tree, its tokens derive it, one token list derives one tree, what is derived obeys the side conditions, and flaws tell them.
use Rattle.std.proofs.Common.{ℕ, ◌≡◌, Bool, true, false, Some, List, [], Option, IsTrue, refl, sym, ap, ◌∙◌, subst, encode_utf8_all}
use Rattle.std.proofs.lemmas.Str.{encodes_same}
use Rattle.graphql_text.specs.lexical.Tokens.{Token}
use Rattle.graphql_text.specs.kinds.Flaws.{TellsFlaws}
use Rattle.graphql_text.specs.kinds.Kinds.{Kind, layout_of}
use Rattle.graphql_text.specs.layout.Layout.{IsBlankMode, is_broken, is_front}
use Rattle.graphql_text.proofs.parts.PartTokens.{Tail}
use Rattle.graphql_text.proofs.layout.SpellingByParts.{Gives, Spelling, apart_gives, gives_apart, spelt_alone}
use Rattle.graphql_text.specs.layout.Spelling.{tokens_of_items}
use Rattle.graphql_text.specs.kinds.Reading.{BytesReadAs, ReadsAs, Laws}
use Rattle.graphql_text.proofs.reader.ReaderComplete.{one_list}
use Rattle.graphql_text.proofs.layout.LayoutLexes.{layout_lexes}
use Rattle.graphql_text.proofs.layout.BracketsByParts.{WholeBracketed, whole}
use Rattle.graphql_text.proofs.grammar.FormParsers.{Parser, Reads, one_reading}
use Rattle.graphql_text.proofs.parts.ToldShapes.{Told}
use Rattle.graphql_text.specs.grammar.Forms.{TokenClass}
use Rattle.graphql_text.proofs.layout.LinesAreIndented.{lines_indented, no_line_break}
use Rattle.graphql_text.proofs.layout.LayoutScalars.{layout_scalars}

pub record Facts (kind : Kind) (tokens : Bool → kind.Tree → Tail) : Type 0 where
  pub spelt : (broken front : Bool) (tree : kind.Tree) →
      Spelling (kind.shape broken front tree) (tokens front tree) false
  pub bracketed : (broken front : Bool) (tree : kind.Tree) → WholeBracketed (kind.shape broken front tree) (kind.nesting tree)
  pub written : (front : Bool) (tree : kind.Tree) → IsTrue (kind.obeys tree) → kind.form tree (tokens front tree []) []
  pub once : (tree other : kind.Tree) (ts : List Token) → kind.form tree ts [] → kind.form other ts [] →
      tree ≡ other
  pub obeyed : (tree : kind.Tree) (ts : List Token) → kind.form tree ts [] → IsTrue (kind.obeys tree)
  pub tells : TellsFlaws kind.obeys kind.flaws

module _ {kind : Kind} {tokens : Bool → kind.Tree → Tail} where
  gives : Facts kind tokens → (broken front : Bool) (tree : kind.Tree) →
      Gives (kind.shape broken front tree) (tokens front tree [])
  gives facts broken front tree = spelt_alone (facts.spelt broken front tree)

  back : Facts kind tokens → (tree : kind.Tree) (mode : Option (List ℕ)) (level : ℕ) →
      IsTrue (kind.obeys tree) → IsBlankMode mode → ReadsAs kind.form (layout_of kind mode level tree) tree
  back facts tree mode level obeys blank =
      let front = is_front mode level in
      let items = kind.shape (is_broken mode) front tree in
      let given = gives facts (is_broken mode) front tree in (
        layout_scalars mode level items (tokens front tree []) blank given,
        tokens front tree [],
        layout_lexes mode level items (tokens front tree []) blank given,
        facts.written front tree obeys,
      )

  one : Facts kind tokens → (text : List ℕ) (tree other : kind.Tree) →
      ReadsAs kind.form text tree → ReadsAs kind.form text other → tree ≡ other
  one facts text tree other (_, xs, lexes, derived) (_, ys, lexes', derived') =
      facts.once tree other xs derived (subst (λ ts. kind.form other ts []) (sym (one_list text xs ys lexes lexes')) derived')

  one_of_bytes : Facts kind tokens → (bytes : List ℕ) (tree other : kind.Tree) →
      BytesReadAs kind.form bytes tree → BytesReadAs kind.form bytes other → tree ≡ other
  one_of_bytes facts bytes tree other r s =
      one facts r.0 tree other r.2 (subst (λ text. ReadsAs kind.form text other) (encodes_same s.0 r.0 (s.1 ∙ sym (r.1))) s.2)

  pub laws : Facts kind tokens → Laws kind
  laws facts = record {
    lexes = λ tree mode level blank.
        let items = kind.shape (is_broken mode) (is_front mode level) tree in
        let given = gives facts (is_broken mode) (is_front mode level) tree in
        layout_lexes mode level items (tokens_of_items items) blank (apart_gives items (gives_apart items (tokens (is_front mode level) tree []) given).0);
    reads_alone = λ tree mode level obeys blank.
        let itself : BytesReadAs kind.form (encode_utf8_all (layout_of kind mode level tree)) tree =
        (layout_of kind mode level tree, refl, back facts tree mode level obeys blank) in
        record { itself = itself; alone = λ other read. one_of_bytes facts _ other tree read itself };
    reads_back = back facts;
    one_tree = one facts;
    one_tree_of_bytes = one_of_bytes facts;
    read_obeys = λ text tree r. facts.obeyed tree r.1 r.3;
    tells = facts.tells;
    same_text = λ tree other mode level obeys obeys' blank. (
      (λ same.
          one facts (layout_of kind mode level tree) tree other (back facts tree mode level obeys blank)
          (subst (λ text. ReadsAs kind.form text other) (sym same) (back facts other mode level obeys' blank))),
      ap (layout_of kind mode level),
    );
    two_layouts = λ tree other mode mode' level level' obeys blank blank' r.
        subst (ReadsAs kind.form (layout_of kind mode' level' tree))
        (one facts (layout_of kind mode level tree) tree other (back facts tree mode level obeys blank) r)
        (back facts tree mode' level' obeys blank');
    lines = λ tree prefix level blank.
        let front = is_front (Some prefix) level in
        let bracketed = facts.bracketed true front tree in
        lines_indented prefix level blank (kind.shape true front tree) (tokens front tree []) (gives facts true front tree) bracketed.fitting;
    one_line = λ tree level. no_line_break level (kind.shape false true tree) (tokens true tree []) (gives facts false true tree);
    nests = λ broken front tree. let bracketed = facts.bracketed broken front tree in sym bracketed.nested;
    balanced = λ broken front tree. let bracketed = facts.bracketed broken front tree in bracketed.balanced;
  }

-- The same laws, from what its shape tells, what a reader finds, what its tokens derive, and what is derived.
pub laws_of : {kind : Kind} {tokens : Bool → kind.Tree → Tail} {parser : Parser kind.Tree} {excluded first : List TokenClass} {empty : Bool} →
    ((broken front : Bool) (tree : kind.Tree) → Told 0 (kind.shape broken front tree) (tokens front tree) false (kind.nesting tree)) →
    ((k : ℕ) (tree : kind.Tree) → Reads k parser tree (kind.form tree) excluded first empty) →
    ((front : Bool) (tree : kind.Tree) → IsTrue (kind.obeys tree) → kind.form tree (tokens front tree []) []) →
    ((tree : kind.Tree) (ts rest : List Token) → kind.form tree ts rest → IsTrue (kind.obeys tree)) → TellsFlaws kind.obeys kind.flaws → Laws kind
laws_of {kind} {tokens} told is_read written obeyed tells = laws {tokens = tokens} (record {
  spelt = λ broken front tree. let is = told broken front tree in is.spelt;
  bracketed = λ broken front tree. let is = told broken front tree in whole is.bracketed;
  written = written;
  once = λ tree other ts x y. (one_reading (is_read _ tree) (is_read _ other) x y refl refl).0;
  obeyed = λ tree ts x. obeyed tree ts [] x;
  tells = tells;
})
