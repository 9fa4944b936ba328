-- Texts one after another.
use Rattle.std.proofs.Common.{◌≡◌, ℕ, true, List, [], ◌∷◌, ◌++◌, refl, sym, ap, ◌∙◌, subst, append_assoc, append-nil}
use Rattle.graphql_text.specs.lexical.Characters.{is_ignored}
use Rattle.graphql_text.specs.lexical.Tokens.{Token, ends_comment, IsIgnored, nothing, character, comment, Spells, LexesBefore, Lexes}
use Rattle.graphql_text.proofs.lexical.CharacterClasses.{Each}

pub ignored-append : (s t after : List ℕ) → IsIgnored s (t ++ after) → IsIgnored t after →
    IsIgnored (s ++ t) after
ignored-append s t after first second = go s (t ++ after) refl first
  where
    go : (s more : List ℕ) → more ≡ t ++ after → IsIgnored s more → IsIgnored (s ++ t) after
    go _ more is nothing = second
    go _ more is (character {text = text} ignored first) = character ignored (go text more is first)
    go _ more is (comment {text = text} words all ends first) =
        subst (λ (l : List ℕ). IsIgnored (0x23 ∷ l) after) (sym (append_assoc words text t))
        (comment words all (ap ends_comment (append_assoc text t after ∙ ap (λ l. text ++ l) (sym is)) ∙ ends) (go text more is first))

-- one text after another: what the second lexes to follows what the first does before it
pub before-append : (xs ys : List Token) (a b after : List ℕ) → LexesBefore a xs (b ++ after) →
    LexesBefore b ys after → LexesBefore (a ++ b) (xs ++ ys) after
before-append [] [] a b after p q = ignored-append a b after p q
before-append [] (t ∷ ts) a b after p (stretch, spelling, rest, is, ignored, spells, more) =
    let whole : b ++ after ≡ stretch ++ (spelling ++ (rest ++ after)) =
    ap (λ l. l ++ after) is ∙ append_assoc stretch (spelling ++ rest) after
    ∙ ap (λ l. stretch ++ l) (append_assoc spelling rest after) in (
      a ++ stretch,
      spelling,
      rest,
      ap (λ l. a ++ l) is ∙ sym (append_assoc a stretch (spelling ++ rest)),
      ignored-append a stretch (spelling ++ (rest ++ after)) (subst (IsIgnored a) whole p) ignored,
      spells,
      more,
    )
before-append (x ∷ xs) ys a b after (stretch, spelling, rest, is, ignored, spells, more) q = (
  stretch,
  spelling,
  rest ++ b,
  ap (λ l. l ++ b) is ∙ append_assoc stretch (spelling ++ rest) b ∙ ap (λ l. stretch ++ l) (append_assoc spelling rest b),
  subst (λ l. IsIgnored stretch (spelling ++ l)) (sym (append_assoc rest b after)) ignored,
  subst (Spells x spelling) (sym (append_assoc rest b after)) spells,
  before-append xs ys rest b after more q,
)

pub lexes-append : (xs ys : List Token) (a b : List ℕ) → LexesBefore a xs b → Lexes b ys →
    Lexes (a ++ b) (xs ++ ys)
lexes-append xs ys a b p q =
    before-append xs ys a b [] (subst (LexesBefore a xs) (sym (append-nil b)) p) q

-- a token alone, where its spelling may stand before `after`
pub token_before : (t : Token) (spelling after : List ℕ) → Spells t spelling after →
    LexesBefore spelling (t ∷ []) after
token_before t spelling after spells =
    ([], spelling, [], sym (append-nil spelling), nothing, spells, nothing)

-- ignored characters, whatever follows
pub ignored_before : (text after : List ℕ) → Each is_ignored text → LexesBefore text [] after
ignored_before [] after list_of = nothing
ignored_before (c ∷ cs) after list_of = character list_of.0 (ignored_before cs after list_of.1)

pub lexes-ignored : (c : ℕ) (tokens : List Token) (rest : List ℕ) → is_ignored c ≡ true →
    Lexes rest tokens → Lexes (c ∷ rest) tokens
lexes-ignored c tokens rest ignored lexes =
    lexes-append [] tokens (c ∷ []) rest (ignored_before (c ∷ []) rest (ignored, tt)) lexes

-- a token in front, where its spelling may stand there
pub lexes-token : (t : Token) (tokens : List Token) (spelling rest : List ℕ) →
    Spells t spelling rest → Lexes rest tokens → Lexes (spelling ++ rest) (t ∷ tokens)
lexes-token t tokens spelling rest spells lexes =
    lexes-append (t ∷ []) tokens spelling rest (token_before t spelling rest spells) lexes
