-- The reader answers each list of tokens that a text lexes to. So there is one at most.
use Rattle.std.proofs.Common.{◌≡◌, ℕ, zero, suc, ◌≤◌, ◌<◌, true, false, List, [], ◌∷◌, ◌++◌, codes, refl, sym, ap, ◌∙◌, subst, inl, inr}
use Rattle.std.proofs.Common.{append_assoc, append-nil, ◌⊎◌, Some, None, length, arith, length-append}
use Rattle.graphql_text.specs.lexical.Characters.{is_quote, begins_with}
use Rattle.graphql_base.specs.Names.{is_name_continue, begins_in}
use Rattle.graphql_text.specs.strings.Strings.{IsQuoted, IsBlock}
use Rattle.graphql_text.specs.lexical.Tokens.{Punctuator, bang, dollar, amp, lparen, rparen, spread, colon, equals, at, lbracket, rbracket}
use Rattle.graphql_text.specs.lexical.Tokens.{lbrace, bar, rbrace, punctuator_text, Token, Punctuation, Name, IntValue, FloatValue}
use Rattle.graphql_text.specs.lexical.Tokens.{StringValue, IsIgnored, Spells, Lexes}
use Rattle.graphql_text.proofs.lexical.NameAndNumberParts.{IsName}
use Rattle.graphql_text.proofs.lexical.LiteralsDecided.{name_valid, int_valid, float_valid}
use Rattle.graphql_text.proofs.reader.TokenReader.{skip, number, token, lex_from, lex}
use Rattle.graphql_text.proofs.lexical.CharacterClasses
use Rattle.graphql_text.proofs.reader.IgnoredRead.{front-append, past-append, skip_ignored}
use Rattle.graphql_text.proofs.reader.NumbersRead.{int_start, int_complete, float_start, float_complete}
use Rattle.graphql_text.proofs.reader.StringsRead.{character_complete, quoted_complete, characters_length, block_complete}

punctuator_complete : (mark : Punctuator) (after : List ℕ) →
    token (punctuator_text mark ++ after) ≡ Some (Punctuation mark, after)
punctuator_complete bang after = refl
punctuator_complete dollar after = refl
punctuator_complete amp after = refl
punctuator_complete lparen after = refl
punctuator_complete rparen after = refl
punctuator_complete spread after = refl
punctuator_complete colon after = refl
punctuator_complete equals after = refl
punctuator_complete at after = refl
punctuator_complete lbracket after = refl
punctuator_complete rbracket after = refl
punctuator_complete lbrace after = refl
punctuator_complete bar after = refl
punctuator_complete rbrace after = refl

-- how a punctuator begins
mark_start : (mark : Punctuator) →
    (c : ℕ) × (cs : List ℕ) × (punctuator_text mark ≡ c ∷ cs) × (CharacterClasses.is_token_start c ≡ true)
mark_start bang = (_, _, refl, refl)
mark_start dollar = (_, _, refl, refl)
mark_start amp = (_, _, refl, refl)
mark_start lparen = (_, _, refl, refl)
mark_start rparen = (_, _, refl, refl)
mark_start spread = (_, _, refl, refl)
mark_start colon = (_, _, refl, refl)
mark_start equals = (_, _, refl, refl)
mark_start at = (_, _, refl, refl)
mark_start lbracket = (_, _, refl, refl)
mark_start rbracket = (_, _, refl, refl)
mark_start lbrace = (_, _, refl, refl)
mark_start bar = (_, _, refl, refl)
mark_start rbrace = (_, _, refl, refl)

name_complete : (text after : List ℕ) → IsName text → begins_in is_name_continue after ≡ false →
    token (text ++ after) ≡ Some (Name text, after)
name_complete text after (c, cs, is, start, parts) stops =
    rw is (rw (
      CharacterClasses.name_not_punctuator c start,
      CharacterClasses.name_not_point c start,
      start,
      front-append is_name_continue cs after parts stops,
      past-append is_name_continue cs after parts stops,
    ) refl)

-- what begins as a number does is read as one
number_token : (c : ℕ) (cs : List ℕ) → CharacterClasses.is_number_start c ≡ true →
    token (c ∷ cs) ≡ number (c ∷ cs)
number_token c cs start =
    rw (
      CharacterClasses.number_not_punctuator c start,
      CharacterClasses.number_not_point c start,
      CharacterClasses.number_not_name c start,
      CharacterClasses.number_not_quote c start,
    ) refl

no_quotes : (text : List ℕ) → begins_in is_quote text ≡ false →
    begins_with (codes "\"\"") text ≡ false
no_quotes [] h = refl
no_quotes (c ∷ cs) h = rw h refl

string_complete : (value spelling after : List ℕ) →
    (IsQuoted spelling value after ⊎ IsBlock spelling value) →
    token (spelling ++ after) ≡ Some (StringValue value, after)
string_complete [] spelling [] (inl (is, stops)) = rw is refl
string_complete [] spelling (c ∷ cs) (inl (is, stops)) = rw is (rw stops refl)
string_complete (value ∷ values) spelling after (inl (characters, is, (first, rest, cut, stands, are))) =
    let long = characters_length (value ∷ values) characters (first, rest, cut, stands, are) in
    let whole : spelling ++ after ≡ 0x22 ∷ (characters ++ (codes "\"" ++ after)) =
    ap (λ l. l ++ after) is ∙ ap (λ l. 0x22 ∷ l) (append_assoc characters (codes "\"") after) in
    let reads =
    quoted_complete (suc (length (characters ++ (codes "\"" ++ after)))) (value ∷ values) characters after
    (first, rest, cut, stands, are) (omega (arith, length-append characters (codes "\"" ++ after))) in
    let opens : begins_in is_quote (characters ++ (codes "\"" ++ after)) ≡ false =
    ap (λ l. begins_in is_quote (l ++ (codes "\"" ++ after))) cut
    ∙ ap (begins_in is_quote) (append_assoc first rest (codes "\"" ++ after))
    ∙ (character_complete first (rest ++ (codes "\"" ++ after)) value stands).1 in
    rw whole (rw (no_quotes _ opens, reads) refl)
string_complete value spelling after (inr (rest, raw, is, block, stands)) =
    let reads = block_complete (suc (suc (length (rest ++ after)))) rest raw after block (omega (arith, length-append rest after)) in
    rw is (rw (reads, stands) refl)

-- the reader reads each token, whatever follows it
pub token_complete : (t : Token) (spelling after : List ℕ) → Spells t spelling after →
    token (spelling ++ after) ≡ Some (t, after)
token_complete (Punctuation mark) spelling after same = rw same (punctuator_complete mark after)
token_complete (Name text) spelling after (is, same, stops) =
    rw same (name_complete text after (name_valid text is) stops)
token_complete (IntValue text) spelling after (is, same, stops) =
    let int = int_valid text is in
    let (c, cs, starts, start) = int_start text int in
    rw same (ap (λ l. token (l ++ after)) starts ∙ number_token c (cs ++ after) start ∙ ap (λ l. number (l ++ after)) (sym starts)
    ∙ int_complete text after int stops)
token_complete (FloatValue text) spelling after (is, same, stops) =
    let float = float_valid text is in
    let (c, cs, starts, start) = float_start text float in
    rw same (ap (λ l. token (l ++ after)) starts ∙ number_token c (cs ++ after) start ∙ ap (λ l. number (l ++ after)) (sym starts)
    ∙ float_complete text after float stops)
token_complete (StringValue value) spelling after spells =
    string_complete value spelling after spells

-- how a spelling begins
pub spelling_start : (t : Token) (spelling after : List ℕ) → Spells t spelling after →
    (c : ℕ) × (cs : List ℕ) × (spelling ≡ c ∷ cs) × (CharacterClasses.is_token_start c ≡ true)
spelling_start (Punctuation mark) spelling after same =
    let (c, cs, starts, start) = mark_start mark in (c, cs, same ∙ starts, start)
spelling_start (Name text) spelling after (valid, same, stops) =
    let (c, cs, is, start, parts) = name_valid text valid in (c, cs, same ∙ is, CharacterClasses.start_name c start)
spelling_start (IntValue text) spelling after (is, same, stops) =
    let (c, cs, starts, start) = int_start text (int_valid text is) in (c, cs, same ∙ starts, CharacterClasses.start_number c start)
spelling_start (FloatValue text) spelling after (is, same, stops) =
    let (c, cs, starts, start) = float_start text (float_valid text is) in (c, cs, same ∙ starts, CharacterClasses.start_number c start)
spelling_start (StringValue []) spelling after (inl (is, stops)) = (0x22, codes "\"", is, refl)
spelling_start (StringValue (value ∷ values)) spelling after (inl (characters, is, are)) =
    (0x22, characters ++ codes "\"", is, refl)
spelling_start (StringValue value) spelling after (inr (rest, raw, is, block, stands)) =
    (0x22, codes "\"\"" ++ rest, is, refl)

-- nothing is ignored at the front of a token
stays : (c : ℕ) (cs : List ℕ) → CharacterClasses.is_token_start c ≡ true → skip false (c ∷ cs) ≡ c ∷ cs
stays c cs start = rw (CharacterClasses.token_not_ignored c start, CharacterClasses.token_not_comment c start) refl

lex_from_complete : (fuel : ℕ) (tokens : List Token) (text : List ℕ) → Lexes text tokens →
    length tokens < fuel → lex_from fuel (skip false text) ≡ Some tokens
lex_from_complete zero tokens text lexes enough = absurd (omega arith)
lex_from_complete (suc fuel) [] text lexes enough =
    ap (lex_from (suc fuel)) (ap (skip false) (sym (append-nil text)) ∙ skip_ignored text [] lexes)
lex_from_complete (suc fuel) (t ∷ tokens) text (stretch, spelling, rest, is, ignored, spells, lexes) enough =
    let spelled : Spells t spelling rest = subst (Spells t spelling) (append-nil rest) spells in
    let skips : IsIgnored stretch (spelling ++ rest) = subst (λ l. IsIgnored stretch (spelling ++ l)) (append-nil rest) ignored in
    let (c, cs, starts, start) = spelling_start t spelling rest spelled in
    let opens : spelling ++ rest ≡ c ∷ (cs ++ rest) = ap (λ l. l ++ rest) starts in
    let skipped : skip false text ≡ c ∷ (cs ++ rest) =
    ap (skip false) is ∙ skip_ignored stretch (spelling ++ rest) skips ∙ ap (skip false) opens ∙ stays c (cs ++ rest) start in
    let reads : token (c ∷ (cs ++ rest)) ≡ Some (t, rest) = ap token (sym opens) ∙ token_complete t spelling rest spelled in
    let more = lex_from_complete fuel tokens rest lexes (omega arith) in
    rw (skipped, reads, more) refl

lexes_length : (tokens : List Token) (text : List ℕ) → Lexes text tokens →
    length tokens ≤ length text
lexes_length [] text lexes = omega arith
lexes_length (t ∷ tokens) text (stretch, spelling, rest, is, ignored, spells, lexes) =
    let (c, cs, starts, start) = spelling_start t spelling (rest ++ []) spells in
    let rec = lexes_length tokens rest lexes in
    omega (arith, ap length is, length-append stretch (spelling ++ rest), length-append spelling rest, ap length starts)

-- a text that lexes to tokens is read as these
pub lex_complete : (text : List ℕ) (tokens : List Token) → Lexes text tokens →
    lex text ≡ Some tokens
lex_complete text tokens lexes =
    let short = lexes_length tokens text lexes in lex_from_complete (suc (length text)) tokens text lexes (omega arith)

pub one_list : (text : List ℕ) (xs ys : List Token) → Lexes text xs → Lexes text ys → xs ≡ ys
one_list text xs ys a b = let p = lex_complete text xs a in let q = lex_complete text ys b in cc

nothing : {A : Type 0} {x : A} → None ≡ Some x → ⊥
nothing h = cc

-- what the reader doesn't read lexes to nothing
pub unread : (text : List ℕ) (tokens : List Token) → lex text ≡ None → Lexes text tokens → ⊥
unread text tokens none lexes = nothing (sym none ∙ lex_complete text tokens lexes)

pub read_as : (text : List ℕ) (xs ys : List Token) → lex text ≡ Some xs → Lexes text ys → ys ≡ xs
read_as text xs ys is lexes = let p = lex_complete text ys lexes in cc
