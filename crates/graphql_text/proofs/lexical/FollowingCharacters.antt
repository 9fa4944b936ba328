-- What may follow a text.
use Rattle.std.proofs.Common.{◌≡◌, ℕ, Bool, true, false, ◌||◌, List, [], ◌∷◌, ◌++◌, refl, sym, ap, subst, ◌∙◌, inl, inr, append_assoc, arith}
use Rattle.std.proofs.lemmas.Bool.Decides.{nat_tests}
use Rattle.graphql_text.specs.lexical.Characters.{is_quote, is_line_terminator, follows_no_number}
use Rattle.graphql_base.specs.Names.{is_name_continue, begins_in}
use Rattle.graphql_text.specs.lexical.Tokens.{Token, Punctuation, Name, IntValue, FloatValue, StringValue, ends_comment, IsIgnored, nothing}
use Rattle.graphql_text.specs.lexical.Tokens.{character, comment, Spells, LexesBefore, Lexes}
use Rattle.graphql_text.proofs.lexical.LexesAppend.{lexes-append, lexes-ignored}

-- what doesn't follow a name, a number or a quoted string directly
abbrev pub goes_on : ℕ → Bool
goes_on c = follows_no_number c || is_quote c

pub not_joins_not_name : (c : ℕ) → goes_on c ≡ false → is_name_continue c ≡ false
not_joins_not_name c h = grind (arith, nat_tests)

pub not_joins_not_number : (c : ℕ) → goes_on c ≡ false → follows_no_number c ≡ false
not_joins_not_number c h = grind (arith, nat_tests)

pub not_joins_not_quote : (c : ℕ) → goes_on c ≡ false → is_quote c ≡ false
not_joins_not_quote c h = grind (arith, nat_tests)

-- A line terminator may stand after any text.

ends_then_line : (text after : List ℕ) → begins_in is_line_terminator after ≡ true →
    ends_comment text ≡ true → ends_comment (text ++ after) ≡ true
ends_then_line [] [] line ends = refl
ends_then_line [] (c ∷ after) line ends = line
ends_then_line (c ∷ text) after line ends = ends

ignored_then_line : (stretch rest after : List ℕ) → begins_in is_line_terminator after ≡ true →
    IsIgnored stretch rest → IsIgnored stretch (rest ++ after)
ignored_then_line _ rest after line nothing = nothing
ignored_then_line _ rest after line (character ignored more) =
    character ignored (ignored_then_line _ rest after line more)
ignored_then_line _ rest after line (comment {text = text} words all ends more) =
    comment words all (ap ends_comment (sym (append_assoc text rest after)) ∙ ends_then_line (text ++ rest) after line ends)
    (ignored_then_line text rest after line more)

begins_then_line : (class : ℕ → Bool) (rest after : List ℕ) →
    ((c : ℕ) → is_line_terminator c ≡ true → class c ≡ false) →
    begins_in is_line_terminator after ≡ true → begins_in class rest ≡ false →
    begins_in class (rest ++ after) ≡ false
begins_then_line class [] [] apart ends stops = refl
begins_then_line class [] (c ∷ cs) apart ends stops = apart c ends
begins_then_line class (c ∷ cs) after apart ends stops = stops

line_not_name : (c : ℕ) → is_line_terminator c ≡ true → is_name_continue c ≡ false
line_not_name c h = grind (arith, nat_tests)

line_not_number : (c : ℕ) → is_line_terminator c ≡ true → follows_no_number c ≡ false
line_not_number c h = grind (arith, nat_tests)

line_not_quote : (c : ℕ) → is_line_terminator c ≡ true → is_quote c ≡ false
line_not_quote c h = grind (arith, nat_tests)

spells_then_line : (t : Token) (spelling rest after : List ℕ) →
    begins_in is_line_terminator after ≡ true → Spells t spelling rest →
    Spells t spelling (rest ++ after)
spells_then_line (Punctuation mark) spelling rest after ends spells = spells
spells_then_line (Name text) spelling rest after ends (is, same, stops) =
    (is, same, begins_then_line is_name_continue rest after line_not_name ends stops)
spells_then_line (IntValue text) spelling rest after ends (is, same, stops) =
    (is, same, begins_then_line follows_no_number rest after line_not_number ends stops)
spells_then_line (FloatValue text) spelling rest after ends (is, same, stops) =
    (is, same, begins_then_line follows_no_number rest after line_not_number ends stops)
spells_then_line (StringValue []) spelling rest after ends (inl (is, stops)) =
    inl (is, begins_then_line is_quote rest after line_not_quote ends stops)
spells_then_line (StringValue (value ∷ values)) spelling rest after ends (inl is) = inl is
spells_then_line (StringValue value) spelling rest after ends (inr is) = inr is

pub lexes_then_line : (xs : List Token) (a more after : List ℕ) →
    begins_in is_line_terminator after ≡ true → LexesBefore a xs more →
    LexesBefore a xs (more ++ after)
lexes_then_line [] a more after line ignored = ignored_then_line a more after line ignored
lexes_then_line (x ∷ xs) a more after line (stretch, spelling, rest, is, ignored, spells, lexes) = (
  stretch,
  spelling,
  rest,
  is,
  subst (IsIgnored stretch) (append_assoc spelling (rest ++ more) after ∙ ap (λ l. spelling ++ l) (append_assoc rest more after))
      (ignored_then_line stretch (spelling ++ (rest ++ more)) after line ignored),
  subst (Spells x spelling) (append_assoc rest more after) (spells_then_line x spelling (rest ++ more) after line spells),
  lexes_then_line xs rest more after line lexes,
)

pub lexes-line : (xs ys : List Token) (a b : List ℕ) → Lexes a xs → Lexes b ys →
    Lexes (a ++ (0xA ∷ b)) (xs ++ ys)
lexes-line xs ys a b p q =
    lexes-append xs ys a (0xA ∷ b) (lexes_then_line xs a [] (0xA ∷ b) refl p) (lexes-ignored 0xA ys b refl q)
