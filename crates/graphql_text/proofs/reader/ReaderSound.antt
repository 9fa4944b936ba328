-- What the reader answers, the text lexes to.
use Rattle.std.proofs.Common.{◌≡◌, ℕ, zero, suc, Bool, true, false, cond, ◌||◌, ◌&&◌, not, ◌==◌, List, [], ◌∷◌, ◌++◌, codes, refl, sym, ap}
use Rattle.std.proofs.Common.{◌∙◌, subst, inl, inr, append_assoc, append-nil, ◌⊎◌, Option, Some, None, length, drop, arith, option_and_then}
use Rattle.std.proofs.Common.{eqb-true}
use Rattle.std.proofs.lemmas.Bool.Decides.{nat_tests}
use Rattle.std.specs.Char.{is_ascii_digit, is_ascii_hexdigit}
use Rattle.std.specs.Int.{is_in_range}
use Rattle.std.specs.List.{list_all}
use Rattle.graphql_text.specs.lexical.Characters.{is_line_terminator, is_ignored, follows_no_number, is_quote, quotes, escaped_quotes}
use Rattle.graphql_text.specs.lexical.Characters.{is_plain_string_character, escaped_character_value, unicode_escape_value, is_surrogate}
use Rattle.graphql_text.specs.lexical.Characters.{begins_with}
use Rattle.std.proofs.lemmas.Bool.{not-true, or_left, or_right, or_from, and_parts, and_from}
use Rattle.graphql_text.proofs.lexical.CharacterClasses.{is_punctuator, Each, terminator_ignored}
use Rattle.graphql_base.specs.Names.{is_name_start, is_name_continue, begins_in}
use Rattle.graphql_text.specs.strings.Strings.{StandsFor, plain, unicode, letter, StringCharacters, IsBlockRest, closing, escaped, itself}
use Rattle.graphql_text.specs.strings.BlockStringValue.{block_string_value}
use Rattle.graphql_text.specs.lexical.Tokens.{Punctuator, punctuator_text, bang, dollar, amp, lparen, rparen, spread, colon, equals, at}
use Rattle.graphql_text.specs.lexical.Tokens.{lbracket, rbracket, lbrace, bar, Token, Punctuation, Name, IntValue, FloatValue, StringValue}
use Rattle.graphql_text.specs.lexical.Tokens.{is_comment_character, ends_comment, IsIgnored, nothing, character, comment, Spells, Lexes}
use Rattle.graphql_text.proofs.lexical.NameAndNumberParts.{IsNatural, IsInt, IsDigits, IsFraction, IsExponent, IsFloat}
use Rattle.graphql_text.specs.lexical.Literals.{is_exponent_indicator, begins_float_part}
use Rattle.graphql_text.proofs.reader.TokenReader.{past, past_digits, past_natural, past_integer, past_fraction, past_signed, past_exponent}
use Rattle.graphql_text.proofs.reader.TokenReader.{front, skip, before, number_at, number, unicode_at, after_backslash, character_at}
use Rattle.graphql_text.proofs.reader.TokenReader.{quoted, block, string, mark_at, token, lex_from, lex}
use Rattle.graphql_text.proofs.reader.NumbersRead.{before-append}
use Rattle.graphql_text.proofs.lexical.LiteralsDecided.{name_passes, int_passes, float_passes}
use Rattle.graphql_text.proofs.reader.StringsRead.{begins_cut, block_sees}
use Rattle.graphql_text.proofs.lexical.LexesAppend.{lexes-append}

-- A property of what a test chooses, and of what goes on from an answer.
by_test : {A : Type 0} (P : A → Type 0) (b : Bool) (x y : A) → (b ≡ true → P x) →
    (b ≡ false → P y) → P (cond b x y)
by_test P true x y yes_case no_case = yes_case refl
by_test P false x y yes_case no_case = no_case refl

by_option : {A B : Type 0} (P : Option B → Type 0) (f : A → Option B) (o : Option A) → P None →
    ((x : A) → o ≡ Some x → P (f x)) → P (option_and_then f o)
by_option P f None none some_case = none
by_option P f (Some x) none some_case = some_case x refl

-- at true inside a comment
abbrev Skips : Bool → List ℕ → List ℕ → Type 0
Skips false text rest = (stretch : List ℕ) × (text ≡ stretch ++ rest) × IsIgnored stretch rest
Skips true text rest =
    (words : List ℕ) × (stretch : List ℕ) × (text ≡ words ++ (stretch ++ rest))
    × (list_all is_comment_character words ≡ true) × (ends_comment (stretch ++ rest) ≡ true)
    × IsIgnored stretch rest

skips_one : (c : ℕ) (cs rest : List ℕ) → is_ignored c ≡ true → Skips false cs rest →
    Skips false (c ∷ cs) rest
skips_one c cs rest is_one (stretch, is, ignored) =
    (c ∷ stretch, ap (λ l. c ∷ l) is, character is_one ignored)

skips_comment : (c : ℕ) (cs rest : List ℕ) → c ≡ 0x23 → Skips true cs rest →
    Skips false (c ∷ cs) rest
skips_comment c cs rest hash (words, stretch, is, all, ends, ignored) = (
  0x23 ∷ (words ++ stretch),
  ap (λ x. x ∷ cs) hash ∙ ap (λ l. 0x23 ∷ l) (is ∙ sym (append_assoc words stretch rest)),
  comment words all ends ignored,
)

skips_end : (c : ℕ) (cs rest : List ℕ) → is_line_terminator c ≡ true → Skips false (c ∷ cs) rest →
    Skips true (c ∷ cs) rest
skips_end c cs rest line (stretch, is, ignored) =
    ([], stretch, is, refl, ap ends_comment (sym is) ∙ line, ignored)

skips_more : (c : ℕ) (cs rest : List ℕ) → is_line_terminator c ≡ false → Skips true cs rest →
    Skips true (c ∷ cs) rest
skips_more c cs rest goes_on (words, stretch, is, all, ends, ignored) =
    (c ∷ words, stretch, ap (λ l. c ∷ l) is, and_from (is_comment_character c) (list_all is_comment_character words) (ap not goes_on) all, ends, ignored)

skips_none : (text : List ℕ) → Skips false text text
skips_none text = ([], refl, nothing)

skip_sound : (inside : Bool) (text : List ℕ) → Skips inside text (skip inside text)
skip_sound false [] = skips_none []
skip_sound true [] = ([], [], refl, refl, refl, nothing)
skip_sound false (c ∷ cs) =
    let outside = skip_sound false cs in
    let inside = skip_sound true cs in
    by_test (Skips false (c ∷ cs)) (is_ignored c) (skip false cs) (cond (c == 0x23) (skip true cs) (c ∷ cs)) (λ h. skips_one c cs (skip false cs) h outside)
    (λ h.
    by_test (Skips false (c ∷ cs)) (c == 0x23) (skip true cs) (c ∷ cs)
    (λ e. skips_comment c cs (skip true cs) (eqb-true c 0x23 e) inside) (λ e. skips_none (c ∷ cs)))
skip_sound true (c ∷ cs) =
    let outside = skip_sound false cs in
    let inside = skip_sound true cs in
    by_test (Skips true (c ∷ cs)) (is_line_terminator c) (skip false cs) (skip true cs)
    (λ h. skips_end c cs (skip false cs) h (skips_one c cs (skip false cs) (terminator_ignored c h) outside))
    (λ h. skips_more c cs (skip true cs) h inside)

-- the text is a run of the class and what is past it
abbrev IsRun : (ℕ → Bool) → List ℕ → Type 0
IsRun class text =
    (text ≡ front class text ++ past class text) × Each class (front class text)
    × (begins_in class (past class text) ≡ false)

run_sound : (class : ℕ → Bool) (text : List ℕ) → IsRun class text
run_sound class [] = (refl, tt, refl)
run_sound class (c ∷ cs) = go (class c) refl (run_sound class cs)
  where
    go : (b : Bool) → class c ≡ b → IsRun class cs → IsRun class (c ∷ cs)
    go true is (whole, list_of, stops) = rw is (ap (λ l. c ∷ l) whole, (is, list_of), stops)
    go false is run = rw is (refl, tt, is)

-- the text is a front of that kind and the rest, if there is an answer
abbrev FrontIs : (List ℕ → Type 0) → List ℕ → Option (List ℕ) → Type 0
FrontIs P text None = Unit {0}
FrontIs P text (Some rest) = (first : List ℕ) × (text ≡ first ++ rest) × P first

digits_sound : (text : List ℕ) → FrontIs IsDigits text (past_digits text)
digits_sound [] = tt
digits_sound (c ∷ cs) =
    let run = run_sound is_ascii_digit cs in
    by_test (FrontIs IsDigits (c ∷ cs)) (is_ascii_digit c) (Some (past is_ascii_digit cs)) None
    (λ h. (c ∷ front is_ascii_digit cs, ap (λ l. c ∷ l) run.0, (c, front is_ascii_digit cs, refl, (h, run.1)))) (λ h. tt)

positive : (c : ℕ) → is_ascii_digit c ≡ true → (c == 0x30) ≡ false → is_in_range 0x31 0x39 c ≡ true
positive c h e = grind (arith, nat_tests)

natural_sound : (text : List ℕ) → FrontIs IsNatural text (past_natural text)
natural_sound [] = tt
natural_sound (c ∷ cs) =
    let run = run_sound is_ascii_digit cs in
    by_test (FrontIs IsNatural (c ∷ cs)) (c == 0x30) (Some cs) (past_digits (c ∷ cs)) (λ h. (c ∷ [], refl, inl (ap (λ x. x ∷ []) (eqb-true c 0x30 h))))
    (λ e.
    by_test (FrontIs IsNatural (c ∷ cs)) (is_ascii_digit c) (Some (past is_ascii_digit cs)) None
    (λ h. (c ∷ front is_ascii_digit cs, ap (λ l. c ∷ l) run.0, inr (c, front is_ascii_digit cs, refl, positive c h e, run.1)))
    (λ h. tt))

int_from_natural : (text : List ℕ) (o : Option (List ℕ)) → FrontIs IsNatural text o →
    FrontIs IsInt text o
int_from_natural text None h = tt
int_from_natural text (Some rest) (first, is, natural) =
    (first, is, ([], first, refl, inl refl, natural))

int_from_minus : (c : ℕ) (text : List ℕ) (o : Option (List ℕ)) → c ≡ 0x2D →
    FrontIs IsNatural text o → FrontIs IsInt (c ∷ text) o
int_from_minus c text None minus h = tt
int_from_minus c text (Some rest) minus (first, is, natural) =
    (c ∷ first, ap (λ l. c ∷ l) is, (codes "-", first, ap (λ x. x ∷ first) minus, inr refl, natural))

integer_sound : (text : List ℕ) → FrontIs IsInt text (past_integer text)
integer_sound [] = tt
integer_sound (c ∷ cs) =
    by_test (FrontIs IsInt (c ∷ cs)) (c == 0x2D) (past_natural cs) (past_natural (c ∷ cs))
    (λ h. int_from_minus c cs (past_natural cs) (eqb-true c 0x2D h) (natural_sound cs))
    (λ h. int_from_natural (c ∷ cs) (past_natural (c ∷ cs)) (natural_sound (c ∷ cs)))

-- the text is such a part and the rest, or the rest is the text, which doesn't begin as such a part does
abbrev PartIs : (List ℕ → Type 0) → (ℕ → Bool) → List ℕ → Option (List ℕ) → Type 0
PartIs P mark text None = Unit {0}
PartIs P mark text (Some rest) =
    ((first : List ℕ) × (text ≡ first ++ rest) × P first × (begins_in mark text ≡ true)) ⊎ ((rest ≡ text) × (begins_in mark text ≡ false))

fraction_from_digits : (c : ℕ) (cs : List ℕ) (o : Option (List ℕ)) → (c == 0x2E) ≡ true →
    FrontIs IsDigits cs o → PartIs IsFraction (λ c. c == 0x2E) (c ∷ cs) o
fraction_from_digits c cs None point h = tt
fraction_from_digits c cs (Some rest) point (first, is, are) =
    inl (c ∷ first, ap (λ l. c ∷ l) is, (first, ap (λ x. x ∷ first) (eqb-true c 0x2E point), are), point)

fraction_sound : (text : List ℕ) → PartIs IsFraction (λ c. c == 0x2E) text (past_fraction text)
fraction_sound [] = inr (refl, refl)
fraction_sound (c ∷ cs) =
    by_test (PartIs IsFraction (λ c. c == 0x2E) (c ∷ cs)) (c == 0x2E) (past_digits cs) (Some (c ∷ cs))
    (λ h. fraction_from_digits c cs (past_digits cs) h (digits_sound cs)) (λ h. inr (refl, h))

abbrev IsSign : List ℕ → Type 0
IsSign sign = (sign ≡ []) ⊎ ((sign ≡ codes "+") ⊎ (sign ≡ codes "-"))

abbrev IsSigned : List ℕ → Type 0
IsSigned text =
    (sign : List ℕ) × (digits : List ℕ) × (text ≡ sign ++ digits) × IsSign sign × IsDigits digits

either_sign : (c : ℕ) → ((c == 0x2B) || (c == 0x2D)) ≡ true → (c ≡ 0x2B) ⊎ (c ≡ 0x2D)
either_sign c h = grind (arith, nat_tests)

either_mark : (c : ℕ) → is_exponent_indicator c ≡ true → (c ≡ 0x65) ⊎ (c ≡ 0x45)
either_mark c h = grind (arith, nat_tests)

sign_of : (c : ℕ) → (c ≡ 0x2B) ⊎ (c ≡ 0x2D) → IsSign (c ∷ [])
sign_of c (inl e) = inr (inl (ap (λ x. x ∷ []) e))
sign_of c (inr e) = inr (inr (ap (λ x. x ∷ []) e))

signed_from : (c : ℕ) (cs : List ℕ) (o : Option (List ℕ)) → ((c == 0x2B) || (c == 0x2D)) ≡ true →
    FrontIs IsDigits cs o → FrontIs IsSigned (c ∷ cs) o
signed_from c cs None h front = tt
signed_from c cs (Some rest) h (first, is, are) =
    (c ∷ first, ap (λ l. c ∷ l) is, (c ∷ [], first, refl, sign_of c (either_sign c h), are))

unsigned_from : (text : List ℕ) (o : Option (List ℕ)) → FrontIs IsDigits text o →
    FrontIs IsSigned text o
unsigned_from text None front = tt
unsigned_from text (Some rest) (first, is, are) = (first, is, ([], first, refl, inl refl, are))

signed_sound : (text : List ℕ) → FrontIs IsSigned text (past_signed text)
signed_sound [] = tt
signed_sound (c ∷ cs) =
    by_test (FrontIs IsSigned (c ∷ cs)) ((c == 0x2B) || (c == 0x2D)) (past_digits cs) (past_digits (c ∷ cs))
    (λ h. signed_from c cs (past_digits cs) h (digits_sound cs))
    (λ h. unsigned_from (c ∷ cs) (past_digits (c ∷ cs)) (digits_sound (c ∷ cs)))

mark_of : (c : ℕ) → (c ≡ 0x65) ⊎ (c ≡ 0x45) → ((c ∷ [] ≡ codes "e") ⊎ (c ∷ [] ≡ codes "E"))
mark_of c (inl e) = inl (ap (λ x. x ∷ []) e)
mark_of c (inr e) = inr (ap (λ x. x ∷ []) e)

exponent_from : (c : ℕ) (cs : List ℕ) (o : Option (List ℕ)) → is_exponent_indicator c ≡ true →
    FrontIs IsSigned cs o → PartIs IsExponent is_exponent_indicator (c ∷ cs) o
exponent_from c cs None h front = tt
exponent_from c cs (Some rest) h (first, is, (sign, digits, cut, signs, are)) =
    inl (c ∷ first, ap (λ l. c ∷ l) is, (c ∷ [], sign, digits, ap (λ l. c ∷ l) cut, mark_of c (either_mark c h), signs, are), h)

exponent_sound : (text : List ℕ) → PartIs IsExponent is_exponent_indicator text (past_exponent text)
exponent_sound [] = inr (refl, refl)
exponent_sound (c ∷ cs) =
    by_test (PartIs IsExponent is_exponent_indicator (c ∷ cs)) (is_exponent_indicator c) (past_signed cs) (Some (c ∷ cs))
    (λ h. exponent_from c cs (past_signed cs) h (signed_sound cs)) (λ h. inr (refl, h))

-- the token is spelled at the front of the text, if there is an answer
abbrev Reads : List ℕ → Option (Token × List ℕ) → Type 0
Reads text None = Unit {0}
Reads text (Some found) =
    (spelling : List ℕ) × (text ≡ spelling ++ found.1) × Spells found.0 spelling found.1

before_is : (text first rest : List ℕ) → text ≡ first ++ rest → before text rest ≡ first
before_is text first rest whole = ap (λ t. before t rest) whole ∙ before-append first rest

finish_int : (text integer first rest : List ℕ) → begins_in begins_float_part integer ≡ false →
    text ≡ first ++ rest → IsInt first → begins_in follows_no_number rest ≡ false →
    Reads text (Some (cond (begins_in begins_float_part integer) (FloatValue (before text rest)) (IntValue (before text rest)), rest))
finish_int text integer first rest mark whole is stops =
    let e : cond (begins_in begins_float_part integer) (FloatValue (before text rest)) (IntValue (before text rest)) ≡ IntValue first =
    ap (λ b. cond b (FloatValue (before text rest)) (IntValue (before text rest))) mark
    ∙ ap IntValue (before_is text first rest whole) in
    (first, whole, subst (λ (t : Token). Spells t first rest) (sym e) (int_passes first is, refl, stops))

finish_float : (text integer first rest : List ℕ) → begins_in begins_float_part integer ≡ true →
    text ≡ first ++ rest → IsFloat first → begins_in follows_no_number rest ≡ false →
    Reads text (Some (cond (begins_in begins_float_part integer) (FloatValue (before text rest)) (IntValue (before text rest)), rest))
finish_float text integer first rest mark whole is stops =
    let e : cond (begins_in begins_float_part integer) (FloatValue (before text rest)) (IntValue (before text rest)) ≡ FloatValue first =
    ap (λ b. cond b (FloatValue (before text rest)) (IntValue (before text rest))) mark
    ∙ ap FloatValue (before_is text first rest whole) in
    (first, whole, subst (λ (t : Token). Spells t first rest) (sym e) (float_passes first is, refl, stops))

no_float_mark : (text : List ℕ) → begins_in (λ c. c == 0x2E) text ≡ false →
    begins_in is_exponent_indicator text ≡ false → begins_in begins_float_part text ≡ false
no_float_mark [] a b = refl
no_float_mark (c ∷ cs) a b = or_from (c == 0x2E) (is_exponent_indicator c) a b

point_mark : (text : List ℕ) → begins_in (λ c. c == 0x2E) text ≡ true →
    begins_in begins_float_part text ≡ true
point_mark [] h = h
point_mark (c ∷ cs) h = or_left (c == 0x2E) (is_exponent_indicator c) h

exponent_mark : (text : List ℕ) → begins_in is_exponent_indicator text ≡ true →
    begins_in begins_float_part text ≡ true
exponent_mark [] h = h
exponent_mark (c ∷ cs) h = or_right (c == 0x2E) (is_exponent_indicator c) h

three_parts : (a b c rest : List ℕ) → a ++ (b ++ (c ++ rest)) ≡ (a ++ (b ++ c)) ++ rest
three_parts a b c rest =
    ap (λ l. a ++ l) (sym (append_assoc b c rest)) ∙ sym (append_assoc a (b ++ c) rest)

number_token : (text integer fraction rest : List ℕ) → begins_in follows_no_number rest ≡ false →
    FrontIs IsInt text (Some integer) → PartIs IsFraction (λ c. c == 0x2E) integer (Some fraction) →
    PartIs IsExponent is_exponent_indicator fraction (Some rest) →
    Reads text (Some (cond (begins_in begins_float_part integer) (FloatValue (before text rest)) (IntValue (before text rest)), rest))
number_token text integer fraction rest stops (first, is, int) (inr (f_is, no_point)) (inr (e_is, no_mark)) =
    finish_int text integer first rest (no_float_mark integer no_point (ap (begins_in is_exponent_indicator) (sym f_is) ∙ no_mark))
    (is ∙ ap (λ l. first ++ l) (sym f_is ∙ sym e_is)) int stops
number_token text integer fraction rest stops (first, is, int) (inl (f, f_is, frac, point)) (inr (e_is, no_mark)) =
    finish_float text integer (first ++ (f ++ [])) rest (point_mark integer point)
    (is ∙ ap (λ l. first ++ l) (f_is ∙ ap (λ l. f ++ l) (sym e_is)) ∙ three_parts first f [] rest)
    (first, f, [], refl, int, inl (frac, refl)) stops
number_token text integer fraction rest stops (first, is, int) (inr (f_is, no_point)) (inl (e, e_is, exp, mark)) =
    finish_float text integer (first ++ ([] ++ e)) rest (exponent_mark integer (ap (begins_in is_exponent_indicator) (sym f_is) ∙ mark))
    (is ∙ ap (λ l. first ++ l) (sym f_is ∙ e_is) ∙ three_parts first [] e rest) (first, [], e, refl, int, inr (inl (refl, exp))) stops
number_token text integer fraction rest stops (first, is, int) (inl (f, f_is, frac, point)) (inl (e, e_is, exp, mark)) =
    finish_float text integer (first ++ (f ++ e)) rest (point_mark integer point)
    (is ∙ ap (λ l. first ++ l) (f_is ∙ ap (λ l. f ++ l) e_is) ∙ three_parts first f e rest)
    (first, f, e, refl, int, inr (inr (frac, exp))) stops

number_at_sound : (text integer fraction rest : List ℕ) → FrontIs IsInt text (Some integer) →
    PartIs IsFraction (λ c. c == 0x2E) integer (Some fraction) →
    PartIs IsExponent is_exponent_indicator fraction (Some rest) →
    Reads text (number_at text integer rest)
number_at_sound text integer fraction rest a b c =
    by_test (Reads text) (begins_in follows_no_number rest) None
    (Some (cond (begins_in begins_float_part integer) (FloatValue (before text rest)) (IntValue (before text rest)), rest)) (λ h. tt)
    (λ stops. number_token text integer fraction rest stops a b c)

number_sound : (text : List ℕ) → Reads text (number text)
number_sound text =
    by_option (Reads text)
    (λ integer.
    option_and_then (λ fraction. option_and_then (λ rest. number_at text integer rest) (past_exponent fraction))
    (past_fraction integer))
    (past_integer text) tt (λ integer e₁.
    by_option (Reads text) (λ fraction. option_and_then (λ rest. number_at text integer rest) (past_exponent fraction))
    (past_fraction integer) tt (λ fraction e₂.
    by_option (Reads text) (λ rest. number_at text integer rest) (past_exponent fraction) tt (λ rest e₃.
    number_at_sound text integer fraction rest (subst (FrontIs IsInt text) e₁ (integer_sound text))
    (subst (PartIs IsFraction (λ c. c == 0x2E) integer) e₂ (fraction_sound integer))
    (subst (PartIs IsExponent is_exponent_indicator fraction) e₃ (exponent_sound fraction)))))

-- strings
abbrev OneCharacter : List ℕ → Option (ℕ × List ℕ) → Type 0
OneCharacter text None = Unit {0}
OneCharacter text (Some found) =
    (first : List ℕ) × (text ≡ first ++ found.1) × StandsFor first found.0

-- what stands after a backslash and a `u`
abbrev HexCharacter : List ℕ → Option (ℕ × List ℕ) → Type 0
HexCharacter text None = Unit {0}
HexCharacter text (Some found) =
    (first : List ℕ) × (text ≡ first ++ found.1) × StandsFor (codes "\\u" ++ first) found.0

unicode_sound : (text : List ℕ) → HexCharacter text (unicode_at text)
unicode_sound [] = tt
unicode_sound (a ∷ []) = tt
unicode_sound (a ∷ b ∷ []) = tt
unicode_sound (a ∷ b ∷ c ∷ []) = tt
unicode_sound (a ∷ b ∷ c ∷ d ∷ rest) =
    by_test (HexCharacter (a ∷ b ∷ c ∷ d ∷ rest))
    (list_all is_ascii_hexdigit (a ∷ b ∷ c ∷ d ∷ []) && not (is_surrogate (unicode_escape_value a b c d)))
    (Some (unicode_escape_value a b c d, rest)) None
    (λ h.
    let (digits, scalar) = and_parts (list_all is_ascii_hexdigit (a ∷ b ∷ c ∷ d ∷ [])) (not (is_surrogate (unicode_escape_value a b c d))) h in
    (a ∷ b ∷ c ∷ d ∷ [], refl, unicode {a = a} {b = b} {c = c} {d = d} digits (not-true _ scalar)))
    (λ h. tt)

after_u : (c e : ℕ) (cs : List ℕ) (o : Option (ℕ × List ℕ)) → c ≡ 0x5C → e ≡ 0x75 →
    HexCharacter cs o → OneCharacter (c ∷ e ∷ cs) o
after_u c e cs None is_c is_e h = tt
after_u c e cs (Some found) is_c is_e (first, is, stands) =
    (0x5C ∷ 0x75 ∷ first, ap (λ x. x ∷ e ∷ cs) is_c ∙ ap (λ x. 0x5C ∷ x ∷ cs) is_e ∙ ap (λ l. 0x5C ∷ 0x75 ∷ l) is, stands)

backslash_sound : (c : ℕ) (text : List ℕ) → c ≡ 0x5C →
    OneCharacter (c ∷ text) (after_backslash text)
backslash_sound c [] is_c = tt
backslash_sound c (e ∷ cs) is_c =
    by_test (OneCharacter (c ∷ e ∷ cs)) (e == 0x75) (unicode_at cs)
    (option_and_then (λ value. Some (value, cs)) (escaped_character_value e))
    (λ h. after_u c e cs (unicode_at cs) is_c (eqb-true e 0x75 h) (unicode_sound cs))
    (λ h.
    by_option (OneCharacter (c ∷ e ∷ cs)) (λ value. Some (value, cs)) (escaped_character_value e) tt
    (λ value is. (0x5C ∷ e ∷ [], ap (λ x. x ∷ e ∷ cs) is_c, letter is)))

character_sound : (text : List ℕ) → OneCharacter text (character_at text)
character_sound [] = tt
character_sound (c ∷ cs) =
    by_test (OneCharacter (c ∷ cs)) (is_plain_string_character c) (Some (c, cs)) (cond (c == 0x5C) (after_backslash cs) None) (λ h. (c ∷ [], refl, plain h))
    (λ h. by_test (OneCharacter (c ∷ cs)) (c == 0x5C) (after_backslash cs) None (λ e. backslash_sound c cs (eqb-true c 0x5C e)) (λ e. tt))

abbrev QuotedIs : List ℕ → Option (List ℕ × List ℕ) → Type 0
QuotedIs text None = Unit {0}
QuotedIs text (Some found) =
    (characters : List ℕ) × (text ≡ characters ++ (codes "\"" ++ found.1))
    × StringCharacters characters found.0

quote_first : (text : List ℕ) → begins_in is_quote text ≡ true → text ≡ codes "\"" ++ drop 1 text
quote_first [] h = cc
quote_first (c ∷ cs) h = ap (λ x. x ∷ cs) (eqb-true c 0x22 h)

quoted_sound : (fuel : ℕ) (text : List ℕ) → QuotedIs text (quoted fuel text)
quoted_sound zero text = tt
quoted_sound (suc fuel) text =
    let rec : (after : List ℕ) → QuotedIs after (quoted fuel after) = λ after. quoted_sound fuel after in
    let one = character_sound text in
    by_test (QuotedIs text) (begins_in is_quote text) (Some ([], drop 1 text))
    (option_and_then (λ one. option_and_then (λ found. Some (one.0 ∷ found.0, found.1)) (quoted fuel one.1)) (character_at text))
    (λ h. ([], quote_first text h, refl))
    (λ h. by_option (QuotedIs text) (λ one. option_and_then (λ found. Some (one.0 ∷ found.0, found.1)) (quoted fuel one.1)) (character_at text) tt (λ first e.
    by_option (QuotedIs text) (λ found. Some (first.0 ∷ found.0, found.1)) (quoted fuel first.1) tt (λ found e₂.
    more text first found (subst (OneCharacter text) e one) (subst (QuotedIs first.1) e₂ (rec first.1)))))
  where
    more : (text : List ℕ) (first : ℕ × List ℕ) (found : List ℕ × List ℕ) →
        OneCharacter text (Some first) → QuotedIs first.1 (Some found) →
        QuotedIs text (Some (first.0 ∷ found.0, found.1))
    more text first found (a, a_is, stands) (b, b_is, are) =
        (a ++ b, a_is ∙ ap (λ l. a ++ l) b_is ∙ sym (append_assoc a b (codes "\"" ++ found.1)), (a, b, refl, stands, are))

abbrev BlockIs : List ℕ → Option (List ℕ × List ℕ) → Type 0
BlockIs text None = Unit {0}
BlockIs text (Some found) = (front : List ℕ) × (text ≡ front ++ found.1) × IsBlockRest front found.0

block_sound : (fuel : ℕ) (text : List ℕ) → BlockIs text (block fuel text)
block_sound zero text = tt
block_sound (suc fuel) [] = tt
block_sound (suc fuel) (c ∷ cs) =
    let escaped_rest = block_sound fuel (drop 3 cs) in
    let plain_rest = block_sound fuel cs in
    by_test (BlockIs (c ∷ cs)) (begins_with quotes (c ∷ cs)) (Some ([], drop 2 cs))
    (cond (begins_with escaped_quotes (c ∷ cs)) (option_and_then (λ found. Some (quotes ++ found.0, found.1)) (block fuel (drop 3 cs)))
    (option_and_then (λ found. Some (c ∷ found.0, found.1)) (block fuel cs)))
    (λ h. (quotes, begins_cut quotes (c ∷ cs) h, closing))
    (λ no_end.
    by_test (BlockIs (c ∷ cs)) (begins_with escaped_quotes (c ∷ cs))
    (option_and_then (λ found. Some (quotes ++ found.0, found.1)) (block fuel (drop 3 cs)))
    (option_and_then (λ found. Some (c ∷ found.0, found.1)) (block fuel cs))
    (λ h.
    by_option (BlockIs (c ∷ cs)) (λ found. Some (quotes ++ found.0, found.1)) (block fuel (drop 3 cs)) tt
    (λ found e. escape found (begins_cut escaped_quotes (c ∷ cs) h) (subst (BlockIs (drop 3 cs)) e escaped_rest)))
    (λ no_escape.
    by_option (BlockIs (c ∷ cs)) (λ found. Some (c ∷ found.0, found.1)) (block fuel cs) tt
    (λ found e. one found no_end no_escape (subst (BlockIs cs) e plain_rest))))
  where
    escape : (found : List ℕ × List ℕ) → c ∷ cs ≡ escaped_quotes ++ drop 3 cs →
        BlockIs (drop 3 cs) (Some found) → BlockIs (c ∷ cs) (Some (quotes ++ found.0, found.1))
    escape found cut (front, is, more) =
        (escaped_quotes ++ front, cut ∙ ap (λ l. escaped_quotes ++ l) is, escaped more)

    one : (found : List ℕ × List ℕ) → begins_with quotes (c ∷ cs) ≡ false →
        begins_with escaped_quotes (c ∷ cs) ≡ false → BlockIs cs (Some found) →
        BlockIs (c ∷ cs) (Some (c ∷ found.0, found.1))
    one found no_end no_escape (front, is, more) = (
      c ∷ front,
      ap (λ l. c ∷ l) is,
      itself
          (sym (block_sees quotes c front found.0 found.1 (omega arith) more) ∙ ap (λ l. begins_with quotes (c ∷ l)) (sym is) ∙ no_end)
          (sym (block_sees escaped_quotes c front found.0 found.1 (omega arith) more) ∙ ap (λ l. begins_with escaped_quotes (c ∷ l)) (sym is) ∙ no_escape)
          more,
    )

no_second : (text rest : List ℕ) → text ≡ codes "\"" ++ rest →
    begins_with (codes "\"\"") text ≡ false → begins_in is_quote rest ≡ false
no_second text rest is h = go rest (ap (begins_with (codes "\"\"")) (sym is) ∙ h)
  where
    go : (rest : List ℕ) → begins_with (codes "\"") rest ≡ false → begins_in is_quote rest ≡ false
    go [] h = refl
    go (c ∷ cs) h = one (c == 0x22) h
      where
        one : (b : Bool) → b && true ≡ false → b ≡ false
        one true h = h
        one false h = refl

in_quotes : (text : List ℕ) (found : List ℕ × List ℕ) → begins_with (codes "\"\"") text ≡ false →
    QuotedIs text (Some found) → Reads (0x22 ∷ text) (Some (StringValue found.0, found.1))
in_quotes text found h = go found.0 found.1
  where
    go : (values rest : List ℕ) → QuotedIs text (Some (values, rest)) →
        Reads (0x22 ∷ text) (Some (StringValue values, rest))
    go [] rest (characters, is, none) =
        let whole : text ≡ codes "\"" ++ rest = is ∙ ap (λ l. l ++ (codes "\"" ++ rest)) none in
        (codes "\"\"", ap (λ l. 0x22 ∷ l) whole, inl (refl, no_second text rest whole h))
    go (v ∷ vs) rest (characters, is, are) =
        (codes "\"" ++ (characters ++ codes "\""), ap (λ l. 0x22 ∷ l) (is ∙ sym (append_assoc characters (codes "\"") rest)), inl (characters, refl, are))

in_block : (text : List ℕ) (found : List ℕ × List ℕ) → begins_with (codes "\"\"") text ≡ true →
    BlockIs (drop 2 text) (Some found) →
    Reads (0x22 ∷ text) (Some (StringValue (block_string_value found.0), found.1))
in_block text found h (front, is, more) = (
  quotes ++ front,
  ap (λ l. 0x22 ∷ l) (begins_cut (codes "\"\"") text h ∙ ap (λ l. codes "\"\"" ++ l) is),
  inr (front, found.0, refl, more, refl),
)

string_sound : (text : List ℕ) → Reads (0x22 ∷ text) (string text)
string_sound text =
    by_test (Reads (0x22 ∷ text)) (begins_with (codes "\"\"") text)
    (option_and_then (λ found. Some (StringValue (block_string_value found.0), found.1)) (block (length text) (drop 2 text)))
    (option_and_then (λ found. Some (StringValue found.0, found.1)) (quoted (suc (length text)) text))
    (λ h.
    by_option (Reads (0x22 ∷ text)) (λ found. Some (StringValue (block_string_value found.0), found.1))
    (block (length text) (drop 2 text)) tt
    (λ found e. in_block text found h (subst (BlockIs (drop 2 text)) e (block_sound (length text) (drop 2 text)))))
    (λ h.
    by_option (Reads (0x22 ∷ text)) (λ found. Some (StringValue found.0, found.1)) (quoted (suc (length text)) text) tt
    (λ found e. in_quotes text found h (subst (QuotedIs text) e (quoted_sound (suc (length text)) text))))

mark_sound : (c : ℕ) → is_punctuator c ≡ true → c ∷ [] ≡ punctuator_text (mark_at c)
mark_sound c h =
    is_at 0x21 bang _ refl (λ a. is_at 0x24 dollar _ refl (λ b. is_at 0x26 amp _ refl (λ d. is_at 0x28 lparen _ refl (λ e. is_at 0x29 rparen _ refl
    (λ f. is_at 0x3A colon _ refl (λ g. is_at 0x3D equals _ refl (λ i. is_at 0x40 at _ refl (λ j. is_at 0x5B lbracket _ refl (λ k. is_at 0x5D rbracket _ refl
    (λ l. is_at 0x7B lbrace _ refl (λ m. is_at 0x7C bar _ refl (λ n. let last : c ≡ 0x7D = grind (arith, nat_tests) in ap (λ x. x ∷ []) last))))))))))))
  where
    is_at : (d : ℕ) (mark other : Punctuator) → d ∷ [] ≡ punctuator_text mark →
        ((c == d) ≡ false → c ∷ [] ≡ punctuator_text other) →
        c ∷ [] ≡ punctuator_text (cond (c == d) mark other)
    is_at d mark other is more =
        by_test (λ m. c ∷ [] ≡ punctuator_text m) (c == d) mark other (λ e. ap (λ x. x ∷ []) (eqb-true c d e) ∙ is) more

token_sound : (text : List ℕ) → Reads text (token text)
token_sound [] = tt
token_sound (c ∷ cs) =
    let run = run_sound is_name_continue cs in
    let dots : Option (Token × List ℕ) = cond (begins_with (codes "..") cs) (Some (Punctuation spread, drop 2 cs)) None in
    by_test (Reads (c ∷ cs)) (is_punctuator c) (Some (Punctuation (mark_at c), cs))
    (cond (c == 0x2E) dots (cond (is_name_start c) (Some (Name (c ∷ front is_name_continue cs), past is_name_continue cs))
    (cond (is_quote c) (string cs) (number (c ∷ cs)))))
    (λ h. (c ∷ [], refl, mark_sound c h))
    (λ h₁.
    by_test (Reads (c ∷ cs)) (c == 0x2E) dots
    (cond (is_name_start c) (Some (Name (c ∷ front is_name_continue cs), past is_name_continue cs))
    (cond (is_quote c) (string cs) (number (c ∷ cs))))
    (λ h.
    by_test (Reads (c ∷ cs)) (begins_with (codes "..") cs) (Some (Punctuation spread, drop 2 cs)) None
    (λ b. (codes "...", ap (λ x. x ∷ cs) (eqb-true c 0x2E h) ∙ ap (λ l. 0x2E ∷ l) (begins_cut (codes "..") cs b), refl)) (λ b. tt))
    (λ h₂.
    by_test (Reads (c ∷ cs)) (is_name_start c) (Some (Name (c ∷ front is_name_continue cs), past is_name_continue cs))
    (cond (is_quote c) (string cs) (number (c ∷ cs)))
    (λ h. (
      c ∷ front is_name_continue cs,
      ap (λ l. c ∷ l) run.0,
      (name_passes (c ∷ front is_name_continue cs) (c, front is_name_continue cs, refl, h, run.1), refl, run.2),
    ))
    (λ h₃.
    by_test (Reads (c ∷ cs)) (is_quote c) (string cs) (number (c ∷ cs))
    (λ h. subst (λ (x : ℕ). Reads (x ∷ cs) (string cs)) (sym (eqb-true c 0x22 h)) (string_sound cs)) (λ h. number_sound (c ∷ cs)))))

abbrev LexIs : List ℕ → Option (List Token) → Type 0
LexIs text None = Unit {0}
LexIs text (Some tokens) = Lexes text tokens

-- what is past an ignored stretch lexes to what the whole does
past_stretch : (text : List ℕ) (tokens : List Token) → Lexes (skip false text) tokens →
    Lexes text tokens
past_stretch text tokens lexes =
    let (stretch, is, ignored) = skip_sound false text in
    subst (λ (t : List ℕ). Lexes t tokens) (sym is) (lexes-append [] tokens stretch (skip false text) ignored lexes)

lex_from_sound : (fuel : ℕ) (text : List ℕ) → LexIs text (lex_from fuel text)
lex_from_sound zero text = tt
lex_from_sound (suc fuel) [] = nothing
lex_from_sound (suc fuel) (c ∷ cs) =
    let rec : (after : List ℕ) → LexIs after (lex_from fuel after) = λ after. lex_from_sound fuel after in
    by_option (LexIs (c ∷ cs)) (λ found. option_and_then (λ tokens. Some (found.0 ∷ tokens)) (lex_from fuel (skip false found.1)))
    (token (c ∷ cs)) tt (λ found e₁.
    by_option (LexIs (c ∷ cs)) (λ tokens. Some (found.0 ∷ tokens)) (lex_from fuel (skip false found.1)) tt (λ tokens e₂.
    more found tokens (subst (Reads (c ∷ cs)) e₁ (token_sound (c ∷ cs)))
    (past_stretch found.1 tokens (subst (LexIs (skip false found.1)) e₂ (rec (skip false found.1))))))
  where
    more : (found : Token × List ℕ) (tokens : List Token) → Reads (c ∷ cs) (Some found) →
        Lexes found.1 tokens → Lexes (c ∷ cs) (found.0 ∷ tokens)
    more found tokens (spelling, is, spells) lexes =
        ([], spelling, found.1, is, nothing, subst (Spells found.0 spelling) (sym (append-nil found.1)) spells, lexes)

-- what the reader answers, the text lexes to
pub lex_sound : (text : List ℕ) (tokens : List Token) → lex text ≡ Some tokens → Lexes text tokens
lex_sound text tokens is =
    past_stretch text tokens (subst (LexIs (skip false text)) is (lex_from_sound (suc (length text)) (skip false text)))
