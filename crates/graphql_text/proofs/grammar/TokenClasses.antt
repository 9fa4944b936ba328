-- Classes of tokens: one within another, and apart from another.
use Rattle.std.proofs.Common.{ℕ, ◌≡◌, refl, sym, ap, ◌∙◌, subst, List, [], ◌∷◌, Bool, true, false, ◌&&◌, ◌||◌, not, inl, inr, nat_eq}
use Rattle.std.proofs.lemmas.Slice.Eq.{bytes_eq-Decides}
use Rattle.std.specs.Cmp.Lexicographic.{pointwise}
use Rattle.graphql_text.specs.lexical.Tokens.{punctuator_text, Token, Punctuation, Name, IntValue, FloatValue, StringValue}
use Rattle.graphql_text.specs.grammar.Forms.{TokenClass, a_punctuator, a_keyword, a_name, an_int, a_float, a_string_value, admits}
use Rattle.graphql_text.specs.grammar.Forms.{any_admits, begins, is_one_of}
use Rattle.std.proofs.lemmas.Bool.{or_cases, or_left, or_right, or_from, not-true, not_from_false, not_from_true}
use Rattle.graphql_text.proofs.general.BooleanTests.{first_holds, second_holds, is_true}

abbrev all_in : List (List ℕ) → List (List ℕ) → Bool
all_in [] ws = true
all_in (v ∷ vs) ws = is_one_of ws v && all_in vs ws

-- every token that the second admits the first admits too
abbrev covers : TokenClass → TokenClass → Bool
covers (a_punctuator k) (a_punctuator m) = pointwise nat_eq (punctuator_text k) (punctuator_text m)
covers (a_keyword w) (a_keyword s) = pointwise nat_eq w s
covers (a_name ws) (a_keyword s) = not (is_one_of ws s)
covers (a_name ws) (a_name vs) = all_in ws vs
covers an_int an_int = true
covers a_float a_float = true
covers a_string_value a_string_value = true
covers _ _ = false

-- no token is admitted by both
abbrev apart : TokenClass → TokenClass → Bool
apart (a_punctuator k) (a_punctuator m) = not (pointwise nat_eq (punctuator_text k) (punctuator_text m))
apart (a_keyword w) (a_keyword s) = not (pointwise nat_eq w s)
apart (a_name ws) (a_keyword s) = is_one_of ws s
apart (a_keyword s) (a_name ws) = is_one_of ws s
apart (a_name ws) (a_name vs) = false
apart an_int an_int = false
apart a_float a_float = false
apart a_string_value a_string_value = false
apart _ _ = true

abbrev covered : List TokenClass → TokenClass → Bool
covered [] h = false
covered (k ∷ ks) h = covers k h || covered ks h

abbrev pub within : List TokenClass → List TokenClass → Bool
within [] ks = true
within (h ∷ hs) ks = covered ks h && within hs ks

abbrev apart_from : TokenClass → List TokenClass → Bool
apart_from h [] = true
apart_from h (k ∷ ks) = apart h k && apart_from h ks

abbrev pub all_apart : List TokenClass → List TokenClass → Bool
all_apart [] ks = true
all_apart (h ∷ hs) ks = apart_from h ks && all_apart hs ks

same_text : (a b : List ℕ) → pointwise nat_eq a b ≡ true → a ≡ b
same_text a b e = let d = bytes_eq-Decides a b in d.0 e

pub text_itself : (a : List ℕ) → pointwise nat_eq a a ≡ true
text_itself a = let d = bytes_eq-Decides a a in d.1 refl

is_one_of-text : (ws : List (List ℕ)) (w s : List ℕ) → pointwise nat_eq w s ≡ true →
    is_one_of ws w ≡ is_one_of ws s
is_one_of-text ws w s e = ap (is_one_of ws) (same_text w s e)

-- what one list has the other has
all_in-in : (vs ws : List (List ℕ)) (s : List ℕ) → all_in vs ws ≡ true → is_one_of vs s ≡ true →
    is_one_of ws s ≡ true
all_in-in [] ws s e h = cc
all_in-in (v ∷ vs) ws s e h =
    elim (or_cases (pointwise nat_eq v s) (is_one_of vs s) h) [
      | inl x ↦ sym (is_one_of-text ws v s x) ∙ first_holds (is_one_of ws v) (all_in vs ws) e
      | inr y ↦ all_in-in vs ws s (second_holds (is_one_of ws v) (all_in vs ws) e) y
    ]

covers-admits : (k h : TokenClass) (t : Token) → covers k h ≡ true → admits h t ≡ true →
    admits k t ≡ true
covers-admits (a_punctuator k) (a_punctuator m) (Punctuation x) e g =
    subst (λ y. pointwise nat_eq (punctuator_text k) y ≡ true) (same_text (punctuator_text m) (punctuator_text x) g) e
covers-admits (a_keyword w) (a_keyword s) (Name x) e g =
    subst (λ y. pointwise nat_eq w y ≡ true) (same_text s x g) e
covers-admits (a_name ws) (a_keyword s) (Name x) e g =
    subst (λ y. not (is_one_of ws y) ≡ true) (same_text s x g) e
covers-admits (a_name ws) (a_name vs) (Name x) e g =
    not_from_false _ (is_true (is_one_of vs x) (is_one_of ws x) (λ h. all_in-in ws vs x e h) (not-true _ g))
covers-admits an_int an_int (IntValue s) e g = refl
covers-admits a_float a_float (FloatValue s) e g = refl
covers-admits a_string_value a_string_value (StringValue s) e g = refl
covers-admits _ _ _ e g = cc

apart-admits : (t : Token) (k h : TokenClass) → apart k h ≡ true → admits h t ≡ true →
    admits k t ≡ false
apart-admits (Punctuation x) (a_punctuator k) (a_punctuator m) e g =
    subst (λ y. pointwise nat_eq (punctuator_text k) y ≡ false) (same_text (punctuator_text m) (punctuator_text x) g) (not-true _ e)
apart-admits (Name x) (a_keyword w) (a_keyword s) e g =
    subst (λ y. pointwise nat_eq w y ≡ false) (same_text s x g) (not-true _ e)
apart-admits (Name x) (a_name ws) (a_keyword s) e g =
    not_from_true _ (subst (λ y. is_one_of ws y ≡ true) (same_text s x g) e)
apart-admits (Name x) (a_keyword s) (a_name ws) e g =
    is_true (is_one_of ws x) (pointwise nat_eq s x) (λ h. sym (is_one_of-text ws s x h) ∙ e) (not-true _ g)
apart-admits (Name x) (a_name ws) (a_name vs) e g = cc
apart-admits (IntValue s) an_int an_int e g = cc
apart-admits (FloatValue s) a_float a_float e g = cc
apart-admits (StringValue s) a_string_value a_string_value e g = cc
apart-admits _ _ _ e g = cc

covered-admits : (ks : List TokenClass) (h : TokenClass) (t : Token) → covered ks h ≡ true →
    admits h t ≡ true → any_admits ks t ≡ true
covered-admits [] h t e g = cc
covered-admits (k ∷ ks) h t e g =
    elim (or_cases (covers k h) (covered ks h) e) [
      | inl x ↦ or_left (admits k t) (any_admits ks t) (covers-admits k h t x g)
      | inr y ↦ or_right (admits k t) (any_admits ks t) (covered-admits ks h t y g)
    ]

within-admits : (hs ks : List TokenClass) (t : Token) → within hs ks ≡ true →
    any_admits hs t ≡ true → any_admits ks t ≡ true
within-admits [] ks t e g = cc
within-admits (h ∷ hs) ks t e g =
    elim (or_cases (admits h t) (any_admits hs t) g) [
      | inl x ↦ covered-admits ks h t (first_holds (covered ks h) (within hs ks) e) x
      | inr y ↦ within-admits hs ks t (second_holds (covered ks h) (within hs ks) e) y
    ]

apart_from-admits : (h : TokenClass) (ks : List TokenClass) (t : Token) → apart_from h ks ≡ true →
    any_admits ks t ≡ true → admits h t ≡ false
apart_from-admits h [] t e g = cc
apart_from-admits h (k ∷ ks) t e g =
    elim (or_cases (admits k t) (any_admits ks t) g) [
      | inl x ↦ apart-admits t h k (first_holds (apart h k) (apart_from h ks) e) x
      | inr y ↦ apart_from-admits h ks t (second_holds (apart h k) (apart_from h ks) e) y
    ]

all_apart-admits : (hs ks : List TokenClass) (t : Token) → all_apart hs ks ≡ true →
    any_admits ks t ≡ true → any_admits hs t ≡ false
all_apart-admits [] ks t e g = refl
all_apart-admits (h ∷ hs) ks t e g =
    or_from (admits h t) (any_admits hs t)
    (apart_from-admits h ks t (first_holds (apart_from h ks) (all_apart hs ks) e) g)
    (all_apart-admits hs ks t (second_holds (apart_from h ks) (all_apart hs ks) e) g)

pub within-begins : (hs ks : List TokenClass) (ts : List Token) → within hs ks ≡ true →
    begins hs ts ≡ true → begins ks ts ≡ true
within-begins hs ks [] e g = g
within-begins hs ks (t ∷ ts) e g = within-admits hs ks t e g

-- what begins with none of the wider set begins with none of the narrower
pub within-none : (hs ks : List TokenClass) (ts : List Token) → within hs ks ≡ true →
    begins ks ts ≡ false → begins hs ts ≡ false
within-none hs ks ts e = is_true (begins ks ts) (begins hs ts) (within-begins hs ks ts e)

pub apart-begins : (hs ks : List TokenClass) (ts : List Token) → all_apart hs ks ≡ true →
    begins ks ts ≡ true → begins hs ts ≡ false
apart-begins hs ks [] e g = refl
apart-begins hs ks (t ∷ ts) e g = all_apart-admits hs ks t e g

all_in-more : (vs ws : List (List ℕ)) (w : List ℕ) → all_in vs ws ≡ true → all_in vs (w ∷ ws) ≡ true
all_in-more [] ws w e = refl
all_in-more (v ∷ vs) ws w e =
    rw (
      or_right (pointwise nat_eq w v) (is_one_of ws v) (first_holds (is_one_of ws v) (all_in vs ws) e),
      all_in-more vs ws w (second_holds (is_one_of ws v) (all_in vs ws) e),
    ) refl

all_in-refl : (vs : List (List ℕ)) → all_in vs vs ≡ true
all_in-refl [] = refl
all_in-refl (v ∷ vs) = rw (text_itself v) (all_in-more vs vs v (all_in-refl vs))

pub covers-refl : (h : TokenClass) → covers h h ≡ true
covers-refl (a_punctuator k) = text_itself (punctuator_text k)
covers-refl (a_keyword w) = text_itself w
covers-refl (a_name ws) = all_in-refl ws
covers-refl an_int = refl
covers-refl a_float = refl
covers-refl a_string_value = refl

pub within-more : (hs ks : List TokenClass) (k : TokenClass) → within hs ks ≡ true →
    within hs (k ∷ ks) ≡ true
within-more [] ks k e = refl
within-more (h ∷ hs) ks k e =
    rw (
      or_right (covers k h) (covered ks h) (first_holds (covered ks h) (within hs ks) e),
      within-more hs ks k (second_holds (covered ks h) (within hs ks) e),
    ) refl

pub within_refl : (hs : List TokenClass) → within hs hs ≡ true
within_refl [] = refl
within_refl (h ∷ hs) = rw (covers-refl h) (within-more hs hs h (within_refl hs))
