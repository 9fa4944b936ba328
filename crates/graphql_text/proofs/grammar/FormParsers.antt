-- Parsers over tokens, and that they find what a form derives.
use Rattle.std.proofs.Common.{ℕ, zero, suc, ◌≤◌, ◌≡◌, refl, sym, ap, ◌∙◌, subst, List, [], ◌∷◌, length, Bool, true, false, ◌&&◌, ◌⊎◌, inl}
use Rattle.std.proofs.Common.{inr, Option, Some, None, arith, ◌<◌, le_refl}
use Rattle.graphql_text.specs.lexical.Literals.{NameText}
use Rattle.graphql_text.specs.lexical.Tokens.{Punctuator, bang, dollar, amp, lparen, rparen, spread, colon, equals, at, lbracket, rbracket}
use Rattle.graphql_text.specs.lexical.Tokens.{lbrace, bar, rbrace, punctuator_text, Token, Punctuation, Name, IntValue, FloatValue}
use Rattle.graphql_text.specs.lexical.Tokens.{StringValue}
use Rattle.graphql_text.specs.grammar.Forms.{Form, token, no_tokens, ◌⨟◌, optional_token, optional, list_of, optional_group, name_except}
use Rattle.graphql_text.specs.grammar.Forms.{no_brace, only_if, either, never, nonempty_list_of, optional_braces, brace_follows, joined_by}
use Rattle.graphql_text.specs.grammar.Forms.{TokenClass, a_punctuator, a_keyword, a_name, admits, any_admits, begins, is_one_of}
use Rattle.std.proofs.lemmas.Bool.{or_cases, or_left, or_right, not_from_false}
use Rattle.graphql_text.proofs.general.BooleanTests.{first_holds, second_holds}
use Rattle.graphql_text.proofs.grammar.TokenClasses.{text_itself, covers-refl, within-begins, within-none, apart-begins, within-more}
pub use Rattle.graphql_text.proofs.grammar.TokenClasses.{within, all_apart, within_refl}
use Rattle.graphql_text.proofs.lexical.CheckedTexts.{checked_text, checked_text_found}

abbrev pub Parser : Type 0 → Type 0
Parser A = List Token → Option (A × List Token)

abbrev pub then_with : {A B : Type 0} → Option (A × List Token) → (A → Parser B) →
    Option (B × List Token)
then_with None f = None
then_with (Some p) f = f p.0 p.1

infixr 30 ◌>>=◌
unfoldable pub ◌>>=◌ : {A B : Type 0} → Parser A → (A → Parser B) → Parser B
◌>>=◌ p f ts = then_with (p ts) f

unfoldable pub pure : {A : Type 0} → A → Parser A
pure a ts = Some (a, ts)

unfoldable pub fail : {A : Type 0} → Parser A
fail ts = None

-- the next token, where a function takes it
abbrev pub took : {A : Type 0} → Option A → List Token → Option (A × List Token)
took None ts = None
took (Some a) ts = Some (a, ts)

unfoldable pub leaf : {A : Type 0} → (Token → Option A) → Parser A
leaf get [] = None
leaf get (t ∷ ts) = took (get t) ts

-- the first parser where the next token is one of these, else the second
unfoldable pub alt : {A : Type 0} → List TokenClass → Parser A → Parser A → Parser A
alt hs p q ts = elim (begins hs ts) [ true ↦ p ts | false ↦ q ts ]

-- What it is for a parser to find a form.

-- the form begins with one of these tokens and takes it, or it may be nothing and is
abbrev pub Opening : List TokenClass → Bool → List Token → List Token → Type 0
Opening hs n ts r = ((begins hs ts ≡ true) × (length r < length ts)) ⊎ ((n ≡ true) × (ts ≡ r))

-- the parser finds the tree of the form, with this tree and these tokens after it, on at most `k` tokens, where the
-- next token isn't one of `excluded`; the form begins with one of `first_tokens`, or may be nothing
pub record Reads {A : Type 0} (k : ℕ) (p : Parser A) (a : A) (f : Form) (excluded first_tokens : List TokenClass) (n : Bool) : Type 0 where
  pub finds : (ts r : List Token) → f ts r → length ts ≤ k → begins excluded r ≡ false →
      p ts ≡ Some (a, r)
  pub opens : (ts r : List Token) → f ts r → Opening first_tokens n ts r

abbrev pub also : List TokenClass → List TokenClass → List TokenClass
also [] ks = ks
also (h ∷ hs) ks = h ∷ also hs ks

abbrev pub joined : List TokenClass → Bool → List TokenClass → List TokenClass
joined hs true ks = also hs ks
joined hs false ks = hs

-- what may not follow the first part isn't what the second begins with, and is among what may not follow the second
-- where the second may be nothing
abbrev pub fits : List TokenClass → List TokenClass → Bool → List TokenClass → Bool
fits excluded first_tokens true then = all_apart excluded first_tokens && within excluded then
fits excluded first_tokens false then = all_apart excluded first_tokens

-- what stands between the first part and the rest, where the second part begins or is nothing
fits-none : (excluded first_tokens : List TokenClass) (n : Bool) (then : List TokenClass) (m r : List Token) →
    fits excluded first_tokens n then ≡ true → Opening first_tokens n m r → begins then r ≡ false → begins excluded m ≡ false
fits-none excluded first_tokens true then m r e (inl x) g =
    apart-begins excluded first_tokens m (first_holds (all_apart excluded first_tokens) (within excluded then) e) x.0
fits-none excluded first_tokens true then m r e (inr y) g =
    subst (λ z. begins excluded z ≡ false) (sym y.1) (within-none excluded then r (second_holds (all_apart excluded first_tokens) (within excluded then) e) g)
fits-none excluded first_tokens false then m r e (inl x) g = apart-begins excluded first_tokens m e x.0
fits-none excluded first_tokens false then m r e (inr y) g = cc (y.0)

also-0 : (hs ks : List TokenClass) (t : Token) → any_admits hs t ≡ true →
    any_admits (also hs ks) t ≡ true
also-0 [] ks t e = cc
also-0 (h ∷ hs) ks t e =
    elim (or_cases (admits h t) (any_admits hs t) e) [
      | inl x ↦ or_left (admits h t) (any_admits (also hs ks) t) x
      | inr y ↦ or_right (admits h t) (any_admits (also hs ks) t) (also-0 hs ks t y)
    ]

also-1 : (hs ks : List TokenClass) (t : Token) → any_admits ks t ≡ true →
    any_admits (also hs ks) t ≡ true
also-1 [] ks t e = e
also-1 (h ∷ hs) ks t e = or_right (admits h t) (any_admits (also hs ks) t) (also-1 hs ks t e)

joined-0 : (hs : List TokenClass) (n : Bool) (ks : List TokenClass) (ts : List Token) →
    begins hs ts ≡ true → begins (joined hs n ks) ts ≡ true
joined-0 hs true ks [] e = e
joined-0 hs true ks (t ∷ ts) e = also-0 hs ks t e
joined-0 hs false ks ts e = e

joined-1 : (hs : List TokenClass) (n : Bool) (ks : List TokenClass) (ts : List Token) → n ≡ true →
    begins ks ts ≡ true → begins (joined hs n ks) ts ≡ true
joined-1 hs true ks [] q e = e
joined-1 hs true ks (t ∷ ts) q e = also-1 hs ks t e
joined-1 hs false ks ts q e = cc

opening-seq : (L : List TokenClass) (n : Bool) (M : List TokenClass) (m : Bool) (ts u r : List Token) →
    Opening L n ts u → Opening M m u r → Opening (joined L n M) (n && m) ts r
opening-seq L n M m ts u r (inl x) (inl y) = inl (joined-0 L n M ts x.0, omega (arith, x.1, y.1))
opening-seq L n M m ts u r (inl x) (inr y) =
    inl (joined-0 L n M ts x.0, subst (λ z. length z < length ts) y.1 x.1)
opening-seq L n M m ts u r (inr x) (inl y) =
    inl (joined-1 L n M ts x.0 (subst (λ z. begins M z ≡ true) (sym x.1) y.0), subst (λ z. length r < length z) (sym x.1) y.1)
opening-seq L n M m ts u r (inr x) (inr y) = inr (rw (x.0, y.0) refl, x.1 ∙ y.1)

opening-le : (L : List TokenClass) (n : Bool) (ts r : List Token) → Opening L n ts r →
    length r ≤ length ts
opening-le L n ts r (inl x) = omega (arith, x.1)
opening-le L n ts r (inr y) = omega (arith, ap length y.1)

strict : (L : List TokenClass) (ts r : List Token) → Opening L false ts r → length r < length ts
strict L ts r (inl x) = x.1
strict L ts r (inr y) = cc (y.0)

then_with-some : {A B : Type 0} (x : Option (A × List Token)) (f : A → Parser B) (a : A) (m : List Token) (y : Option (B × List Token)) →
    x ≡ Some (a, m) → f a m ≡ y → then_with x f ≡ y
then_with-some x f a m y e g = rw e g

pub seq : {A B : Type 0} {k : ℕ} {p : Parser A} {a : A} {f : Form} {F L : List TokenClass} {n : Bool} (q : A → Parser B) {b : B} {g : Form}
    {G M : List TokenClass} {m : Bool} →
    Reads k p a f F L n → Reads k (q a) b g G M m → fits F M m G ≡ true → Reads k (p >>= q) b (f ⨟ g) G (joined L n M) (n && m)
unfolding ◌>>=◌ ◌⨟◌
seq {k} {p} {a} {f} {F} {L} {n} q {b} {g} {G} {M} {m} x y e = record {
  finds = λ ts r d le stop.
      let o : Opening L n ts d.0 = x.opens ts d.0 d.1 in
      let w : Opening M m d.0 r = y.opens d.0 r d.2 in
      let s : length d.0 ≤ length ts = opening-le L n ts d.0 o in
      then_with-some (p ts) q a d.0 (Some (b, r))
      (x.finds ts d.0 d.1 le (fits-none F M m G d.0 r e w stop))
      (y.finds d.0 r d.2 (omega (arith, s, le)) stop);
  opens = λ ts r d. opening-seq L n M m ts d.0 r (x.opens ts d.0 d.1) (y.opens d.0 r d.2);
}

-- the same where the first part takes a token, so that the second has one less to read
pub seq_in : {A B : Type 0} {k : ℕ} {p : Parser A} {a : A} {f : Form} {F L : List TokenClass} (q : A → Parser B) {b : B} {g : Form}
    {G M : List TokenClass} {m : Bool} →
    Reads (suc k) p a f F L false → Reads k (q a) b g G M m → fits F M m G ≡ true → Reads (suc k) (p >>= q) b (f ⨟ g) G L false
unfolding ◌>>=◌ ◌⨟◌
seq_in {k} {p} {a} {f} {F} {L} q {b} {g} {G} {M} {m} x y e = record {
  finds = λ ts r d le stop.
      let o : Opening L false ts d.0 = x.opens ts d.0 d.1 in
      let w : Opening M m d.0 r = y.opens d.0 r d.2 in
      let s : length d.0 < length ts = strict L ts d.0 o in
      then_with-some (p ts) q a d.0 (Some (b, r))
      (x.finds ts d.0 d.1 le (fits-none F M m G d.0 r e w stop))
      (y.finds d.0 r d.2 (omega (arith, s, le)) stop);
  opens = λ ts r d. opening-seq L false M m ts d.0 r (x.opens ts d.0 d.1) (y.opens d.0 r d.2);
}

-- the last part, after which the tree is made
pub last : {A B : Type 0} {k : ℕ} {p : Parser A} {a : A} {f : Form} {F L : List TokenClass} {n : Bool} (h : A → B) →
    Reads k p a f F L n → Reads k (p >>= λ x. pure (h x)) (h a) f F L n
unfolding ◌>>=◌ pure
last {p} {a} h x = record {
  finds =
      λ ts r d le stop. then_with-some (p ts) (λ x. pure (h x)) a r (Some (h a, r)) (x.finds ts r d le stop) refl;
  opens = x.opens;
}

pub leaf_reads : {A : Type 0} {k : ℕ} (get : Token → Option A) {a : A} (t : Token) (h : TokenClass) →
    get t ≡ Some a → admits h t ≡ true → Reads k (leaf get) a (token t) [] (h ∷ []) false
unfolding leaf token
leaf_reads {A} {k} get {a} t h e g = record {
  finds = λ ts r d le stop. rw d (rw e refl);
  opens = λ ts r d. inl (rw d (or_left _ _ g), rw d (omega arith));
}

-- the first of two
pub alt_0 : {A : Type 0} {k : ℕ} {p : Parser A} (q : Parser A) {a : A} {f : Form} {F L : List TokenClass} (hs : List TokenClass) →
    Reads k p a f F L false → within L hs ≡ true → Reads k (alt hs p q) a f F L false
unfolding alt
alt_0 {A} {k} {p} q {a} {f} {F} {L} hs x e = record {
  finds = λ ts r d le stop. chosen ts r (x.opens ts r d) (x.finds ts r d le stop);
  opens = x.opens;
}
  where
    chosen : (ts r : List Token) → Opening L false ts r → p ts ≡ Some (a, r) →
        alt hs p q ts ≡ Some (a, r)
    chosen ts r (inl o) i = rw (within-begins L hs ts e o.0, alt) i
    chosen ts r (inr o) i = cc (o.0)

-- the second, which may be nothing: then what may be read first may not follow
pub alt_1 : {A : Type 0} {k : ℕ} (p : Parser A) {q : Parser A} {a : A} {f : Form} {F L : List TokenClass} {n : Bool} (hs : List TokenClass) →
    Reads k q a f F L n → fits hs L n F ≡ true → Reads k (alt hs p q) a f F L n
unfolding alt
alt_1 {A} {k} p {q} {a} {f} {F} {L} {n} hs x e = record {
  finds =
      λ ts r d le stop. rw (fits-none hs L n F ts r e (x.opens ts r d) stop, alt) (x.finds ts r d le stop);
  opens = x.opens;
}

pub empty_reads : {A : Type 0} {k : ℕ} {a : A} → Reads k (pure a) a no_tokens [] [] true
unfolding pure no_tokens
empty_reads {A} {k} {a} = record {
  finds = λ ts r d le stop. ap (λ z. Some (a, z)) d;
  opens = λ ts r d. inr (refl, d);
}

-- more may be forbidden after a form, and more allowed at its beginning
pub wider : {A : Type 0} {k : ℕ} {p : Parser A} {a : A} {f : Form} {F F' L L' : List TokenClass} {n n' : Bool} →
    Reads k p a f F L n → within F F' ≡ true → within L L' ≡ true → (n ≡ true → n' ≡ true) → Reads k p a f F' L' n'
wider {A} {k} {p} {a} {f} {F} {F'} {L} {L'} {n} {n'} x e g h = record {
  finds = λ ts r d le stop. x.finds ts r d le (within-none F F' r e stop);
  opens = λ ts r d. wide ts r (x.opens ts r d);
}
  where
    wide : (ts r : List Token) → Opening L n ts r → Opening L' n' ts r
    wide ts r (inl o) = inl (within-begins L L' ts g o.0, o.1)
    wide ts r (inr o) = inr (h o.0, o.1)

-- more may be forbidden after a form
pub before : {A : Type 0} {k : ℕ} {p : Parser A} {a : A} {f : Form} {F : List TokenClass} (F' : List TokenClass) {L : List TokenClass} {n : Bool} →
    Reads k p a f F L n → within F F' ≡ true → Reads k p a f F' L n
before F' {L} x e = wider x e (within_refl L) (λ z. z)

-- the second, which is nothing
pub alt_empty : {A : Type 0} {k : ℕ} (p : Parser A) {a : A} (hs G L : List TokenClass) →
    within hs G ≡ true → Reads k (alt hs p (pure a)) a no_tokens G L true
unfolding alt pure no_tokens
alt_empty p {a} hs G L e = record {
  finds = λ ts r d le stop.
      let s : begins hs ts ≡ false = subst (λ z. begins hs z ≡ false) (sym d) (within-none hs G r e stop) in
      rw (s, alt) (ap (λ z. Some (a, z)) d);
  opens = λ ts r d. inr (refl, d);
}

-- a form that says no more
pub via : {A : Type 0} {k : ℕ} {p : Parser A} {a : A} {f g : Form} {F L : List TokenClass} {n : Bool} →
    ((ts r : List Token) → f ts r → g ts r) → Reads k p a g F L n → Reads k p a f F L n
via h x =
    record { finds = λ ts r d le stop. x.finds ts r (h ts r d) le stop; opens = λ ts r d. x.opens ts r (h ts r d) }

pub drop_empty : (f : Form) (ts r : List Token) → (no_tokens ⨟ f) ts r → f ts r
unfolding no_tokens ◌⨟◌
drop_empty f ts r d = subst (λ z. f z r) (sym d.1) d.2

pub add_empty : (f : Form) (ts r : List Token) → f ts r → (f ⨟ no_tokens) ts r
unfolding no_tokens ◌⨟◌
add_empty f ts r d = (r, d, refl)

pub regroup : (f g h : Form) (ts r : List Token) → ((f ⨟ g) ⨟ h) ts r → (f ⨟ (g ⨟ h)) ts r
unfolding ◌⨟◌
regroup f g h ts r d = (d.1.0, d.1.1, (d.0, d.1.2, d.2))

pub only_if_reads : {A : Type 0} {k : ℕ} {p : Parser A} {a : A} {P : Type 0} {f : Form} {F L : List TokenClass} {n : Bool} →
    (P → Reads k p a f F L n) → Reads k p a (only_if P f) F L n
unfolding only_if
only_if_reads h = record {
  finds = λ ts r d le stop. let x = h d.0 in x.finds ts r d.1 le stop;
  opens = λ ts r d. let x = h d.0 in x.opens ts r d.1;
}

pub either_reads : {A : Type 0} {k : ℕ} {p : Parser A} {a : A} {f g : Form} {F L : List TokenClass} {n : Bool} →
    Reads k p a f F L n → Reads k p a g F L n → Reads k p a (either f g) F L n
unfolding either
either_reads x y = record {
  finds =
      λ ts r d le stop. elim d [ inl u ↦ x.finds ts r u le stop | inr v ↦ y.finds ts r v le stop ];
  opens = λ ts r d. elim d [ inl u ↦ x.opens ts r u | inr v ↦ y.opens ts r v ];
}

pub never_reads : {A : Type 0} {k : ℕ} {p : Parser A} {a : A} {F L : List TokenClass} {n : Bool} →
    Reads k p a never F L n
unfolding never
never_reads = record { finds = λ ts r d le stop. absurd d; opens = λ ts r d. absurd d }

-- a tree that passes a test
unfoldable pub checked : {A : Type 0} → (A → Bool) → Parser A → Parser A
checked t p = p >>= λ a. elim (t a) [ true ↦ pure a | false ↦ fail ]

pub checked_reads : {A : Type 0} {k : ℕ} (t : A → Bool) {p : Parser A} {a : A} {f : Form} {F L : List TokenClass} {n : Bool} →
    t a ≡ true → Reads k p a f F L n → Reads k (checked t p) a f F L n
unfolding checked ◌>>=◌ pure
checked_reads t {p} {a} {f} {F} {L} {n} e x = record {
  finds =
      λ ts r d le stop. then_with-some (p ts) (λ a. elim (t a) [ true ↦ pure a | false ↦ fail ]) a r (Some (a, r)) (x.finds ts r d le stop) (rw e refl);
  opens = x.opens;
}

-- Two readings of one place.

both : (A : Type 0) (a b : A) (r s : List Token) →
    ◌≡◌ {A = Option (A × List Token)} (Some (a, r)) (Some (b, s)) → (a ≡ b) × (r ≡ s)
both A a b r s h = (ap got_0 h, ap got_1 h)
  where
    got_0 : Option (A × List Token) → A
    got_0 None = a
    got_0 (Some q) = q.0

    got_1 : Option (A × List Token) → List Token
    got_1 None = r
    got_1 (Some q) = q.1

-- the two trees and what follows them are the same
pub one_reading : {A : Type 0} {p : Parser A} {a b : A} {f g : Form} {F L : List TokenClass} {n : Bool} {ts r s : List Token} →
    Reads (length ts) p a f F L n → Reads (length ts) p b g F L n → f ts r → g ts s → begins F r ≡ false → begins F s ≡ false →
    (a ≡ b) × (r ≡ s)
one_reading {A} {p} {a} {b} {ts} {r} {s} x y d e u v =
    both A a b r s (sym (x.finds ts r d (le_refl _) u) ∙ y.finds ts s e (le_refl _) v)

-- what the parser does not find is not there
pub not_read : {A : Type 0} {p : Parser A} {a : A} {f : Form} {F L : List TokenClass} {n : Bool} {ts r : List Token} →
    Reads (length ts) p a f F L n → p ts ≡ None → begins F r ≡ false → ¬ (f ts r)
not_read {ts} {r} x e u d = cc (e, x.finds ts r d (le_refl _) u)

-- On fewer tokens.

pub lower : {A : Type 0} {j k : ℕ} {p : Parser A} {a : A} {f : Form} {F L : List TokenClass} {n : Bool} →
    j ≤ k → Reads k p a f F L n → Reads j p a f F L n
lower le x =
    record { finds = λ ts r d l stop. x.finds ts r d (omega (arith, le, l)) stop; opens = x.opens }

-- a parser that is given the number of tokens as a bound
unfoldable pub bounded : {A : Type 0} → (ℕ → Parser A) → Parser A
bounded q ts = q (length ts) ts

pub bounded_reads : {A : Type 0} {k : ℕ} (q : ℕ → Parser A) {a : A} {f : Form} {F L : List TokenClass} {n : Bool} →
    ((j : ℕ) → j ≤ k → Reads j (q j) a f F L n) → Reads k (bounded q) a f F L n
unfolding bounded
bounded_reads q h = record {
  finds = λ ts r d le stop. let x = h (length ts) le in x.finds ts r d (le_refl (length ts)) stop;
  opens = λ ts r d. let x = h 0 (omega arith) in x.opens ts r d;
}

-- a form that takes a token isn't there at all on no token
pub at_zero : {A B : Type 0} {k : ℕ} {p : Parser A} {a : A} {f : Form} {F L : List TokenClass} {g : Form} {G M : List TokenClass} {m : Bool}
    {q q' : Parser B} {b b' : B} →
    Reads k p a f F L false → Reads k q b g G M m → Reads 0 q' b' (f ⨟ g) G L false
unfolding ◌⨟◌
at_zero {L} {M} {m} x y = record {
  finds = λ ts r d le stop. absurd (omega (arith, strict L ts d.0 (x.opens ts d.0 d.1), le));
  opens = λ ts r d. opening-seq L false M m ts d.0 r (x.opens ts d.0 d.1) (y.opens d.0 r d.2);
}

-- Parts that may be there or not, and many parts.

unfoldable pub many : {A B : Type 0} → B → (A → B → B) → List TokenClass → ℕ → Parser A → Parser B
many none more hs zero p = alt hs fail (pure none)
many none more hs (suc k) p =
    alt hs (p >>= λ a. many none more hs k p >>= λ b. pure (more a b)) (pure none)

pub many_none : {A B : Type 0} {j : ℕ} (none : B) (more : A → B → B) (hs : List TokenClass) (k : ℕ) (p : Parser A) →
    Reads j (many none more hs k p) none no_tokens hs [] true
unfolding many
many_none none more hs zero p = alt_empty _ hs hs [] (within_refl hs)
many_none none more hs (suc k) p = alt_empty _ hs hs [] (within_refl hs)

pub many_more : {A B : Type 0} {k : ℕ} (none : B) (more : A → B → B) (hs : List TokenClass) (p : Parser A) {a : A} {b : B} {f g : Form}
    {F L G M : List TokenClass} {m : Bool} →
    Reads (suc k) p a f F L false → Reads k (many none more hs k p) b g G M m → within L hs ≡ true → fits F M m G ≡ true →
    Reads (suc k) (many none more hs (suc k) p) (more a b) (f ⨟ g) G L false
unfolding many
many_more none more hs p x y e g = alt_0 _ hs (seq_in _ x (last _ y) g) e

unfoldable pub parse_each : {A : Type 0} → List TokenClass → Parser A → Parser (List A)
parse_each {A} hs p = bounded (λ k. many [] (λ (a : A) more. a ∷ more) hs k p)

each_bounded : {A : Type 0} {k : ℕ} (p : Parser A) (f : A → Form) (F L G : List TokenClass) →
    ((a : A) → Reads k p a (f a) F L false) → within L G ≡ true → fits F L true G ≡ true →
    (more : List A) (j : ℕ) → j ≤ k → Reads j (many [] (λ (a : A) more. a ∷ more) L j p) more (list_of f more) G L true
each_bounded p f F L G x e g [] j le = wider (many_none _ _ L j p) e refl (λ z. refl)
each_bounded p f F L G x e g (a ∷ more) zero le =
    wider (at_zero (lower le (x a)) (each_bounded p f F L G x e g more zero le)) (within_refl G) (within_refl L) (λ z. refl)
each_bounded p f F L G x e g (a ∷ more) (suc j) le =
    wider (many_more _ _ L p (lower le (x a)) (each_bounded p f F L G x e g more j (omega (arith, le))) (within_refl L) g) (within_refl G)
    (within_refl L) (λ z. refl)

pub each_reads : {A : Type 0} {k : ℕ} (p : Parser A) (f : A → Form) {F L : List TokenClass} (G : List TokenClass) →
    ((a : A) → Reads k p a (f a) F L false) → within L G ≡ true → fits F L true G ≡ true →
    (more : List A) → Reads k (parse_each L p) more (list_of f more) G L true
unfolding parse_each
each_reads p f {F} {L} G x e g more =
    bounded_reads _ (λ j le. each_bounded p f F L G x e g more j le)

unfoldable pub parse_maybe : {A : Type 0} → List TokenClass → Parser A → Parser (Option A)
parse_maybe hs p = alt hs (p >>= λ a. pure (Some a)) (pure None)

pub maybe_reads : {A : Type 0} {k : ℕ} {p : Parser A} (f : A → Form) {F L : List TokenClass} (G : List TokenClass) →
    ((a : A) → Reads k p a (f a) F L false) → within L G ≡ true → within F G ≡ true →
    (o : Option A) → Reads k (parse_maybe L p) o (optional f o) G L true
unfolding parse_maybe
maybe_reads f {F} {L} G x e g None = alt_empty _ L G L e
maybe_reads f {F} {L} G x e g (Some a) =
    wider (alt_0 _ L (last _ (x a)) (within_refl L)) g (within_refl L) (λ z. refl)

-- Leaves.

unfoldable pub accepted : Bool → Token → Option Token
accepted true t = Some t
accepted false t = None

unfoldable pub accept : TokenClass → Parser Token
accept h = leaf (λ t. accepted (admits h t) t)

pub accept_reads : {k : ℕ} (h : TokenClass) (t : Token) → admits h t ≡ true →
    Reads k (accept h) t (token t) [] (h ∷ []) false
unfolding accept accepted
accept_reads h t e = leaf_reads _ t h (rw e refl) e

pub mark_reads : {k : ℕ} (m : Punctuator) →
    Reads k (accept (a_punctuator m)) (Punctuation m) (token (Punctuation m)) [] (a_punctuator m ∷ []) false
mark_reads m = accept_reads (a_punctuator m) (Punctuation m) (text_itself (punctuator_text m))

pub word_reads : {k : ℕ} (w : List ℕ) →
    Reads k (accept (a_keyword w)) (Name w) (token (Name w)) [] (a_keyword w ∷ []) false
word_reads w = accept_reads (a_keyword w) (Name w) (text_itself w)

unfoldable pub named : List (List ℕ) → Token → Option NameText
named ws (Name s) = elim (is_one_of ws s) [ true ↦ None | false ↦ checked_text s ]
named ws _ = None

unfoldable pub parse_name : List (List ℕ) → Parser NameText
parse_name ws = leaf (named ws)

named_found : (ws : List (List ℕ)) (s : NameText) → is_one_of ws s.text ≡ false →
    named ws (Name s.text) ≡ Some s
unfolding named
named_found ws s e = rw (e, named) (checked_text_found s)

pub name_reads : {k : ℕ} (ws : List (List ℕ)) (s : NameText) →
    Reads k (parse_name ws) s (name_except ws s) [] (a_name ws ∷ []) false
unfolding parse_name leaf name_except
name_reads ws s = record {
  finds = λ ts r d le stop. rw d.1 (rw (named_found ws s d.0) refl);
  opens = λ ts r d. inl (rw d.1 (or_left _ _ (not_from_false _ d.0)), rw d.1 (omega arith));
}

unfoldable pub parse_optional : TokenClass → Parser Bool
parse_optional h = alt (h ∷ []) (accept h >>= λ t. pure true) (pure true)

-- at least one part
unfoldable pub parse_some : {A : Type 0} → List TokenClass → Parser A → Parser (List A)
parse_some hs p = p >>= λ a. parse_each hs p >>= λ more. pure (a ∷ more)

-- brackets
unfoldable pub parse_group : {A : Type 0} → Punctuator → List TokenClass → Parser A → Punctuator →
    Parser (List A)
parse_group o hs p c =
    alt (a_punctuator o ∷ [])
    (accept (a_punctuator o) >>= λ t. p >>= λ a. parse_each hs p >>= λ more. accept (a_punctuator c) >>= λ u. pure (a ∷ more)) (pure [])

pub group_reads : {A : Type 0} {k : ℕ} {p : Parser A} (f : A → Form) {F L : List TokenClass} (G : List TokenClass) (o c : Punctuator) →
    ((a : A) → Reads k p a (f a) F L false) → within L G ≡ true → fits F L true G ≡ true →
    all_apart F (also L (a_punctuator c ∷ [])) ≡ true → all_apart G (a_punctuator c ∷ []) ≡ true →
    (more : List A) → Reads k (parse_group o L p c) more (optional_group o f c more) (a_punctuator o ∷ []) (a_punctuator o ∷ []) true
unfolding parse_group
group_reads f {F} {L} G o c x e g i h [] =
    alt_empty _ (a_punctuator o ∷ []) (a_punctuator o ∷ []) (a_punctuator o ∷ []) (within_refl (a_punctuator o ∷ []))
group_reads f {F} {L} G o c x e g i h (a ∷ more) =
    wider (alt_0 _ (a_punctuator o ∷ [])
    (seq _ (mark_reads o) (seq _ (x a) (seq _ (each_reads _ f G x e g more) (last _ (mark_reads c)) h) i) refl)
    (within_refl (a_punctuator o ∷ []))) refl (within_refl (a_punctuator o ∷ [])) (λ z. refl)

pub some_reads : {A : Type 0} {k : ℕ} {p : Parser A} (f : A → Form) {F L : List TokenClass} (G : List TokenClass) →
    ((a : A) → Reads k p a (f a) F L false) → within L G ≡ true → fits F L true G ≡ true →
    (more : List A) → Reads k (parse_some L p) more (nonempty_list_of f more) G L false
unfolding parse_some
some_reads f G x e g [] = never_reads
some_reads f {F} {L} G x e g (a ∷ more) = seq _ (x a) (last _ (each_reads _ f G x e g more)) g

-- `{` follows exactly where the tokens begin with it
pub brace_begins : (ts : List Token) → brace_follows ts ≡ begins (a_punctuator lbrace ∷ []) ts
brace_begins [] = refl
brace_begins (Punctuation bang ∷ ts) = refl
brace_begins (Punctuation dollar ∷ ts) = refl
brace_begins (Punctuation amp ∷ ts) = refl
brace_begins (Punctuation lparen ∷ ts) = refl
brace_begins (Punctuation rparen ∷ ts) = refl
brace_begins (Punctuation spread ∷ ts) = refl
brace_begins (Punctuation colon ∷ ts) = refl
brace_begins (Punctuation equals ∷ ts) = refl
brace_begins (Punctuation at ∷ ts) = refl
brace_begins (Punctuation lbracket ∷ ts) = refl
brace_begins (Punctuation rbracket ∷ ts) = refl
brace_begins (Punctuation lbrace ∷ ts) = refl
brace_begins (Punctuation bar ∷ ts) = refl
brace_begins (Punctuation rbrace ∷ ts) = refl
brace_begins (Name text ∷ ts) = refl
brace_begins (IntValue text ∷ ts) = refl
brace_begins (FloatValue text ∷ ts) = refl
brace_begins (StringValue text ∷ ts) = refl

pub braced_reads : {A : Type 0} {k : ℕ} {p : Parser A} (f : A → Form) {F L : List TokenClass} (G : List TokenClass) →
    ((a : A) → Reads k p a (f a) F L false) → within L G ≡ true → fits F L true G ≡ true →
    all_apart F (also L (a_punctuator rbrace ∷ [])) ≡ true → all_apart G (a_punctuator rbrace ∷ []) ≡ true →
    (more : List A) → Reads k (parse_group lbrace L p rbrace) more (optional_braces f more) [] (a_punctuator lbrace ∷ []) true
unfolding parse_group no_brace alt pure
braced_reads f {F} {L} G x e g i h [] = record {
  finds = λ ts r d le stop.
      let s : begins (a_punctuator lbrace ∷ []) ts ≡ false = subst (λ z. begins (a_punctuator lbrace ∷ []) z ≡ false) (sym d.0) (sym (brace_begins r) ∙ d.1) in
      rw (s, alt) (ap (λ z. Some ([], z)) d.0);
  opens = λ ts r d. inr (refl, d.0);
}
braced_reads f {F} {L} G x e g i h (a ∷ more) =
    wider (alt_0 _ (a_punctuator lbrace ∷ [])
    (seq _ (mark_reads lbrace) (seq _ (x a) (seq _ (each_reads _ f G x e g more) (last _ (mark_reads rbrace)) h) i) refl)
    refl) refl refl (λ z. refl)

pub optional_reads : {k : ℕ} (h : TokenClass) (t : Token) → admits h t ≡ true →
    Reads k (parse_optional h) true (optional_token t) (h ∷ []) (h ∷ []) true
unfolding parse_optional optional_token either no_tokens token
optional_reads {k} h t e =
    let x = alt_0 {k = k} (pure true) (h ∷ []) (last (λ (u : Token). true) (accept_reads h t e)) (within_refl (h ∷ [])) in
    let y = alt_empty {k = k} (accept h >>= λ t. pure true) {a = true} (h ∷ []) (h ∷ []) (h ∷ []) (within_refl (h ∷ [])) in
    either_reads (via (nothing) y) (wider x refl (within_refl (h ∷ [])) (λ z. refl))
  where
    nothing : (ts r : List Token) → ts ≡ r → no_tokens ts r
    nothing ts r d = d

unfoldable pub parse_joined : {A : Type 0} → TokenClass → Punctuator → Parser A → Parser (List A)
parse_joined h s p =
    alt (h ∷ [])
    (accept h
    >>= λ t.
    parse_optional (a_punctuator s)
    >>= λ u. p >>= λ a. parse_each (a_punctuator s ∷ []) (accept (a_punctuator s) >>= λ t. p) >>= λ more. pure (a ∷ more))
    (pure [])

pub joined_reads : {A : Type 0} {k : ℕ} {p : Parser A} (f : A → Form) {L : List TokenClass} (h : TokenClass) (t : Token) (s : Punctuator) →
    ((a : A) → Reads k p a (f a) [] L false) → admits h t ≡ true → all_apart (a_punctuator s ∷ []) L ≡ true →
    (more : List A) → Reads k (parse_joined h s p) more (joined_by t s f more) (h ∷ a_punctuator s ∷ []) (h ∷ []) true
unfolding parse_joined
joined_reads f {L} h t s x e g [] =
    alt_empty _ (h ∷ []) (h ∷ a_punctuator s ∷ []) (h ∷ []) (rw (covers-refl h) refl)
joined_reads f {L} h t s x e g (a ∷ more) =
    wider (alt_0 _ (h ∷ [])
    (seq _ (accept_reads h t e) (seq _ (optional_reads (a_punctuator s) (Punctuation s) (covers-refl (a_punctuator s)))
    (seq _ (x a) (last _
    (each_reads _ _ (a_punctuator s ∷ []) (λ b. seq _ (mark_reads s) (x b) refl) (within_refl (a_punctuator s ∷ [])) refl more))
    refl) g) refl)
    (within_refl (h ∷ []))) (within-more (a_punctuator s ∷ []) (a_punctuator s ∷ []) h (within_refl (a_punctuator s ∷ []))) (within_refl (h ∷ [])) (λ z. refl)
