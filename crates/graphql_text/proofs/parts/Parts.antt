-- Parts of kinds, and how a kind is put together of them: what its laws need is told once, part by part.
use Rattle.std.proofs.Common.{ℕ, max, refl, subst, sym, ◌≡◌, inl, inr, Bool, true, false, if◌then◌else◌, not, ◌&&◌, List, [], ◌∷◌, ◌++◌}
use Rattle.std.proofs.Common.{Option, Some, None, IsTrue}
use Rattle.graphql_base.specs.Names.{is_name}
use Rattle.graphql_text.specs.lexical.Literals.{NameText}
use Rattle.graphql_text.specs.lexical.Tokens.{Punctuator, Token, Punctuation, Name}
use Rattle.graphql_text.specs.grammar.Forms.{Form, TokenClass, a_punctuator, a_keyword, a_name, token, keyword, ◌⨟◌, name_except, only_if}
use Rattle.graphql_text.specs.grammar.Forms.{no_tokens, optional, begins, is_one_of}
use Rattle.graphql_text.specs.kinds.Kinds.{Kind}
use Rattle.graphql_text.specs.layout.Layout.{Item, Word, Space, flat, lowers, raises}
use Rattle.graphql_text.specs.grammar.OneReading.{IsReadOneWay}
use Rattle.graphql_text.specs.parts.PrintedParts.{PrintedTokensDerive, PrintedTokensDeriveBefore}
use Rattle.graphql_text.specs.parts.Optional.{optional_shape, optional_nesting, optional_obeys}
use Rattle.graphql_text.specs.layout.Spelling.{punctuator_leaves_room}
use Rattle.graphql_text.proofs.layout.BracketsByParts.{Passes, punctuator_effect}
use Rattle.graphql_text.proofs.grammar.FormParsers.{Parser, Reads, Opening, ◌>>=◌, pure, seq, last, accept, mark_reads, word_reads}
use Rattle.graphql_text.proofs.grammar.FormParsers.{parse_name, name_reads, parse_maybe, maybe_reads, fits, joined, checked, checked_reads}
use Rattle.graphql_text.proofs.grammar.FormParsers.{only_if_reads, one_reading, before, within, within_refl, also}
use Rattle.graphql_text.proofs.parts.PartTokens.{Tail, optional_tokens}
use Rattle.graphql_text.proofs.parts.ToldShapes.{Told, told_then, told_after, told_as, told_mark, told_name, told_word, told_space}
use Rattle.graphql_text.proofs.parts.ToldShapes.{told_flat, told_nothing, told_balanced, told_derives}
use Rattle.graphql_text.proofs.general.BooleanTests.{first_holds, second_holds, both_hold, false_of, not_of}

-- A part: its tokens and its reader, and that they fit its grammar, its layout, its nesting and its side conditions. It is printed where
-- what follows begins with none of `stop`, and read where what follows begins with none of `excluded`. It begins with one of `first`, or may
-- be `empty`; `opens` says that it may stand right behind a word.
pub record Part {A : Type 0} (form : A → Form) (shape : Bool → A → List Item) (nesting : A → ℕ) (obeys : A → Bool)
    (excluded first : List TokenClass) (empty : Bool) (stop : List TokenClass) (opens : Bool) : Type 0 where
  pub tokens : A → Tail
  pub parser : Parser A
  pub told : (broken : Bool) (a : A) → Told 0 (shape broken a) (tokens a) opens (nesting a)
  pub read : (k : ℕ) (a : A) → Reads k parser a (form a) excluded first empty
  pub written : (a : A) → IsTrue (obeys a) → (rest : List Token) → begins stop rest ≡ false → form a (tokens a rest) rest
  pub obeyed : (a : A) (ts rest : List Token) → form a ts rest → IsTrue (obeys a)

-- a tree of a kind as a part of others
abbrev pub KindPart : (kind : Kind) → List TokenClass → List TokenClass → Bool → List TokenClass → Bool → Type 0
KindPart kind = Part kind.form (λ broken tree. kind.shape broken false tree) kind.nesting kind.obeys

-- a part raises the level as often as it lowers it
pub part_balanced : {A : Type 0} {f : A → Form} {s : Bool → A → List Item} {n : A → ℕ} {o : A → Bool} {F L : List TokenClass} {b : Bool}
    {S : List TokenClass} {opens : Bool} →
    Part f s n o F L b S opens →
    (broken : Bool) (a : A) → raises (s broken a) ≡ lowers (s broken a)
part_balanced p broken a = told_balanced (p.told broken a)

-- ONE AFTER ANOTHER

pub begins_none : (rest : List Token) → begins [] rest ≡ false
begins_none [] = refl
begins_none (t ∷ rest) = refl

-- what may not follow a part and then another, which may be empty or not
abbrev pub after : List TokenClass → Bool → List TokenClass → List TokenClass
after F c G = if c then also F G else G

-- whether the second part may follow the first
abbrev pub may_follow : List TokenClass → List TokenClass → Bool → List TokenClass → Bool
may_follow F M c G = fits F M c (after F c G) && within G (after F c G)

pub fits_all : (L : List TokenClass) (b : Bool) (F : List TokenClass) → fits [] L b F ≡ true
fits_all L true F = refl
fits_all L false F = refl

module _ {A B : Type 0} {f : A → Form} {s : Bool → A → List Item} {F L : List TokenClass} {b opens : Bool} {g : B → Form}
    {t : Bool → B → List Item} {m : B → ℕ} {q : B → Bool} {G M Z : List TokenClass} {c : Bool} where
  -- one part and then another
  unfoldable pub part_then : {n : A → ℕ} {o : A → Bool} → Part f s n o F L b [] opens → Part g t m q G M c Z true → may_follow F M c G ≡ true →
      Part (λ (x : A × B). f x.0 ⨟ g x.1) (λ broken x. s broken x.0 ++ t broken x.1) (λ x. max (n x.0) (m x.1)) (λ x. o x.0 && q x.1)
      (after F c G) (joined L b M) (b && c) Z opens
  unfolding ◌⨟◌
  part_then {n} {o} p r e = record {
    tokens = λ x rest. p.tokens x.0 (r.tokens x.1 rest);
    parser = p.parser >>= λ a. r.parser >>= λ c. pure (a, c);
    told = λ broken x. told_then (p.told broken x.0) (r.told broken x.1);
    read = λ k x. seq _ (p.read k x.0) (last _ (before (after F c G) (r.read k x.1) (second_holds _ _ e))) (first_holds _ _ e);
    written = λ x holds rest stops. (
      _,
      p.written x.0 (first_holds (o x.0) (q x.1) holds) _ (begins_none _),
      r.written x.1 (second_holds (o x.0) (q x.1) holds) rest stops,
    );
    obeyed = λ x ts rest d. both_hold (o x.0) (q x.1) (p.obeyed x.0 _ _ d.1) (r.obeyed x.1 _ _ d.2);
  }

  -- a part without groups and side conditions, and then another
  unfoldable pub plain_then : Part f s (λ a. 0) (λ a. true) F L b [] opens → Part g t m q G M c Z true → may_follow F M c G ≡ true →
      Part (λ (x : A × B). f x.0 ⨟ g x.1) (λ broken x. s broken x.0 ++ t broken x.1) (λ x. m x.1) (λ x. q x.1) (after F c G) (joined L b M) (b && c) Z opens
  unfolding ◌⨟◌
  plain_then p r e = record {
    tokens = λ x rest. p.tokens x.0 (r.tokens x.1 rest);
    parser = p.parser >>= λ a. r.parser >>= λ c. pure (a, c);
    told = λ broken x. told_after (p.told broken x.0) (r.told broken x.1);
    read = λ k x. seq _ (p.read k x.0) (last _ (before (after F c G) (r.read k x.1) (second_holds _ _ e))) (first_holds _ _ e);
    written = λ x holds rest stops. (_, p.written x.0 refl _ (begins_none _), r.written x.1 holds rest stops);
    obeyed = λ x ts rest d. r.obeyed x.1 _ _ d.2;
  }

-- a name alone
unfoldable pub name_part : Part (name_except []) (λ broken (name : NameText). Word (Name name.text) ∷ []) (λ name. 0) (λ name. true) []
    (a_name [] ∷ []) false [] false
unfolding name_except
name_part = record {
  tokens = λ name rest. Name name.text ∷ rest;
  parser = parse_name [];
  told = λ broken name. told_name name told_nothing;
  read = λ k. name_reads [];
  written = λ name holds rest stops. (refl, refl);
  obeyed = λ name ts rest d. refl;
}

module _ {A : Type 0} {f : A → Form} {s : Bool → A → List Item} {n : A → ℕ} {o : A → Bool} {F L : List TokenClass} {b : Bool} {S : List TokenClass} where
  -- a name other than some words before a part
  unfoldable pub name_then : (words : List (List ℕ)) → Part f s n o F L b S true →
      Part (λ (x : NameText × A). name_except words x.0 ⨟ f x.1) (λ broken x. Word (Name x.0.text) ∷ s broken x.1) (λ x. n x.1)
      (λ x. not (is_one_of words x.0.text) && o x.1) F (a_name words ∷ []) false S false
  unfolding name_except ◌⨟◌
  name_then words p = record {
    tokens = λ x rest. Name x.0.text ∷ p.tokens x.1 rest;
    parser = parse_name words >>= λ name. p.parser >>= λ a. pure (name, a);
    told = λ broken x. told_name x.0 (p.told broken x.1);
    read = λ k x. seq _ (name_reads words x.0) (last _ (p.read k x.1)) (fits_all L b F);
    written = λ x holds rest stops.
        let other = is_one_of words x.0.text in
        (_, (false_of other (first_holds (not other) (o x.1) holds), refl), p.written x.1 (second_holds (not other) (o x.1) holds) rest stops);
    obeyed = λ x ts rest d. both_hold (not (is_one_of words x.0.text)) (o x.1) (not_of _ d.1.0) (p.obeyed x.1 _ _ d.2);
  }

  -- a word of the grammar before a part
  unfoldable pub word_then : (text : List ℕ) → is_name text ≡ true → Part f s n o F L b S true →
      Part (λ a. keyword text ⨟ f a) (λ broken a. Word (Name text) ∷ s broken a) n o F (a_keyword text ∷ []) false S false
  unfolding token ◌⨟◌
  word_then text is p = record {
    tokens = λ a rest. Name text ∷ p.tokens a rest;
    parser = accept (a_keyword text) >>= λ t. p.parser;
    told = λ broken a. told_word text is (p.told broken a);
    read = λ k a. seq _ (word_reads text) (p.read k a) (fits_all L b F);
    written = λ a holds rest stops. (_, refl, p.written a holds rest stops);
    obeyed = λ a ts rest d. p.obeyed a _ _ d.2;
  }

  -- a punctuator that is no bracket before a part
  unfoldable pub mark_then : {opens : Bool} (mark : Punctuator) → punctuator_effect mark ≡ Passes → Part f s n o F L b S opens →
      Part (λ a. token (Punctuation mark) ⨟ f a) (λ broken a. Word (Punctuation mark) ∷ s broken a) n o F (a_punctuator mark ∷ []) false S
      (punctuator_leaves_room mark)
  unfolding token ◌⨟◌
  mark_then mark passes p = record {
    tokens = λ a rest. Punctuation mark ∷ p.tokens a rest;
    parser = accept (a_punctuator mark) >>= λ t. p.parser;
    told = λ broken a. told_mark mark passes (p.told broken a);
    read = λ k a. seq _ (mark_reads mark) (p.read k a) (fits_all L b F);
    written = λ a holds rest stops. (_, refl, p.written a holds rest stops);
    obeyed = λ a ts rest d. p.obeyed a _ _ d.2;
  }

module _ {A : Type 0} {f : A → Form} {s : Bool → A → List Item} {n : A → ℕ} {o : A → Bool} {F L : List TokenClass} {b : Bool}
    {S : List TokenClass} {opens : Bool} where
  -- a space before a part
  unfoldable pub space_then : Part f s n o F L b S opens → Part f (λ broken a. Space ∷ s broken a) n o F L b S true
  space_then p = record {
    tokens = p.tokens;
    parser = p.parser;
    told = λ broken a. told_space (p.told broken a);
    read = p.read;
    written = p.written;
    obeyed = p.obeyed;
  }

  -- a part after which more is excluded
  unfoldable pub excluding : (more : List TokenClass) → Part f s n o F L b S opens → within F more ≡ true → Part f s n o more L b S opens
  excluding more p e = record {
    tokens = p.tokens;
    parser = p.parser;
    told = p.told;
    read = λ k a. before more (p.read k a) e;
    written = p.written;
    obeyed = p.obeyed;
  }

  -- a part under a condition
  unfoldable pub under : (test : A → Bool) → Part f s n o F L b S opens → Part (λ a. only_if (IsTrue (test a)) (f a)) s n (λ a. test a && o a) F L b S opens
  unfolding only_if
  under test p = record {
    tokens = p.tokens;
    parser = checked test p.parser;
    told = p.told;
    read = λ k a. only_if_reads (λ is. checked_reads test is (p.read k a));
    written = λ a holds rest stops. (first_holds (test a) (o a) holds, p.written a (second_holds (test a) (o a) holds) rest stops);
    obeyed = λ a ts rest d. both_hold (test a) (o a) d.0 (p.obeyed a ts rest d.1);
  }

  -- the nesting and the side conditions told in another way
  unfoldable pub restated : {m : A → ℕ} {r : A → Bool} → ((a : A) → n a ≡ m a) → ((a : A) → o a ≡ r a) → Part f s n o F L b S opens → Part f s m r F L b S opens
  restated nests same p = record {
    tokens = p.tokens;
    parser = p.parser;
    told = λ broken a. told_as (nests a) (p.told broken a);
    read = p.read;
    written = λ a holds. p.written a (subst IsTrue (sym (same a)) holds);
    obeyed = λ a ts rest d. subst IsTrue (same a) (p.obeyed a ts rest d);
  }

  -- a part told as another tree
  unfoldable pub retold : {B : Type 0} (to : A → B) (from : B → A) → ((tree : B) → to (from tree) ≡ tree) → Part f s n o F L b S opens →
      Part (λ tree. f (from tree)) (λ broken tree. s broken (from tree)) (λ tree. n (from tree)) (λ tree. o (from tree)) F L b S opens
  retold {B} to from same p = record {
    tokens = λ tree. p.tokens (from tree);
    parser = p.parser >>= λ a. pure (to a);
    told = λ broken tree. p.told broken (from tree);
    read = λ k tree. subst (λ t. Reads k (p.parser >>= λ a. pure (to a)) t (f (from tree)) F L b) (same tree) (last to (p.read k (from tree)));
    written = λ tree. p.written (from tree);
    obeyed = λ tree. p.obeyed (from tree);
  }

  -- a part that is told as it stands on one line
  unfoldable pub unbroken : Part f s n o F L b S opens → Part f (λ broken a. s false a) n o F L b S opens
  unbroken p = record { tokens = p.tokens; parser = p.parser; told = λ broken a. p.told false a; read = p.read; written = p.written; obeyed = p.obeyed }

  -- a part that stands on one line in every layout
  unfoldable pub flat_part : Part f s n o F L b S opens → Part f (λ broken a. flat (s false a)) n o F L b S opens
  flat_part p = record {
    tokens = p.tokens;
    parser = p.parser;
    told = λ broken a. told_flat (p.told false a);
    read = p.read;
    written = p.written;
    obeyed = p.obeyed;
  }

  -- what is printed of it derives it, before whatever may follow
  pub part_derives : Part f s n o F L b S opens → PrintedTokensDeriveBefore f s o S
  part_derives p broken a holds rest stops = told_derives (f a) rest (p.told broken a) (p.written a holds rest stops)

  -- it is read in one way
  pub part_one_way : Part f s n o F L b S opens → IsReadOneWay f F
  part_one_way p x y ts r r' d e stop stop' = one_reading (p.read _ x) (p.read _ y) d e stop stop'

  -- before tokens that it doesn't begin with it is nothing
  pub nothing_there : (p : Part f s n o F L b S opens) (a : A) (tokens : List Token) → begins L tokens ≡ false → (ts rest : List Token) →
      ts ≡ tokens → f a ts rest → (b ≡ true) × (ts ≡ rest)
  nothing_there p a tokens e ts rest is d = opening (let x = p.read 0 a in x.opens ts rest d)
    where
      opening : Opening L b ts rest → (b ≡ true) × (ts ≡ rest)
      opening (inl x) = cc (x.0, e, is)
      opening (inr y) = y

-- What is printed of a part that may stand before everything derives it, whatever follows.
pub part_always_derives :
    {A : Type 0} {f : A → Form} {s : Bool → A → List Item} {n : A → ℕ} {o : A → Bool} {F L : List TokenClass} {b opens : Bool} →
    Part f s n o F L b [] opens → PrintedTokensDerive f s o
part_always_derives p broken a holds rest = part_derives p broken a holds rest (begins_none rest)

-- A part that is always something isn't there before such tokens.
pub not_there : {A : Type 0} {f : A → Form} {s : Bool → A → List Item} {n : A → ℕ} {o : A → Bool} {F L S : List TokenClass} {opens : Bool}
    (p : Part f s n o F L false S opens) (a : A) (tokens : List Token) →
    begins L tokens ≡ false → (ts rest : List Token) → ts ≡ tokens → f a ts rest → ⊥
not_there p a tokens e ts rest is d = cc ((nothing_there p a tokens e ts rest is d).0)

-- A part that is there or not.
module _ {A : Type 0} {f : A → Form} {s : Bool → A → List Item} {n : A → ℕ} {o : A → Bool} {F L : List TokenClass} where
  pub optional_told : (p : Part f s n o F L false [] true) (broken : Bool) (x : Option A) →
      Told 0 (optional_shape (s broken) x) (optional_tokens (p.tokens) x) true (optional_nesting n x)
  optional_told p broken None = told_nothing
  optional_told p broken (Some a) = p.told broken a

  pub optional_written : (p : Part f s n o F L false [] true) (x : Option A) → IsTrue (optional_obeys o x) → (rest : List Token) →
      optional f x (optional_tokens (p.tokens) x rest) rest
  unfolding no_tokens
  optional_written p None holds rest = refl
  optional_written p (Some a) holds rest = p.written a holds rest (begins_none rest)

  pub optional_obeyed : (p : Part f s n o F L false [] true) (x : Option A) (ts rest : List Token) → optional f x ts rest → IsTrue (optional_obeys o x)
  optional_obeyed p None ts rest d = refl
  optional_obeyed p (Some a) ts rest d = p.obeyed a ts rest d

  unfoldable pub optional_part : (p : Part f s n o F L false [] true) → within F L ≡ true →
      Part (optional f) (λ broken. optional_shape (s broken)) (optional_nesting n) (optional_obeys o) L L true [] true
  optional_part p e = record {
    tokens = optional_tokens (p.tokens);
    parser = parse_maybe L (p.parser);
    told = optional_told p;
    read = λ k. maybe_reads f L (p.read k) (within_refl L) e;
    written = λ x holds rest stops. optional_written p x holds rest;
    obeyed = optional_obeyed p;
  }

-- Parts without groups and side conditions nest none and obey all, there or not.
module _ {A : Type 0} where
  pub optional_nests_none : (x : Option A) → optional_nesting (λ a. 0) x ≡ 0
  optional_nests_none None = refl
  optional_nests_none (Some a) = refl

  pub optional_obeys_all : (x : Option A) → optional_obeys (λ a. true) x ≡ true
  optional_obeys_all None = refl
  optional_obeys_all (Some a) = refl

  -- a part without groups and side conditions that is there or not
  unfoldable pub plain_optional_part : {f : A → Form} {s : Bool → A → List Item} {F L : List TokenClass} →
      Part f s (λ a. 0) (λ a. true) F L false [] true → within F L ≡ true →
      Part (optional f) (λ broken. optional_shape (s broken)) (λ x. 0) (λ x. true) L L true [] true
  plain_optional_part p e = restated optional_nests_none optional_obeys_all (optional_part p e)
