-- How the brackets of items and their marks fit each other, and how deep groups stand in one another: told part by part.
use Rattle.std.proofs.lemmas.Bool.{and_parts}
use Rattle.std.proofs.Common.{ℕ, zero, suc, ◌+◌, ◌-◌, max, ◌≡◌, Bool, true, false, ◌&&◌, List, [], ◌∷◌, ◌++◌, refl, ap, sym, ◌∙◌, arith}
use Rattle.std.proofs.Common.{append_assoc, append-nil, subst, map}
use Rattle.graphql_text.specs.lexical.Tokens.{Punctuator, bang, dollar, amp, lparen, rparen, spread, colon, equals, at, lbracket, rbracket}
use Rattle.graphql_text.specs.lexical.Tokens.{lbrace, bar, rbrace, Token, Punctuation, Name, IntValue, FloatValue, StringValue}
use Rattle.graphql_text.specs.layout.Layout.{Item, Word, StringItem, StringRole, OnOneLine, AsValue, AsDescription, Space, Comma, Soft}
use Rattle.graphql_text.specs.layout.Layout.{Tight, Blank, Finish, Raise, Lower, raises, raises_at, lowers, lowers_at, flat, enclosed}
use Rattle.graphql_text.specs.layout.Layout.{each_after, last_comma, comma_group, curly_group}
use Rattle.graphql_text.specs.layout.Nesting.{deepest, group_nesting}
use Rattle.graphql_text.proofs.layout.TextOfItems.{raises_append, lowers_append, raises_flat, lowers_flat}

-- What an item does to the open brackets that no Raise mark counts: it opens one more or closes one, it raises or lowers
-- (from there on a mark counts one of them, or one less), it stands only where there is none (a string that can have lines),
-- it is a break, it ends all items, or it passes.
pub data Effect : Type 0 where
  Opens Closes Raises Lowers Stands Breaks Ends Passes : Effect

abbrev pub punctuator_effect : Punctuator → Effect
punctuator_effect lparen = Opens
punctuator_effect lbracket = Opens
punctuator_effect lbrace = Opens
punctuator_effect rparen = Closes
punctuator_effect rbracket = Closes
punctuator_effect rbrace = Closes
punctuator_effect _ = Passes

abbrev pub effect : Item → Effect
effect (Word (Punctuation mark)) = punctuator_effect mark
effect (StringItem value OnOneLine) = Passes
effect (StringItem value _) = Stands
effect Soft = Breaks
effect Tight = Breaks
effect Blank = Breaks
effect Finish = Ends
effect Raise = Raises
effect Lower = Lowers
effect _ = Passes

abbrev pub is_closing : Effect → Bool
is_closing Closes = true
is_closing _ = false

abbrev pub closes_first : List Item → Bool
closes_first [] = false
closes_first (item ∷ items) = is_closing (effect item)

-- a break stands where all open brackets are counted, or all but the one that is closed behind it
abbrev pub may_break : ℕ → List Item → Bool
may_break zero items = true
may_break (suc zero) items = closes_first items
may_break _ items = false

abbrev pub is_end : List Item → Bool
is_end [] = true
is_end _ = false

-- Whether the items fit where so many brackets are open that no Raise mark counts, and so many that one does.
abbrev pub fits_effect : Effect → ℕ → ℕ → List Item → (ℕ → ℕ → Bool) → Bool
fits_effect Opens uncounted counted items go = go (suc uncounted) counted
fits_effect Closes (suc uncounted) counted items go = go uncounted counted
fits_effect Raises (suc uncounted) counted items go = go uncounted (suc counted)
fits_effect Lowers uncounted (suc counted) items go = go (suc uncounted) counted
fits_effect Stands zero counted items go = go zero counted
fits_effect Breaks uncounted counted items go = may_break uncounted items && go uncounted counted
fits_effect Ends zero counted items go = is_end items
fits_effect Passes uncounted counted items go = go uncounted counted
fits_effect _ uncounted counted items go = false

unfoldable pub fits : ℕ → ℕ → List Item → Bool
fits uncounted counted [] = true
fits uncounted counted (item ∷ items) = fits_effect (effect item) uncounted counted items (λ u c. fits u c items)

-- A part fits where so many brackets are open that no Raise mark counts, before all items that fit there, and nests so deep; it raises the level
-- as often as it lowers it.
pub record Bracketed (uncounted : ℕ) (items : List Item) (nesting : ℕ) : Type 0 where
  pub fitting : (counted : ℕ) (rest : List Item) → fits uncounted counted rest ≡ true → fits uncounted counted (items ++ rest) ≡ true
  pub nested : (rest : List Item) → deepest (items ++ rest) ≡ max nesting (deepest rest)
  pub balanced : raises items ≡ lowers items

-- nothing
pub bracketed_nothing : {u : ℕ} → Bracketed u [] 0
unfolding raises lowers
bracketed_nothing = record { fitting = λ c rest h. h; nested = λ rest. omega arith; balanced = refl }

-- one part and then another
pub bracketed_then : {u m n : ℕ} {xs ys : List Item} → Bracketed u xs m → Bracketed u ys n → Bracketed u (xs ++ ys) (max m n)
bracketed_then {u} {m} {n} {xs} {ys} a b = record {
  fitting = λ c rest h. subst (λ l. fits u c l ≡ true) (sym (append_assoc xs ys rest)) (a.fitting c (ys ++ rest) (b.fitting c rest h));
  nested = λ rest.
      let x = a.nested (ys ++ rest) in
      let y = b.nested rest in
      ap deepest (append_assoc xs ys rest) ∙ omega (arith, x, y);
  balanced = omega (arith, raises_append xs ys, lowers_append xs ys, a.balanced, b.balanced);
}

-- a part without a group, and then another
pub bracketed_after : {u n : ℕ} {xs ys : List Item} → Bracketed u xs 0 → Bracketed u ys n → Bracketed u (xs ++ ys) n
bracketed_after {u} {n} {xs} {ys} a b = subst (λ k. Bracketed u (xs ++ ys) k) (omega arith) (bracketed_then a b)

-- the nesting told in another way
pub bracketed_as : {u m n : ℕ} {xs : List Item} → m ≡ n → Bracketed u xs m → Bracketed u xs n
bracketed_as {u} {m} {n} {xs} e a = subst (λ k. Bracketed u xs k) e a

-- a word that is no bracket, before a part
pub bracketed_word : {u n : ℕ} {token : Token} {xs : List Item} → effect (Word token) ≡ Passes → Bracketed u xs n → Bracketed u (Word token ∷ xs) n
unfolding fits deepest raises lowers
bracketed_word e a = record { fitting = λ c rest h. rw e (a.fitting c rest h); nested = a.nested; balanced = omega (arith, a.balanced) }

pub bracketed_space : {u n : ℕ} {xs : List Item} → Bracketed u xs n → Bracketed u (Space ∷ xs) n
unfolding fits deepest raises lowers
bracketed_space a = record { fitting = a.fitting; nested = a.nested; balanced = omega (arith, a.balanced) }

pub bracketed_comma : {u n : ℕ} {xs : List Item} → Bracketed u xs n → Bracketed u (Comma ∷ xs) n
unfolding fits deepest raises lowers
bracketed_comma a = record { fitting = a.fitting; nested = a.nested; balanced = omega (arith, a.balanced) }

-- a string, or a break, before a part
pub bracketed_string : {n : ℕ} {xs : List Item} (value : List ℕ) (role : StringRole) → Bracketed 0 xs n → Bracketed 0 (StringItem value role ∷ xs) n
unfolding fits deepest raises lowers
bracketed_string value OnOneLine a = record { fitting = a.fitting; nested = a.nested; balanced = omega (arith, a.balanced) }
bracketed_string value AsValue a = record { fitting = a.fitting; nested = a.nested; balanced = omega (arith, a.balanced) }
bracketed_string value AsDescription a = record { fitting = a.fitting; nested = a.nested; balanced = omega (arith, a.balanced) }

pub bracketed_soft : {n : ℕ} {xs : List Item} → Bracketed 0 xs n → Bracketed 0 (Soft ∷ xs) n
unfolding fits deepest raises lowers
bracketed_soft a = record { fitting = a.fitting; nested = a.nested; balanced = omega (arith, a.balanced) }

pub bracketed_tight : {n : ℕ} {xs : List Item} → Bracketed 0 xs n → Bracketed 0 (Tight ∷ xs) n
unfolding fits deepest raises lowers
bracketed_tight a = record { fitting = a.fitting; nested = a.nested; balanced = omega (arith, a.balanced) }

pub bracketed_blank : {n : ℕ} {xs : List Item} → Bracketed 0 xs n → Bracketed 0 (Blank ∷ xs) n
unfolding fits deepest raises lowers
bracketed_blank a = record { fitting = a.fitting; nested = a.nested; balanced = omega (arith, a.balanced) }

-- Brackets that are no group, as those of a type: no break stands between them.
pub bracketed_type : {u m n : ℕ} {xs ys : List Item} → Bracketed (suc u) xs m → Bracketed u ys n →
    Bracketed u (Word (Punctuation lbracket) ∷ (xs ++ (Word (Punctuation rbracket) ∷ ys))) (max m n)
unfolding fits deepest raises lowers
bracketed_type {u} {m} {n} {xs} {ys} a b = record {
  fitting = λ c rest h.
      subst (λ l. fits (suc u) c l ≡ true) (sym (append_assoc xs (Word (Punctuation rbracket) ∷ ys) rest))
      (a.fitting c (Word (Punctuation rbracket) ∷ (ys ++ rest)) (b.fitting c rest h));
  nested = λ rest.
      let x = a.nested (Word (Punctuation rbracket) ∷ (ys ++ rest)) in
      let y = b.nested rest in
      ap deepest (append_assoc xs (Word (Punctuation rbracket) ∷ ys) rest) ∙ omega (arith, x, y);
  balanced = omega (arith, raises_append xs (Word (Punctuation rbracket) ∷ ys), lowers_append xs (Word (Punctuation rbracket) ∷ ys), a.balanced, b.balanced);
}

-- PARTS THAT ARE ALWAYS FLAT

-- whether what an item does depends on those behind it
abbrev looks_behind : Effect → Bool
looks_behind Breaks = true
looks_behind Ends = true
looks_behind _ = false

same_effect : (e : Effect) (u c : ℕ) (xs ys : List Item) → looks_behind e ≡ false → ((u c : ℕ) → fits u c xs ≡ true → fits u c ys ≡ true) →
    fits_effect e u c xs (λ u c. fits u c xs) ≡ true → fits_effect e u c ys (λ u c. fits u c ys) ≡ true
same_effect Opens u c xs ys l more h = more (suc u) c h
same_effect Closes zero c xs ys l more h = h
same_effect Closes (suc u) c xs ys l more h = more u c h
same_effect Raises zero c xs ys l more h = h
same_effect Raises (suc u) c xs ys l more h = more u (suc c) h
same_effect Lowers u zero xs ys l more h = h
same_effect Lowers u (suc c) xs ys l more h = more (suc u) c h
same_effect Stands zero c xs ys l more h = more zero c h
same_effect Stands (suc u) c xs ys l more h = h
same_effect Breaks u c xs ys l more h = cc
same_effect Ends u c xs ys l more h = cc
same_effect Passes u c xs ys l more h = more u c h

word_looks_not : (token : Token) → looks_behind (effect (Word token)) ≡ false
word_looks_not (Punctuation bang) = refl
word_looks_not (Punctuation dollar) = refl
word_looks_not (Punctuation amp) = refl
word_looks_not (Punctuation lparen) = refl
word_looks_not (Punctuation rparen) = refl
word_looks_not (Punctuation spread) = refl
word_looks_not (Punctuation colon) = refl
word_looks_not (Punctuation equals) = refl
word_looks_not (Punctuation at) = refl
word_looks_not (Punctuation lbracket) = refl
word_looks_not (Punctuation rbracket) = refl
word_looks_not (Punctuation lbrace) = refl
word_looks_not (Punctuation bar) = refl
word_looks_not (Punctuation rbrace) = refl
word_looks_not (Name text) = refl
word_looks_not (IntValue text) = refl
word_looks_not (FloatValue text) = refl
word_looks_not (StringValue text) = refl

fits_flat : (u c : ℕ) (xs rest : List Item) → fits u c (xs ++ rest) ≡ true → fits u c (flat xs ++ rest) ≡ true
unfolding fits flat
fits_flat u c [] rest h = h
fits_flat u c (Word token ∷ xs) rest h =
    same_effect (effect (Word token)) u c (xs ++ rest) (flat xs ++ rest) (word_looks_not token) (λ u c. fits_flat u c xs rest) h
fits_flat u c (StringItem value OnOneLine ∷ xs) rest h = fits_flat u c xs rest h
fits_flat zero c (StringItem value AsValue ∷ xs) rest h = fits_flat zero c xs rest h
fits_flat (suc u) c (StringItem value AsValue ∷ xs) rest h = cc
fits_flat zero c (StringItem value AsDescription ∷ xs) rest h = fits_flat zero c xs rest h
fits_flat (suc u) c (StringItem value AsDescription ∷ xs) rest h = cc
fits_flat u c (Space ∷ xs) rest h = fits_flat u c xs rest h
fits_flat u c (Comma ∷ xs) rest h = fits_flat u c xs rest h
fits_flat u c (Soft ∷ xs) rest h = let (_, more) = and_parts (may_break u (xs ++ rest)) (fits u c (xs ++ rest)) h in fits_flat u c xs rest more
fits_flat u c (Tight ∷ xs) rest h = let (_, more) = and_parts (may_break u (xs ++ rest)) (fits u c (xs ++ rest)) h in fits_flat u c xs rest more
fits_flat u c (Blank ∷ xs) rest h = let (_, more) = and_parts (may_break u (xs ++ rest)) (fits u c (xs ++ rest)) h in fits_flat u c xs rest more
fits_flat zero c (Finish ∷ []) [] h = refl
fits_flat zero c (Finish ∷ []) (item ∷ rest) h = cc
fits_flat zero c (Finish ∷ item ∷ xs) rest h = cc
fits_flat (suc u) c (Finish ∷ xs) rest h = cc
fits_flat u c (Raise ∷ xs) rest h = same_effect Raises u c (xs ++ rest) (flat xs ++ rest) refl (λ u c. fits_flat u c xs rest) h
fits_flat u c (Lower ∷ xs) rest h = same_effect Lowers u c (xs ++ rest) (flat xs ++ rest) refl (λ u c. fits_flat u c xs rest) h

deepest_flat : (xs rest : List Item) → deepest (flat xs ++ rest) ≡ deepest (xs ++ rest)
unfolding deepest flat
deepest_flat [] rest = refl
deepest_flat (Word token ∷ xs) rest = deepest_flat xs rest
deepest_flat (StringItem value role ∷ xs) rest = deepest_flat xs rest
deepest_flat (Space ∷ xs) rest = deepest_flat xs rest
deepest_flat (Comma ∷ xs) rest = deepest_flat xs rest
deepest_flat (Soft ∷ xs) rest = deepest_flat xs rest
deepest_flat (Tight ∷ xs) rest = deepest_flat xs rest
deepest_flat (Blank ∷ xs) rest = deepest_flat xs rest
deepest_flat (Finish ∷ xs) rest = deepest_flat xs rest
deepest_flat (Raise ∷ xs) rest = ap (λ n. n + 1) (deepest_flat xs rest)
deepest_flat (Lower ∷ xs) rest = ap (λ n. n - 1) (deepest_flat xs rest)

pub bracketed_flat : {u n : ℕ} {xs : List Item} → Bracketed u xs n → Bracketed u (flat xs) n
bracketed_flat {u} {n} {xs} a = record {
  fitting = λ c rest h. fits_flat u c xs rest (a.fitting c rest h);
  nested = λ rest. deepest_flat xs rest ∙ a.nested rest;
  balanced = raises_flat xs ∙ a.balanced ∙ sym (lowers_flat xs);
}

-- GROUPS

-- items between brackets at the next level
abbrev closes_group : Item → Type 0
closes_group item = (effect item ≡ Breaks) × ((items : List Item) → deepest (item ∷ items) ≡ deepest items) × (raises_at item ≡ lowers_at item)

bracketed_group : {n : ℕ} {xs : List Item} (opening closing : Punctuator) (item : Item) → punctuator_effect opening ≡ Opens →
    punctuator_effect closing ≡ Closes → closes_group item → Bracketed 0 xs n →
    Bracketed 0 (Word (Punctuation opening) ∷ (enclosed xs ++ (item ∷ Word (Punctuation closing) ∷ []))) (n + 1)
unfolding fits deepest raises lowers
bracketed_group {n} {xs} opening closing item o k b a = record {
  fitting = λ c rest h.
      let parts :
      ((xs ++ (Lower ∷ [])) ++ (item ∷ Word (Punctuation closing) ∷ [])) ++ rest
      ≡ xs ++ (Lower ∷ item ∷ Word (Punctuation closing) ∷ rest) =
      simp append_assoc in
      let last : fits 0 (suc c) (Lower ∷ item ∷ Word (Punctuation closing) ∷ rest) ≡ true = rw (b.0, k) h in
      rw o (subst (λ l. fits 0 (suc c) l ≡ true) (sym parts) (a.fitting (suc c) (Lower ∷ item ∷ Word (Punctuation closing) ∷ rest) last));
  nested = λ rest.
      let parts :
      ((xs ++ (Lower ∷ [])) ++ (item ∷ Word (Punctuation closing) ∷ [])) ++ rest
      ≡ xs ++ (Lower ∷ item ∷ Word (Punctuation closing) ∷ rest) =
      simp append_assoc in
      let x = a.nested (Lower ∷ item ∷ Word (Punctuation closing) ∷ rest) in
      let y = b.1 (Word (Punctuation closing) ∷ rest) in
      ap (λ l. deepest l + 1) parts ∙ omega (arith, x, y);
  balanced =
      let last = item ∷ Word (Punctuation closing) ∷ [] in
      omega (
        arith,
        raises_append (xs ++ (Lower ∷ [])) last,
        lowers_append (xs ++ (Lower ∷ [])) last,
        raises_append xs (Lower ∷ []),
        lowers_append xs (Lower ∷ []),
        a.balanced,
        b.2,
      );
}

-- each part is bracketed, and nests so deep
pub data Row : List (List Item) → List ℕ → Type 0 where
  no_row : Row [] []
  row_more : {x : List Item} {xs : List (List Item)} {n : ℕ} {ns : List ℕ} → Bracketed 0 x n → Row xs ns → Row (x ∷ xs) (n ∷ ns)

-- the parts of a list
pub row_of : {A : Type 0} {shape : A → List Item} {nesting : A → ℕ} → ((a : A) → Bracketed 0 (shape a) (nesting a)) → (more : List A) →
    Row (map shape more) (map nesting more)
row_of part [] = no_row
row_of part (a ∷ more) = row_more (part a) (row_of part more)

abbrev greatest : List ℕ → ℕ
greatest [] = 0
greatest (n ∷ ns) = max n (greatest ns)

group_is_greatest : (n : ℕ) (ns : List ℕ) → greatest (n ∷ ns) + 1 ≡ group_nesting (n ∷ ns)
group_is_greatest n [] = omega arith
group_is_greatest n (m ∷ ns) = let more = group_is_greatest m ns in omega (arith, more)

bracketed_rest : {xs : List (List Item)} {ns : List ℕ} (other : List Item) →
    ((x : List Item) (n : ℕ) → Bracketed 0 x n → Bracketed 0 (other ++ x) n) → Row xs ns →
    Bracketed 0 (each_after other other xs) (greatest ns)
unfolding each_after
bracketed_rest other next no_row = bracketed_nothing
bracketed_rest other next (row_more a more) = bracketed_then (next _ _ a) (bracketed_rest other next more)

bracketed_each : {x : List Item} {xs : List (List Item)} {n : ℕ} {ns : List ℕ} (first other : List Item) →
    ((x : List Item) (n : ℕ) → Bracketed 0 x n → Bracketed 0 (first ++ x) n) →
    ((x : List Item) (n : ℕ) → Bracketed 0 x n → Bracketed 0 (other ++ x) n) → Bracketed 0 x n → Row xs ns →
    Bracketed 0 (each_after first other (x ∷ xs)) (greatest (n ∷ ns))
unfolding each_after
bracketed_each first other lead next a more = bracketed_then (lead _ _ a) (bracketed_rest other next more)

bracketed_last : (broken : Bool) → Bracketed 0 (last_comma broken) 0
bracketed_last true = bracketed_comma bracketed_nothing
bracketed_last false = bracketed_nothing

-- a comma group, whose brackets are known
pub bracketed_comma_group : {xs : List (List Item)} {ns : List ℕ} (opening closing : Punctuator) (broken : Bool) →
    punctuator_effect opening ≡ Opens → punctuator_effect closing ≡ Closes → Row xs ns →
    Bracketed 0 (comma_group opening closing broken xs) (group_nesting ns)
unfolding fits deepest raises lowers
bracketed_comma_group opening closing broken o k no_row = record { fitting = λ c rest h. rw (o, k) h; nested = λ rest. omega arith; balanced = refl }
bracketed_comma_group opening closing broken o k (row_more {n = n} {ns = ns} a more) =
    bracketed_as (omega (arith, group_is_greatest n ns))
    (bracketed_group opening closing Tight o k (refl, λ items. refl, refl)
    (bracketed_then
    (bracketed_each (Tight ∷ []) (Comma ∷ Soft ∷ []) (λ x n b. bracketed_tight b) (λ x n b. bracketed_comma (bracketed_soft b)) a more)
    (bracketed_last broken)))

-- a curly group
pub bracketed_curly_group : {xs : List (List Item)} {ns : List ℕ} → Row xs ns → Bracketed 0 (curly_group xs) (group_nesting ns)
unfolding fits deepest raises lowers
bracketed_curly_group no_row = record { fitting = λ c rest h. h; nested = λ rest. omega arith; balanced = refl }
bracketed_curly_group (row_more {n = n} {ns = ns} a more) =
    bracketed_as (group_is_greatest n ns)
    (bracketed_group lbrace rbrace Soft refl refl (refl, λ items. refl, refl)
    (bracketed_each (Soft ∷ []) (Soft ∷ []) (λ x n b. bracketed_soft b) (λ x n b. bracketed_soft b) a more))

-- THE WHOLE

-- All items of a layout fit, and nest so deep.
pub record WholeBracketed (items : List Item) (nesting : ℕ) : Type 0 where
  pub fitting : fits 0 0 items ≡ true
  pub nested : deepest items ≡ nesting
  pub balanced : raises items ≡ lowers items

pub whole : {n : ℕ} {xs : List Item} → Bracketed 0 xs n → WholeBracketed xs n
unfolding fits deepest
whole {n} {xs} a = record {
  fitting = subst (λ l. fits 0 0 l ≡ true) (append-nil xs) (a.fitting 0 [] refl);
  nested = let x = a.nested [] in ap deepest (sym (append-nil xs)) ∙ omega (arith, x);
  balanced = a.balanced;
}

-- a part and what ends a document
pub whole_then : {m n : ℕ} {xs ys : List Item} → Bracketed 0 xs m → WholeBracketed ys n → WholeBracketed (xs ++ ys) (max m n)
whole_then {xs = xs} {ys = ys} a b = record {
  fitting = a.fitting 0 ys b.fitting;
  nested = let x = a.nested ys in let y = b.nested in omega (arith, x, y);
  balanced = omega (arith, raises_append xs ys, lowers_append xs ys, a.balanced, b.balanced);
}

pub whole_finish : WholeBracketed (Finish ∷ []) 0
unfolding fits deepest raises lowers
whole_finish = record { fitting = refl; nested = refl; balanced = refl }

pub whole_blank : {n : ℕ} {xs : List Item} → WholeBracketed xs n → WholeBracketed (Blank ∷ xs) n
unfolding fits deepest raises lowers
whole_blank a = record { fitting = a.fitting; nested = a.nested; balanced = omega (arith, a.balanced) }

pub whole_space : {n : ℕ} {xs : List Item} → WholeBracketed xs n → WholeBracketed (Space ∷ xs) n
unfolding fits deepest raises lowers
whole_space a = record { fitting = a.fitting; nested = a.nested; balanced = omega (arith, a.balanced) }
