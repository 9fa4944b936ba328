-- How what writers did with items follows on.
use Rattle.std.proofs.Common.{◌≡◌, ℕ, ◌+◌, ◌-◌, List, [], ◌∷◌, ◌++◌, Option, None, refl, ap, sym, ◌∙◌, subst, arith, append_assoc, append-nil, encode_utf8_all}
use Rattle.std.proofs.lemmas.Str.{encodes-append}
use Rattle.graphql_text.specs.layout.Layout.{Item, Raise, Lower, flat, item_text, raises, raises_at, lowers, lowers_at, text_of_items}
use Rattle.graphql_text.specs.code.Writing.{WritesItems, WritesToLevel, WritesBeginning}
use Rattle.graphql_text.proofs.layout.TextOfItems.{raises_append, lowers_append, laid_balanced, laid_one, laid_flat, raises_flat}
use Rattle.graphql_text.proofs.layout.TextOfItems.{lowers_flat, laid_append, laid_level, raise_text, lower_text}

module _ {O : Type 0} {wrote : O → List ℕ → O → Type 0} where
  -- one writer after another
  pub writes_then : (more : (a b c : O) (x y : List ℕ) → wrote a x b → wrote b y c → wrote a (x ++ y) c) {a b c : O}
      {mode : Option (List ℕ)} {v : ℕ} {xs ys : List Item} →
      WritesItems wrote a b mode v xs → WritesItems wrote b c mode v ys → WritesItems wrote a c mode v (xs ++ ys)
  writes_then more {a} {b} {c} {mode} {v} {xs} {ys} h k = record {
    text =
        subst (λ t. wrote a t c)
        (sym (ap encode_utf8_all (laid_balanced mode v xs ys h.balanced)
        ∙ encodes-append (text_of_items mode v 0 0 xs) (text_of_items mode v 0 0 ys)))
        (more a b c _ _ h.text k.text);
    balanced = omega (arith, raises_append xs ys, lowers_append xs ys, h.balanced, k.balanced);
  }

  -- a writer that wrote the text of one item
  pub writes_item : {a b : O} {mode : Option (List ℕ)} {v : ℕ} {x : Item} → raises_at x ≡ lowers_at x →
      wrote a (encode_utf8_all (item_text mode v x)) b → WritesItems wrote a b mode v (x ∷ [])
  unfolding raises lowers
  writes_item {a} {b} {mode} {v} {x} e h = record { text = rw (laid_one mode v x) h; balanced = omega arith }

  -- nothing is written
  pub writes_nothing : (nothing : (a : O) → wrote a [] a) {a : O} {mode : Option (List ℕ)} {v : ℕ} → WritesItems wrote a a mode v []
  unfolding text_of_items raises lowers
  writes_nothing nothing {a} = record { text = nothing a; balanced = refl }

  -- what is written on one line
  pub writes_flat : {a b : O} (mode : Option (List ℕ)) {v : ℕ} {xs : List Item} → WritesItems wrote a b None v xs → WritesItems wrote a b mode v (flat xs)
  writes_flat {a} {b} mode {v} {xs} h = record { text = rw (laid_flat mode v 0 0 xs) h.text; balanced = raises_flat xs ∙ h.balanced ∙ sym (lowers_flat xs) }

  -- one piece after another, from level to level
  pub levels_then : (more : (a b c : O) (x y : List ℕ) → wrote a x b → wrote b y c → wrote a (x ++ y) c) {a b c : O}
      {mode : Option (List ℕ)} {v v' v'' : ℕ} {xs ys : List Item} →
      WritesToLevel wrote a b mode v xs v' → WritesToLevel wrote b c mode v' ys v'' → WritesToLevel wrote a c mode v (xs ++ ys) v''
  levels_then more {a} {b} {c} {mode} {v} {v'} {v''} {xs} {ys} h k =
      let e = laid_level mode v (0 + raises xs) (0 + lowers xs) v' 0 0 ys (omega (arith, h.levels)) in record {
        text = rw (laid_append mode v 0 0 xs ys, e, encodes-append) (more a b c _ _ h.text k.text);
        levels = omega (arith, raises_append xs ys, lowers_append xs ys, h.levels, k.levels);
      }

  -- items that end at their own level
  pub writes_levels : {a b : O} {mode : Option (List ℕ)} {v : ℕ} {xs : List Item} → WritesItems wrote a b mode v xs → WritesToLevel wrote a b mode v xs v
  writes_levels {a} {b} {mode} {v} {xs} h = record { text = h.text; levels = omega (arith, h.balanced) }

  pub levels_writes : {a b : O} {mode : Option (List ℕ)} {v : ℕ} {xs : List Item} → WritesToLevel wrote a b mode v xs v → WritesItems wrote a b mode v xs
  levels_writes {a} {b} {mode} {v} {xs} h = record { text = h.text; balanced = omega (arith, h.levels) }

  -- a mark by itself
  pub levels_raise : (nothing : (a : O) → wrote a [] a) {a : O} {mode : Option (List ℕ)} {v v' : ℕ} → v' ≡ v + 1 →
      WritesToLevel wrote a a mode v (Raise ∷ []) v'
  unfolding text_of_items raises lowers
  levels_raise nothing {a} {mode} {v} {v'} e = record { text = rw (raise_text mode (v + 0 - 0) []) (nothing a); levels = omega (arith, e) }

  pub levels_lower : (nothing : (a : O) → wrote a [] a) {a : O} {mode : Option (List ℕ)} {v v' : ℕ} → v' + 1 ≡ v →
      WritesToLevel wrote a a mode v (Lower ∷ []) v'
  unfolding text_of_items raises lowers
  levels_lower nothing {a} {mode} {v} {v'} e = record { text = rw (lower_text mode (v + 0 - 0) []) (nothing a); levels = omega (arith, e) }

  -- nothing was written yet
  pub beginning_none : (nothing : (a : O) → wrote a [] a) {a : O} {mode : Option (List ℕ)} {v : ℕ} {all : List Item} →
      WritesBeginning wrote a a mode v all v all
  unfolding text_of_items raises lowers
  beginning_none nothing {a} = record { done = []; parted = refl; written = record { text = nothing a; levels = refl } }

  -- one more piece was written
  pub beginning_next : (more : (a b c : O) (x y : List ℕ) → wrote a x b → wrote b y c → wrote a (x ++ y) c) {a b c : O}
      {mode : Option (List ℕ)} {v v' v'' : ℕ} {all rest piece rest' : List Item} →
      WritesBeginning wrote a b mode v all v' rest → rest ≡ piece ++ rest' → WritesToLevel wrote b c mode v' piece v'' →
      WritesBeginning wrote a c mode v all v'' rest'
  beginning_next more {a} {b} {c} {mode} {v} {v'} {v''} {all} {rest} {piece} {rest'} f e w = record {
    done = f.done ++ piece;
    parted = f.parted ∙ ap (λ t. f.done ++ t) e ∙ sym (append_assoc f.done piece rest');
    written = levels_then more f.written w;
  }

  -- what comes later waits as before
  pub beginning_within : {a b : O} {mode : Option (List ℕ)} {v v' : ℕ} {all rest : List Item} (later : List Item) →
      WritesBeginning wrote a b mode v all v' rest → WritesBeginning wrote a b mode v (all ++ later) v' (rest ++ later)
  beginning_within {rest = rest} later f = record {
    done = f.done;
    parted = ap (λ t. t ++ later) f.parted ∙ append_assoc f.done rest later;
    written = f.written;
  }

  -- one front after another
  pub beginning_then : (more : (a b c : O) (x y : List ℕ) → wrote a x b → wrote b y c → wrote a (x ++ y) c) {a b c : O}
      {mode : Option (List ℕ)} {v v' v'' : ℕ} {all rest left left' : List Item} →
      WritesBeginning wrote a b mode v all v' rest → rest ≡ left → WritesBeginning wrote b c mode v' left v'' left' →
      WritesBeginning wrote a c mode v all v'' left'
  beginning_then more f e g = beginning_next more f (e ∙ g.parted) g.written

  -- nothing is left
  pub beginning_all : {a b : O} {mode : Option (List ℕ)} {v v' : ℕ} {all rest : List Item} → WritesBeginning wrote a b mode v all v' rest →
      rest ≡ [] → v' ≡ v → WritesItems wrote a b mode v all
  beginning_all {a} {b} {mode} {v} {v'} {all} {rest} f e l =
      let whole : all ≡ f.done = f.parted ∙ ap (λ t. f.done ++ t) e ∙ append-nil f.done in
      let w = rw l at f.written in
      rw whole (levels_writes w)

  -- writing stopped before the rest
  pub beginning_stopped : (more : (a b c : O) (x y : List ℕ) → wrote a x b → wrote b y c → wrote a (x ++ y) c) {a b : O}
      {mode : Option (List ℕ)} {v v' : ℕ} {all rest : List Item} →
      WritesBeginning wrote a b mode v all v' rest → ((x : List ℕ) → wrote b x b) → raises all ≡ lowers all →
      WritesItems wrote a b mode v all
  beginning_stopped more {a} {b} {mode} {v} {v'} {all} {rest} f idle e = record {
    text = rw (f.parted, laid_append mode v 0 0 f.done rest, encodes-append) (more a b b _ _ f.written.text (idle _));
    balanced = e;
  }
