-- Comma groups are written item by item, in any mode.
use Rattle.std.proofs.Common.{◌≡◌, ℕ, ◌+◌, Bool, true, false, List, [], ◌∷◌, ◌++◌, Option, refl, sym, ◌∙◌, append_assoc, append-nil}
use Rattle.graphql_text.specs.code.Groups.{comma_lead, comma_rest}
use Rattle.graphql_text.specs.layout.Layout.{Item, Word, Raise, Lower, Tight, last_comma}
use Rattle.graphql_text.specs.lexical.Tokens.{Punctuator, Punctuation}
use Rattle.graphql_text.specs.code.Writing.{WritesBeginning, WritesItems}
use Rattle.graphql_text.proofs.code.CommaGroupEnd.{levels_end}
use Rattle.graphql_text.proofs.code.WritingSteps.{beginning_all, beginning_next, beginning_none, levels_lower, levels_raise, writes_levels, writes_then}

module _ {O : Type 0} {wrote : O → List ℕ → O → Type 0} (more : (a b c : O) (x y : List ℕ) → wrote a x b → wrote b y c → wrote a (x ++ y) c) where
  -- what leads to an item was written, and the item
  pub comma_next : {a b c d : O} {mode : Option (List ℕ)} {v v' : ℕ} {all rest : List Item} (closing : Punctuator) (broken is_first : Bool)
      (x : List Item) (xs : List (List Item)) →
      WritesBeginning wrote a b mode v all v' rest → rest ≡ comma_rest closing broken is_first (x ∷ xs) →
      WritesItems wrote b c mode v' (comma_lead is_first) → WritesItems wrote c d mode v' x →
      WritesBeginning wrote a d mode v all v' (comma_rest closing broken false xs)
  comma_next closing broken is_first x xs front e lead item = beginning_next more (beginning_next more front e (writes_levels lead)) refl (writes_levels item)

module _ {O : Type 0} {wrote : O → List ℕ → O → Type 0} (nothing : (a : O) → wrote a [] a)
    (more : (a b c : O) (x y : List ℕ) → wrote a x b → wrote b y c → wrote a (x ++ y) c) where
  -- the opening bracket was written, of a group that holds something
  pub comma_opened : {a b : O} {mode : Option (List ℕ)} {v v' : ℕ} {all : List Item} (opening closing : Punctuator) (broken : Bool) (xs : List (List Item)) →
      all ≡ (Word (Punctuation opening) ∷ []) ++ (Raise ∷ comma_rest closing broken true xs) → v' ≡ v + 1 →
      WritesItems wrote a b mode v (Word (Punctuation opening) ∷ []) → WritesBeginning wrote a b mode v all v' (comma_rest closing broken true xs)
  comma_opened opening closing broken xs e level bracket =
      beginning_next more (beginning_next more (beginning_none nothing) e (writes_levels bracket)) refl (levels_raise nothing level)

  -- the end of a group was written: the comma that may stand before it, a break, and the closing bracket
  pub comma_closed : {a b c d e : O} {mode : Option (List ℕ)} {v v' : ℕ} {all rest : List Item} (closing : Punctuator) (broken : Bool) →
      WritesBeginning wrote a b mode v all v' rest → rest ≡ last_comma broken ++ (Lower ∷ Tight ∷ Word (Punctuation closing) ∷ []) → v' ≡ v + 1 →
      WritesItems wrote b c mode v' (last_comma broken) → WritesItems wrote c d mode v (Tight ∷ []) →
      WritesItems wrote d e mode v (Word (Punctuation closing) ∷ []) →
      WritesItems wrote a e mode v all
  comma_closed closing broken front none level comma tight bracket =
      let lowered = beginning_next more (beginning_next more front none (writes_levels comma)) refl (levels_lower nothing (sym level)) in
      beginning_all (beginning_next more (beginning_next more lowered refl (writes_levels tight)) refl (writes_levels bracket)) refl refl

  -- the same, where the comma and the break are one piece
  pub comma_ended : {a b c d : O} {mode : Option (List ℕ)} {v v' : ℕ} {all rest : List Item} (closing : Punctuator) (broken : Bool) →
      WritesBeginning wrote a b mode v all v' rest → rest ≡ last_comma broken ++ (Lower ∷ Tight ∷ Word (Punctuation closing) ∷ []) → v' ≡ v + 1 →
      WritesItems wrote b c mode v (last_comma broken ++ (Tight ∷ [])) → WritesItems wrote c d mode v (Word (Punctuation closing) ∷ []) →
      WritesItems wrote a d mode v all
  comma_ended closing broken front none level end bracket =
      let closed = rw append_assoc at (writes_then more end bracket) in
      beginning_all (beginning_next more front (none ∙ sym (append-nil _)) (levels_end broken _ (sym level) closed)) refl refl
