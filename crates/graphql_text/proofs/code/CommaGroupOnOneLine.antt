-- Comma groups on one line are written item by item.
use Rattle.std.proofs.Common.{◌≡◌, ℕ, ◌+◌, List, [], ◌∷◌, ◌++◌, None, false, refl}
use Rattle.graphql_text.specs.code.Groups.{comma_lead, comma_rest}
use Rattle.graphql_text.specs.layout.Layout.{Item, Word, Comma, Space, Tight, comma_group, lowers, raises, text_of_items}
use Rattle.graphql_text.specs.lexical.Tokens.{Punctuator, Punctuation}
use Rattle.graphql_text.specs.code.Writing.{WritesBeginning, WritesItems}
use Rattle.graphql_text.proofs.code.CommaGroupSteps.{comma_closed, comma_next}
use Rattle.graphql_text.proofs.code.GroupsOpened.{comma_group_opened}
use Rattle.graphql_text.proofs.code.WritingSteps.{beginning_none, beginning_next, levels_raise, writes_levels, writes_nothing}

module _ {O : Type 0} {wrote : O → List ℕ → O → Type 0} (nothing : (a : O) → wrote a [] a) where
  -- a tight mark
  tight_is_nothing : {a : O} {v : ℕ} → WritesItems wrote a a None v (Tight ∷ [])
  unfolding text_of_items raises lowers
  tight_is_nothing {a} = record { text = nothing a; balanced = refl }

-- a comma and a soft mark
comma_is_words : {O : Type 0} {wrote : O → List ℕ → O → Type 0} {a b : O} {v : ℕ} → WritesItems wrote a b None v (Comma ∷ Space ∷ []) →
    WritesItems wrote a b None v (comma_lead false)
unfolding text_of_items raises lowers
comma_is_words h = record { text = h.text; balanced = refl }

module _ {O : Type 0} {wrote : O → List ℕ → O → Type 0} (nothing : (a : O) → wrote a [] a)
    (more : (a b c : O) (x y : List ℕ) → wrote a x b → wrote b y c → wrote a (x ++ y) c) where
  -- the opening bracket was written, of a group that holds something
  pub flat_opened : {a b : O} {v v' : ℕ} (opening closing : Punctuator) (x : List Item) (xs : List (List Item)) → v' ≡ v + 1 →
      WritesItems wrote a b None v (Word (Punctuation opening) ∷ []) →
      WritesBeginning wrote a b None v (comma_group opening closing false (x ∷ xs)) v' (x ++ comma_rest closing false false xs)
  flat_opened opening closing x xs e h =
      let bracket = beginning_next more (beginning_none nothing) (comma_group_opened closing false opening x xs) (writes_levels h) in
      let raised = beginning_next more bracket refl (levels_raise nothing e) in
      beginning_next more raised refl (writes_levels (tight_is_nothing nothing))

  -- a comma and a space were written, and an item that isn't the first
  pub flat_next : {a b c d : O} {v v' : ℕ} {all rest : List Item} (closing : Punctuator) (x : List Item) (xs : List (List Item)) →
      WritesBeginning wrote a b None v all v' rest → rest ≡ comma_rest closing false false (x ∷ xs) →
      WritesItems wrote b c None v' (Comma ∷ Space ∷ []) → WritesItems wrote c d None v' x →
      WritesBeginning wrote a d None v all v' (comma_rest closing false false xs)
  flat_next closing x xs front e comma item = comma_next more closing false false x xs front e (comma_is_words comma) item

  -- the closing bracket was written
  pub flat_closed : {a b c : O} {v v' : ℕ} {all rest : List Item} (closing : Punctuator) → WritesBeginning wrote a b None v all v' rest →
      rest ≡ comma_rest closing false false [] → v' ≡ v + 1 →
      WritesItems wrote b c None v (Word (Punctuation closing) ∷ []) → WritesItems wrote a c None v all
  flat_closed closing front none level bracket =
      comma_closed nothing more closing false front none level (writes_nothing nothing) (tight_is_nothing nothing) bracket
