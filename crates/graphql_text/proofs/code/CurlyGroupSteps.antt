-- Curly groups are written item by item, in any mode.
use Rattle.std.proofs.Common.{◌≡◌, ◌≢◌, ℕ, ◌+◌, ◌<◌, ◌≤◌, Bool, false, List, [], ◌∷◌, ◌++◌, map, length, Option, refl, sym, ap, arith}
use Rattle.graphql_text.specs.code.Groups.{curly_rest}
use Rattle.graphql_text.specs.kinds.Kinds.{Kind}
use Rattle.graphql_text.specs.layout.Layout.{Item, Word, Space, Raise, Soft}
use Rattle.graphql_text.specs.parts.Members.{members_shape, members_nesting, required_members_shape}
use Rattle.graphql_text.specs.lexical.Tokens.{lbrace, rbrace, Punctuation}
use Rattle.graphql_text.specs.code.Writing.{WritesBeginning, WritesItems}
use Rattle.graphql_text.proofs.code.GroupsOpened.{curly_group_opened}
use Rattle.graphql_text.proofs.code.WritingSteps.{beginning_all, beginning_next, beginning_none, levels_lower, levels_raise, writes_levels}

module _ {O : Type 0} {wrote : O → List ℕ → O → Type 0} (more : (a b c : O) (x y : List ℕ) → wrote a x b → wrote b y c → wrote a (x ++ y) c) where
  -- a break was written, and the item
  pub curly_next : {a b c d : O} {mode : Option (List ℕ)} {v v' : ℕ} {all rest : List Item} (x : List Item) (xs : List (List Item)) →
      WritesBeginning wrote a b mode v all v' rest → rest ≡ curly_rest (x ∷ xs) →
      WritesItems wrote b c mode v' (Soft ∷ []) → WritesItems wrote c d mode v' x → WritesBeginning wrote a d mode v all v' (curly_rest xs)
  curly_next x xs front e soft item = beginning_next more (beginning_next more front e (writes_levels soft)) refl (writes_levels item)

module _ {O : Type 0} {wrote : O → List ℕ → O → Type 0} (nothing : (a : O) → wrote a [] a)
    (more : (a b c : O) (x y : List ℕ) → wrote a x b → wrote b y c → wrote a (x ++ y) c) where
  -- the opening bracket was written, and what stands before it
  pub curly_opened : {a b : O} {mode : Option (List ℕ)} {v v' : ℕ} {all : List Item} (opening : List Item) (xs : List (List Item)) →
      all ≡ opening ++ (Raise ∷ curly_rest xs) → v' ≡ v + 1 →
      WritesItems wrote a b mode v opening → WritesBeginning wrote a b mode v all v' (curly_rest xs)
  curly_opened opening xs e level bracket =
      beginning_next more (beginning_next more (beginning_none nothing) e (writes_levels bracket)) refl (levels_raise nothing level)

  -- the end of a group was written: a break, and the closing bracket
  pub curly_closed : {a b c d : O} {mode : Option (List ℕ)} {v v' : ℕ} {all rest : List Item} →
      WritesBeginning wrote a b mode v all v' rest → rest ≡ curly_rest [] → v' ≡ v + 1 →
      WritesItems wrote b c mode v (Soft ∷ []) → WritesItems wrote c d mode v (Word (Punctuation rbrace) ∷ []) → WritesItems wrote a d mode v all
  curly_closed front none level soft bracket =
      let lowered = beginning_next more front none (levels_lower nothing (sym level)) in
      beginning_all (beginning_next more (beginning_next more lowered refl (writes_levels soft)) refl (writes_levels bracket)) refl refl

-- members of the code, of which there is one at least
module _ (kind : Kind) {A : Type 0} (tree : A → kind.Tree) where
  pub members_opened : (broken : Bool) (members : List A) → 0 < length members →
      required_members_shape kind broken (map tree members)
      ≡ (Space ∷ Word (Punctuation lbrace) ∷ []) ++ (Raise ∷ curly_rest (map (kind.shape broken false) (map tree members)))
  members_opened broken [] some = absurd (omega (arith, some))
  members_opened broken (member ∷ more) some =
      ap (λ items. Space ∷ items)
      (curly_group_opened (kind.shape broken false (tree member)) (map (kind.shape broken false) (map tree more)))

  pub members_nest : (members : List A) → 0 < length members → 1 ≤ members_nesting kind (map tree members)
  members_nest [] some = absurd (omega (arith, some))
  members_nest (member ∷ more) some = omega arith

  pub members_are_there : (broken : Bool) (members : List A) → length members ≢ 0 →
      members_shape kind broken (map tree members) ≡ required_members_shape kind broken (map tree members)
  members_are_there broken [] some = absurd (some refl)
  members_are_there broken (member ∷ more) some = refl
