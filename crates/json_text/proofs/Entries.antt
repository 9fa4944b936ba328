-- Of Texts: objects whose members stand one behind the other in the order of their names, some of them perhaps not there.
use Rattle.std.proofs.Common.{◌≡◌, ℕ, Bool, true, false, ◌&&◌, ◌||◌, IsTrue, List, [], ◌∷◌, Option, Some, None, MatchOption, option_map, option_and_then}
use Rattle.std.proofs.Common.{nat_eq, nat_cmp, refl, sym, ap, ap₂, ◌∙◌, subst, cond, true≢false, Ordering, Less, Equal, Greater}
use Rattle.std.proofs.lemmas.Slice.Eq.{bytes_eq-Decides}
use Rattle.std.specs.Prelude.{⊤}
use Rattle.std.specs.Ordering.{match_ordering}
use Rattle.std.specs.Cmp.Lexicographic.{pointwise, slice_cmp}
use Rattle.json.specs.Tree as tree
use Rattle.serde_json.specs.Data.{Data, object, Members, no_members, member, put}
use Rattle.serde_json.specs.Read.{of_members}
use Rattle.serde_json.specs.Written.{members_have_float, members_outline}
use Rattle.json_text.specs.Texts.{IsPlain, optional_member}

abbrev pub Entry : Type 0
Entry = List ℕ × Option Data

-- those of these members that are there, in their order
abbrev pub filled : List Entry → Members
filled [] = no_members
filled (entry ∷ entries) = optional_member entry.0 entry.1 (filled entries)

abbrev pub entry_names : List Entry → List (List ℕ)
entry_names [] = []
entry_names (entry ∷ entries) = entry.0 ∷ entry_names entries

abbrev pub AllPlain : List Entry → Type 0
AllPlain [] = ⊤
AllPlain (entry ∷ entries) = MatchOption entry.1 ⊤ IsPlain × AllPlain entries

abbrev is_greater : Ordering → Bool
is_greater Less = false
is_greater Equal = false
is_greater Greater = true

-- a name comes behind each of these
abbrev pub is_behind : List ℕ → List (List ℕ) → Bool
is_behind name [] = true
is_behind name (other ∷ others) = is_greater (slice_cmp nat_cmp name other) && is_behind name others

-- each of these names comes behind those before it, and behind these others
abbrev pub are_ascending : List (List ℕ) → List (List ℕ) → Bool
are_ascending before [] = true
are_ascending before (name ∷ names) = is_behind name before && are_ascending (name ∷ before) names

abbrev names_of : Members → List (List ℕ)
names_of no_members = []
names_of (member name json more) = name ∷ names_of more

both_true : (a b : Bool) → IsTrue (a && b) → IsTrue a × IsTrue b
both_true true true h = (refl, refl)
both_true true false h = absurd (true≢false (sym h))
both_true false b h = absurd (true≢false (sym h))

true_both : (a b : Bool) → IsTrue a → IsTrue b → IsTrue (a && b)
true_both true true h k = refl
true_both true false h k = absurd (true≢false (sym k))
true_both false b h k = absurd (true≢false (sym h))

-- members with one more behind them, and with others behind them
abbrev behind_all : Members → List ℕ → Data → Members
behind_all no_members name json = member name json no_members
behind_all (member other one more) name json = member other one (behind_all more name json)

abbrev joined : Members → Members → Members
joined no_members others = others
joined (member name json more) others = member name json (joined more others)

put_by : (o : Ordering) (name other : List ℕ) (json one : Data) (rest : Members) → IsTrue (is_greater o) →
    match_ordering o (member name json (member other one rest)) (member other json rest) (member other one (put name json rest))
    ≡ member other one (put name json rest)
put_by Less name other json one rest h = absurd (true≢false (sym h))
put_by Equal name other json one rest h = absurd (true≢false (sym h))
put_by Greater name other json one rest h = refl

put_behind : (name : List ℕ) (json : Data) (members : Members) → IsTrue (is_behind name (names_of members)) → put name json members ≡ behind_all members name
    json
put_behind name json no_members h = refl
put_behind name json (member other one more) h =
    let parts = both_true (is_greater (slice_cmp nat_cmp name other)) (is_behind name (names_of more)) h in
    put_by (slice_cmp nat_cmp name other) name other json one more parts.0 ∙ ap (member other one) (put_behind name json more parts.1)

joined_behind : (members : Members) (name : List ℕ) (json : Data) (others : Members) → joined (behind_all members name json) others ≡ joined members (member
    name json others)
joined_behind no_members name json others = refl
joined_behind (member other one more) name json others = ap (member other one) (joined_behind more name json others)

joined_none : (members : Members) → joined members no_members ≡ members
joined_none no_members = refl
joined_none (member name json more) = ap (member name json) (joined_none more)

-- a name that comes behind members and one more
behind_more : (name : List ℕ) (members : Members) (other : List ℕ) (json : Data) → IsTrue (is_behind name (names_of members)) →
    IsTrue (is_greater (slice_cmp nat_cmp name other)) → IsTrue (is_behind name (names_of (behind_all members other json)))
behind_more name no_members other json h k = true_both _ _ k refl
behind_more name (member first one more) other json h k =
    let parts = both_true (is_greater (slice_cmp nat_cmp name first)) (is_behind name (names_of more)) h in
    true_both _ _ parts.0 (behind_more name more other json parts.1 k)

-- what comes behind some names comes behind those of members whose names are among them
abbrev Covers : List (List ℕ) → Members → Type 0
Covers before members = (name : List ℕ) → IsTrue (is_behind name before) → IsTrue (is_behind name (names_of members))

covers_more : (before : List (List ℕ)) (members : Members) (other : List ℕ) (json : Data) → Covers before members →
    Covers (other ∷ before) (behind_all members other json)
covers_more before members other json covers name h =
    let parts = both_true (is_greater (slice_cmp nat_cmp name other)) (is_behind name before) h in
    behind_more name members other json (covers name parts.1) parts.0

covers_less : (before : List (List ℕ)) (members : Members) (other : List ℕ) → Covers before members → Covers (other ∷ before) members
covers_less before content other covers name h =
    covers name (both_true (is_greater (slice_cmp nat_cmp name other)) (is_behind name before) h).1

same_entry : (name : List ℕ) (json : Option Data) (entries : List Entry) (before : List (List ℕ)) (members : Members) → IsTrue (is_behind name before) →
    Covers before members → MatchOption json ⊤ IsPlain →
    ((others : Members) → Covers (name ∷ before) others → of_members (members_outline (filled entries)) others ≡ Some (joined others (filled entries))) →
    of_members (members_outline (optional_member name json (filled entries))) members ≡ Some (joined members (optional_member name json (filled entries)))
same_entry name None entries before members here covers is later = later members (covers_less before members name covers)
same_entry name (Some json) entries before members here covers is later =
    ap (option_and_then (λ d. of_members (members_outline (filled entries)) (put name d members))) is.same
    ∙ ap (of_members (members_outline (filled entries))) (put_behind name json members (covers name here))
    ∙ later (behind_all members name json) (covers_more before members name json covers)
    ∙ ap Some (joined_behind members name json (filled entries))

same_members : (entries : List Entry) (before : List (List ℕ)) (members : Members) → IsTrue (are_ascending before (entry_names entries)) →
    Covers before members → AllPlain entries → of_members (members_outline (filled entries)) members ≡ Some (joined members (filled entries))
same_members [] before members up covers all = ap Some (sym (joined_none members))
same_members (entry ∷ entries) before members up covers all =
    let parts = both_true (is_behind entry.0 before) (are_ascending (entry.0 ∷ before) (entry_names entries)) up in
    same_entry entry.0 entry.1 entries before members parts.0 covers all.0
    (λ others more. same_members entries (entry.0 ∷ before) others parts.1 more all.1)

no_float_by : (json : Option Data) (name : List ℕ) (entries : List Entry) → MatchOption json ⊤ IsPlain → members_have_float (filled entries) ≡ false →
    members_have_float (optional_member name json (filled entries)) ≡ false
no_float_by None name entries is rest = rest
no_float_by (Some json) name entries is rest = ap₂ (λ a b. a || b) is.no_float rest

no_floats : (entries : List Entry) → AllPlain entries → members_have_float (filled entries) ≡ false
no_floats [] all = refl
no_floats (entry ∷ entries) all = no_float_by entry.1 entry.0 entries all.0 (no_floats entries all.1)

member_numbers_by : (json : Option Data) (name : List ℕ) (entries : List Entry) → MatchOption json ⊤ IsPlain →
    tree.MembersHaveNumbers (members_outline (filled entries)) → tree.MembersHaveNumbers (members_outline (optional_member name json (filled entries)))
member_numbers_by None name entries is rest = rest
member_numbers_by (Some json) name entries is rest = (is.numbers, rest)

member_numbers : (entries : List Entry) → AllPlain entries → tree.MembersHaveNumbers (members_outline (filled entries))
member_numbers [] all = tt
member_numbers (entry ∷ entries) all = member_numbers_by entry.1 entry.0 entries all.0 (member_numbers entries all.1)

-- An object is plain whose names ascend, if its members are.
pub plain_object : (entries : List Entry) → IsTrue (are_ascending [] (entry_names entries)) → AllPlain entries → IsPlain (object (filled entries))
plain_object entries up all = record {
  no_float = no_floats entries all;
  same = ap (option_map object) (same_members entries [] no_members up (λ name h. refl) all);
  numbers = member_numbers entries all;
}
