-- Of Depth: what has begun is the beginning of some JSON, and which texts are too deep.
use Rattle.std.proofs.Common.{◌≡◌, ℕ, ◌-◌, ◌<◌, ◌≤◌, max, Bool, true, false, ◌&&◌, IsTrue, List, [], ◌∷◌, ◌++◌, length, ◌⊎◌, inl, inr}
use Rattle.std.proofs.Common.{Option, Some, None, is_some, refl, sym, ap, ◌∙◌, subst, true≢false, arith, append_assoc, append-nil, flat_map}
use Rattle.std.specs.Borrow.{Bor}
use Rattle.std.specs.declared.alloc.Global.{Global}
use Rattle.json.proofs.Printed.Trees.{value-json_tokens}
use Rattle.json.specs.Json.{Json, null, array, object, Items, no_items, item, Members, no_members, member, value}
use Rattle.json.specs.Lex.{tokens}
use Rattle.json.specs.Token as token
use Rattle.json.specs.Token.{Token}
use Rattle.json.specs.Tree.{depth, json_tokens, items_depth, items_tokens, members_depth, members_tokens}
use Rattle.json.specs.Value.{items_view, members_view, value_view}
use Rattle.json.specs.declared.value.Value.{Value}
use Rattle.serde_json.specs.Read.{max_depth}
use Rattle.parsed_json.specs.Depth.{Begins, IsTooDeep, IsWithin}
use Rattle.parsed_json.specs.OpenJson.{AreRefused, AreWithin, member_tokens, name_tokens, open_tokens, read_tokens, so_far, takes_value, value_tokens}
use Rattle.parsed_json.specs.ParsedJson.{has_numbers, items_have_numbers, members_have_numbers}
use Rattle.parsed_json.specs.declared.parse.Open.{Open}
use Rattle.parsed_json.specs.declared.parse.Open.TheVariants as opened

pub both_true : (a b : Bool) → IsTrue (a && b) → IsTrue a × IsTrue b
both_true true b is = (refl, is)
both_true false b is = absurd (true≢false (sym is))

pub true_both : (a b : Bool) → IsTrue a → IsTrue b → IsTrue (a && b)
true_both a b is also = rw (is, also) refl

-- ITEMS AND A LAST ONE

abbrev with_item : List (Value Global) → Json → Items
with_item [] j = item j no_items
with_item (v ∷ vs) j = item (value_view v) (with_item vs j)

with_item_deep : (d : ℕ) (vs : List (Value Global)) (j : Json) → items_depth (items_view vs) ≤ d → depth j ≤ d → items_depth (with_item vs j) ≤ d
with_item_deep d [] j are is = omega arith
with_item_deep d (v ∷ vs) j are is = omega (arith, with_item_deep d vs j (omega arith) is)

with_item_numbers : (vs : List (Value Global)) (j : Json) → IsTrue (items_have_numbers (items_view vs)) → IsTrue (has_numbers j) →
    IsTrue (items_have_numbers (with_item vs j))
with_item_numbers [] j are is = true_both (has_numbers j) true is refl
with_item_numbers (v ∷ vs) j are is =
    let both = both_true (has_numbers (value_view v)) (items_have_numbers (items_view vs)) are in
    true_both (has_numbers (value_view v)) (items_have_numbers (with_item vs j)) both.0 (with_item_numbers vs j both.1 is)

with_item_tokens : (vs : List (Value Global)) (j : Json) →
    items_tokens (with_item vs j) ≡ flat_map value_tokens vs ++ (json_tokens j ++ token.end_array ∷ [])
with_item_tokens [] j = refl
with_item_tokens (v ∷ vs) j =
    ap (λ ts. value_tokens v ++ ts) (with_item_tokens vs j)
    ∙ sym (append_assoc (value_tokens v) (flat_map value_tokens vs) (json_tokens j ++ token.end_array ∷ []))

-- MEMBERS AND A LAST ONE

abbrev with_member : List (Bor (List ℕ) × Value Global) → List ℕ → Json → Members
with_member [] name j = member name j no_members
with_member (m ∷ ms) name j = member m.0.now (value_view m.1) (with_member ms name j)

with_member_deep : (d : ℕ) (ms : List (Bor (List ℕ) × Value Global)) (name : List ℕ) (j : Json) → members_depth (members_view ms) ≤ d → depth j ≤ d →
    members_depth (with_member ms name j) ≤ d
with_member_deep d [] name j are is = omega arith
with_member_deep d (m ∷ ms) name j are is = omega (arith, with_member_deep d ms name j (omega arith) is)

with_member_numbers : (ms : List (Bor (List ℕ) × Value Global)) (name : List ℕ) (j : Json) → IsTrue (members_have_numbers (members_view ms)) →
    IsTrue (has_numbers j) → IsTrue (members_have_numbers (with_member ms name j))
with_member_numbers [] name j are is = true_both (has_numbers j) true is refl
with_member_numbers (m ∷ ms) name j are is =
    let both = both_true (has_numbers (value_view m.1)) (members_have_numbers (members_view ms)) are in
    true_both (has_numbers (value_view m.1)) (members_have_numbers (with_member ms name j)) both.0 (with_member_numbers ms name j both.1 is)

with_member_tokens : (ms : List (Bor (List ℕ) × Value Global)) (name : List ℕ) (j : Json) →
    members_tokens (with_member ms name j) ≡ flat_map member_tokens ms ++ token.key name ∷ (json_tokens j ++ token.end_object ∷ [])
with_member_tokens [] name j = refl
with_member_tokens (m ∷ ms) name j =
    ap (λ ts. member_tokens m ++ ts) (with_member_tokens ms name j)
    ∙ sym (append_assoc (member_tokens m) (flat_map member_tokens ms) (token.key name ∷ (json_tokens j ++ token.end_object ∷ [])))

pub all_members : (ms : List (Bor (List ℕ) × Value Global)) → members_tokens (members_view ms) ≡ flat_map member_tokens ms ++ token.end_object ∷ []
all_members [] = refl
all_members (m ∷ ms) =
    ap (λ ts. member_tokens m ++ ts) (all_members ms) ∙ sym (append_assoc (member_tokens m) (flat_map member_tokens ms) (token.end_object ∷ []))

-- WHAT BEGINS

pub within_more : (d e : ℕ) (j : Json) → d ≤ e → IsWithin d j → IsWithin e j
within_more d e j more is = (omega (arith, is.0), is.1)

begins_more : (d e : ℕ) (ts : List Token) → d ≤ e → Begins d ts → Begins e ts
begins_more d e ts more is = (is.0, within_more d e is.0 more is.1, is.2, is.3)

begins_before : (d : ℕ) (ts us : List Token) → Begins d (ts ++ us) → Begins d ts
begins_before d ts us is = (is.0, is.1, us ++ is.2, is.3 ∙ append_assoc ts us is.2)

-- what stands in an array begins it, behind its items so far
array_begins : (d : ℕ) (vs : List (Value Global)) (ts : List Token) → IsWithin d (array (items_view vs)) → Begins (d - 1) ts →
    Begins d (token.begin_array ∷ (flat_map value_tokens vs ++ ts))
array_begins d vs ts is inner =
    let j = inner.0 in
    let rest = inner.2 in
    let front = flat_map value_tokens vs in
    let end = token.end_array ∷ [] in
    let deep = with_item_deep (d - 1) vs j (omega (arith, is.0)) inner.1.0 in (
      array (with_item vs j),
      (omega (arith, deep, is.0), with_item_numbers vs j is.1 inner.1.1),
      rest ++ end,
      ap (λ us. token.begin_array ∷ us) (
          with_item_tokens vs j ∙ ap (λ us. front ++ (us ++ end)) inner.3 ∙ ap (λ us. front ++ us) (append_assoc ts rest end)
          ∙ sym (append_assoc front ts (rest ++ end))
          ),
    )

object_begins : (d : ℕ) (ms : List (Bor (List ℕ) × Value Global)) (name : Option (Bor (List ℕ))) (ts : List Token) →
    IsWithin d (object (members_view ms)) → IsTrue (is_some name) → Begins (d - 1) ts →
    Begins d (token.begin_object ∷ ((flat_map member_tokens ms ++ name_tokens name) ++ ts))
object_begins d ms None ts is some inner = absurd (true≢false (sym some))
object_begins d ms (Some name) ts is some inner =
    let j = inner.0 in
    let rest = inner.2 in
    let front = flat_map member_tokens ms in
    let key = token.key name.now in
    let end = token.end_object ∷ [] in
    let deep = with_member_deep (d - 1) ms name.now j (omega (arith, is.0)) inner.1.0 in (
      object (with_member ms name.now j),
      (omega (arith, deep, is.0), with_member_numbers ms name.now j is.1 inner.1.1),
      rest ++ end,
      ap (λ us. token.begin_object ∷ us) (
          with_member_tokens ms name.now j ∙ ap (λ us. front ++ key ∷ (us ++ end)) inner.3 ∙ ap (λ us. front ++ key ∷ us) (append_assoc ts rest end)
          ∙ sym (append_assoc front (key ∷ []) (ts ++ (rest ++ end))) ∙ sym (append_assoc (front ++ key ∷ []) ts (rest ++ end))
          ),
    )

open_holds : (d : ℕ) (o : Open) (ts : List Token) → IsWithin d (so_far o) → IsTrue (takes_value o) → Begins (d - 1) ts → Begins d (open_tokens o ++ ts)
open_holds d (opened.Array vs) ts is takes inner = array_begins d vs.items ts is inner
open_holds d (opened.Object ms) ts is takes inner = object_begins d ms.found.items ms.name ts is takes inner

nothing_begins : (d : ℕ) → Begins d []
nothing_begins d = (null, (omega arith, refl), token.null ∷ [], refl)

-- an object ends where it has no name
object_alone : (d : ℕ) (ms : List (Bor (List ℕ) × Value Global)) (name : Option (Bor (List ℕ))) → IsWithin d (object (members_view ms)) →
    Begins d (token.begin_object ∷ ((flat_map member_tokens ms ++ name_tokens name) ++ []))
object_alone d ms None is =
    let front = flat_map member_tokens ms in (
      object (members_view ms),
      is,
      token.end_object ∷ [],
      ap (λ us. token.begin_object ∷ us)
          (all_members ms ∙ ap (λ us. us ++ token.end_object ∷ []) (sym (append-nil front) ∙ sym (append-nil (front ++ [])))),
    )
object_alone d ms (Some name) is = object_begins d ms (Some name) [] is refl (nothing_begins (d - 1))

open_alone : (d : ℕ) (o : Open) → IsWithin d (so_far o) → Begins d (open_tokens o ++ [])
open_alone d (opened.Array vs) is = array_begins d vs.items [] is (nothing_begins (d - 1))
open_alone d (opened.Object ms) is = object_alone d ms.found.items ms.name is

-- what is open begins some JSON
pub open_begins : (d : ℕ) (os : List Open) → AreWithin d os → Begins d (read_tokens os)
open_begins d [] are = nothing_begins d
open_begins d (o ∷ []) are = open_alone d o are.0
open_begins d (o ∷ p ∷ os) are = open_holds d o (read_tokens (p ∷ os)) are.0 are.1 (open_begins (d - 1) (p ∷ os) are.2)

pub value_begins : (d : ℕ) (v : Value Global) → IsWithin d (value_view v) → Begins d (value_tokens v)
value_begins d v is = (value_view v, is, [], sym (append-nil (value_tokens v)))

-- WHAT DOESN'T

-- the JSON is read of its tokens
is_read : (d : ℕ) (ts : List Token) (begins : Begins d ts) → value d (ts ++ begins.2) ≡ Some (begins.0, [])
is_read d ts begins = ap (value d) (sym begins.3 ∙ sym (append-nil (json_tokens begins.0))) ∙ value-json_tokens begins.0 d [] begins.1.0

pub none_begins : (d : ℕ) (ts : List Token) → AreRefused d ts → ¬ (Begins d ts)
none_begins d ts none begins = true≢false (sym begins.1.1 ∙ none begins.2 begins.0 [] (is_read d ts begins))

abbrev rest_of : Option (Json × List Token) → List Token
rest_of None = []
rest_of (Some p) = p.1

no_tokens : (t : Token) (ts : List Token) → [] ≡ t ∷ ts → ⊥
no_tokens t ts is = absurd (omega (arith, ap length is))

-- nothing follows the tokens of a value
pub none_behind : (d : ℕ) (v : Value Global) (t : Token) → depth (value_view v) ≤ d → ¬ (Begins d (value_tokens v ++ t ∷ []))
none_behind d v t is begins =
    let rest = begins.2 in
    let same : [] ≡ t ∷ rest = ap rest_of (sym (is_read d (value_tokens v ++ t ∷ []) begins)
    ∙ ap (value d) (append_assoc (value_tokens v) (t ∷ []) rest) ∙ value-json_tokens (value_view v) d (t ∷ rest) is) in
    no_tokens t rest same

-- WHICH TEXTS ARE TOO DEEP
-- what comes first in one of two ways to part a list
abbrev Parted : (before front after : List Token) (t : Token) → Type 0
Parted before front after t =
    ((others : List Token) × (front ≡ before ++ others)) ⊎ ((others : List Token) × (before ≡ front ++ t ∷ others))

parted_behind : (u : Token) (before front after : List Token) (t : Token) → Parted before front after t → Parted (u ∷ before) (u ∷ front) after t
parted_behind u before front after t is =
    elim is [
      | inl longer ↦ inl (longer.0, ap (λ us. u ∷ us) longer.1)
      | inr shorter ↦ inr (shorter.0, ap (λ us. u ∷ us) shorter.1)
    ]

parted : (before after front rest : List Token) (t : Token) → before ++ after ≡ front ++ t ∷ rest → Parted before front after t
parted [] after front rest t is = inl (front, refl)
parted (u ∷ before) after [] rest t is =
    let first : u ≡ t = cc in
    inr (before, ap (λ v. v ∷ before) first)
parted (u ∷ before) after (v ∷ front) rest t is =
    let first : u ≡ v = cc in
    let behind : before ++ after ≡ front ++ t ∷ rest = cc in
    subst (λ w. Parted (u ∷ before) (w ∷ front) after t) first (parted_behind u before front after t (parted before after front rest t behind))

-- all of it begins JSON that is read
pub not_deep : (text : List ℕ) (ts : List Token) → tokens text ≡ ts → Begins max_depth ts → ¬ (IsTooDeep text)
not_deep text ts is begins deep =
    deep.4 (begins_before max_depth deep.0 deep.1 (subst (Begins max_depth) (sym is ∙ deep.2) begins))

-- some of it begins JSON that is read, and with one token more none, however deep it nests
pub refused_not_deep : (text : List ℕ) (ts rest : List Token) (t : Token) → tokens text ≡ ts ++ t ∷ rest → Begins max_depth ts →
    ((d : ℕ) → max_depth ≤ d → ¬ (Begins d (ts ++ t ∷ []))) → ¬ (IsTooDeep text)
refused_not_deep text ts rest t is begins none deep =
    elim (parted deep.0 deep.1 ts rest t (sym deep.2 ∙ is)) [
      | inl longer ↦ deep.4 (begins_before max_depth deep.0 longer.0 (subst (Begins max_depth) longer.1 begins))
      | inr shorter ↦
          let d = deep.3.0 in
          let some = subst (Begins d) (shorter.1 ∙ sym (append_assoc ts (t ∷ []) shorter.0)) deep.3.1 in
          none (max d max_depth) (omega arith) (begins_more d (max d max_depth) (ts ++ t ∷ []) (omega arith) (begins_before d (ts ++ t ∷ []) shorter.0 some))
    ]

pub is_too_deep : (text : List ℕ) (ts rest : List Token) → tokens text ≡ ts ++ rest → ((d : ℕ) × Begins d ts) → AreRefused max_depth ts → IsTooDeep text
is_too_deep text ts rest is some none = (ts, rest, is, some, none_begins max_depth ts none)
