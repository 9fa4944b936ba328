-- Of OpenJson: what comes of the arrays and objects that are open.
use Rattle.std.proofs.Common.{◌≡◌, ℕ, zero, suc, ◌-◌, ◌<◌, ◌≤◌, Bool, true, false, ◌&&◌, IsTrue, List, [], ◌∷◌, ◌++◌, length, slice_set, slice_index_or}
use Rattle.std.proofs.Common.{not, ◌≢◌, Option, Some, None, Result, Ok, Err, IfOk, option_map, option_and_then, if◌then◌else◌, is_some}
use Rattle.std.proofs.Common.{refl, sym, ap, ◌∙◌, subst, true≢false, arith, append_assoc, append-nil, flat_map}
use Rattle.std.specs.Bool.{MatchBool}
use Rattle.std.specs.Borrow.{Bor}
use Rattle.std.specs.declared.alloc.AllocError.{AllocError}
use Rattle.std.specs.declared.alloc.Global.{Global}
use Rattle.json.proofs.Grammar.{members_no_key, value_is}
use Rattle.json.specs.Json as json
use Rattle.json.specs.Json.{Json, array, object, members, value, after_end_array, if_last, read_key}
use Rattle.json.specs.Token as spec
use Rattle.json.specs.Tree.{depth, json_tokens, items_depth, items_tokens, members_depth, members_tokens}
use Rattle.json.specs.Value.{items_view, members_view, value_view}
use Rattle.json.specs.declared.value.Value.{Value}
use Rattle.std.proofs.lemmas.Grind.{flat_map-append}
use Rattle.parsed_json.proofs.Begun.{all_members, both_true, is_too_deep, none_begins, none_behind, not_deep, open_begins, refused_not_deep}
use Rattle.parsed_json.proofs.Begun.{true_both, value_begins, within_more}
use Rattle.parsed_json.proofs.Refused.{all_read, array_refused, first_member_refused, none_read, nothing, object_refused, this_one}
use Rattle.json.specs.Lex.{tokens as tokens_of}
use Rattle.json.specs.Reads.{token_of}
use Rattle.json.specs.declared.token.Token.{Token}
use Rattle.json.specs.declared.token.Token.TheVariants as tokens
use Rattle.json.proofs.Printed.Trees.{value-json_tokens}
use Rattle.serde_json.specs.Data.{Data}
use Rattle.serde_json.specs.Read.{max_depth, number_of, of_json, read}
use Rattle.parsed_json.specs.Depth.{Begins, IsWithin}
use Rattle.parsed_json.specs.OpenJson.{AreRefused, AreWithin, IsProgress, IsReadingOf, ended_array, ended_object, HasPlaceFor, innermost_takes_value}
use Rattle.parsed_json.specs.OpenJson.{member_tokens, name_tokens, open_tokens, read_tokens, so_far, takes_name, takes_value, value_tokens}
use Rattle.parsed_json.specs.ParsedJson.{NoneWith, leaf_of, parsed_data, has_numbers, items_have_numbers, members_have_numbers}
use Rattle.parsed_json.specs.declared.parse.Open.{Open}
use Rattle.parsed_json.specs.declared.parse.Open.TheVariants as opened
use Rattle.parsed_json.specs.declared.parse.Members.{Members}
use Rattle.parsed_json.specs.declared.parse.Progress.TheVariants as progress
use Rattle.parsed_json.specs.declared.parse.Reading.TheVariants as reading

read_tokens-append : (os : List Open) (o : Open) → read_tokens (os ++ o ∷ []) ≡ read_tokens os ++ open_tokens o
read_tokens-append os o = flat_map-append open_tokens os (o ∷ []) ∙ ap (λ ts. read_tokens os ++ ts) (append-nil (open_tokens o))

last_open : (os : List Open) (o : Open) (rest : List spec.Token) → read_tokens (os ++ o ∷ []) ++ rest ≡ read_tokens os ++ (open_tokens o ++ rest)
last_open os o rest = ap (λ ts. ts ++ rest) (read_tokens-append os o) ∙ append_assoc (read_tokens os) (open_tokens o) rest

-- HOW DEEP

open_deep : (d : ℕ) (o : Open) → IsWithin d (so_far o) → 0 < d
open_deep d (opened.Array vs) is = omega (arith, is.0)
open_deep d (opened.Object ms) is = omega (arith, is.0)

pub few : (d : ℕ) (os : List Open) → AreWithin d os → length os ≤ d
few d [] are = omega arith
few d (o ∷ os) are = omega (arith, open_deep d o are.0, few (d - 1) os are.2)

place_behind : (os : List Open) (o p : Open) → HasPlaceFor (os ++ o ∷ []) p → HasPlaceFor os p
place_behind [] o p has = tt
place_behind (q ∷ os) o p has = has

outer_within : (d : ℕ) (os : List Open) (o : Open) → AreWithin d (os ++ o ∷ []) → AreWithin d os
outer_within d [] o are = tt
outer_within d (p ∷ os) o are = (are.0, place_behind os o p are.1, outer_within (d - 1) os o are.2)

none_less : (d : ℕ) → d - 0 ≡ d
none_less d = omega arith

one_less : (d n : ℕ) → d - 1 - n ≡ d - suc n
one_less d n = omega arith

inner_within : (d : ℕ) (os : List Open) (o : Open) → AreWithin d (os ++ o ∷ []) → IsWithin (d - length os) (so_far o)
inner_within d [] o are = subst (λ n. IsWithin n (so_far o)) (sym (none_less d)) are.0
inner_within d (p ∷ os) o are = subst (λ n. IsWithin n (so_far o)) (one_less d (length os)) (inner_within (d - 1) os o are.2)

has_place : (d : ℕ) (os : List Open) (o : Open) → AreWithin d (os ++ o ∷ []) → IsTrue (innermost_takes_value os)
has_place d [] o are = refl
has_place d (p ∷ []) o are = are.1
has_place d (p ∷ q ∷ os) o are = has_place (d - 1) (q ∷ os) o are.2

all_within : (d : ℕ) (os : List Open) (o : Open) → AreWithin d os → IsTrue (innermost_takes_value os) → IsWithin (d - length os) (so_far o) →
    AreWithin d (os ++ o ∷ [])
all_within d [] o are takes is = (subst (λ n. IsWithin n (so_far o)) (none_less d) is, tt, tt)
all_within d (p ∷ []) o are takes is = (are.0, takes, (is, tt, tt))
all_within d (p ∷ q ∷ os) o are takes is =
    (are.0, are.1, all_within (d - 1) (q ∷ os) o are.2 takes (subst (λ n. IsWithin n (so_far o)) (sym (one_less d (length (q ∷ os)))) is))

are_within_more : (d e : ℕ) (os : List Open) → d ≤ e → AreWithin d os → AreWithin e os
are_within_more d e [] more are = tt
are_within_more d e (o ∷ os) more are =
    (within_more d e (so_far o) more are.0, are.1, are_within_more (d - 1) (e - 1) os (omega (arith, more)) are.2)

-- WHAT IS REFUSED

no_end : (o : Open) (rest : List spec.Token) → after_end_array (open_tokens o ++ rest) ≡ None
no_end (opened.Array vs) rest = refl
no_end (opened.Object ms) rest = refl

no_key : (o : Open) (rest : List spec.Token) → read_key (open_tokens o ++ rest) ≡ None
no_key (opened.Array vs) rest = refl
no_key (opened.Object ms) rest = refl

value_is_no_key : (j : Json) (rest : List spec.Token) → read_key (json_tokens j ++ rest) ≡ None
value_is_no_key json.null rest = refl
value_is_no_key (json.boolean b) rest = refl
value_is_no_key (json.number s) rest = refl
value_is_no_key (json.string s) rest = refl
value_is_no_key (array js) rest = refl
value_is_no_key (object ms) rest = refl

no_end_behind : (os : List Open) (rest : List spec.Token) → after_end_array rest ≡ None → after_end_array (read_tokens os ++ rest) ≡ None
no_end_behind [] rest none = none
no_end_behind (opened.Array vs ∷ os) rest none = refl
no_end_behind (opened.Object ms ∷ os) rest none = refl

no_key_behind : (os : List Open) (rest : List spec.Token) → read_key rest ≡ None → read_key (read_tokens os ++ rest) ≡ None
no_key_behind [] rest none = none
no_key_behind (opened.Array vs ∷ os) rest none = refl
no_key_behind (opened.Object ms ∷ os) rest none = refl

next_member : (d : ℕ) (name : Option (Bor (List ℕ))) (rest : List spec.Token) (m : ℕ) →
    (name ≡ None → read_key rest ≡ None) → (IsTrue (is_some name) → NoneWith has_numbers (value d rest)) →
    NoneWith members_have_numbers (members (value d) m (name_tokens name ++ rest))
next_member d None rest m unnamed named = nothing members_have_numbers _ (members_no_key (value d) m rest (unnamed refl))
next_member d (Some name) rest m unnamed named = first_member_refused (value d) m name.now rest (named refl)

-- in an object no name comes next, or no value that is read behind it
refused_in_object : (d : ℕ) (ms : Members) (rest : List spec.Token) → IsWithin d (so_far (opened.Object ms)) →
    (ms.name ≡ None → read_key rest ≡ None) → (IsTrue (is_some ms.name) → NoneWith has_numbers (value (d - 1) rest)) →
    NoneWith has_numbers (value d (open_tokens (opened.Object ms) ++ rest))
refused_in_object d ms rest is unnamed named =
    let found = ms.found.items in
    subst (λ ts. NoneWith has_numbers (value d (spec.begin_object ∷ ts))) (sym (append_assoc (flat_map member_tokens found) (name_tokens ms.name) rest))
    (object_refused d found (name_tokens ms.name ++ rest) (omega (arith, is.0)) (λ m. next_member (d - 1) ms.name rest m unnamed named))

-- a value that is refused, and no end and no name in its place
refused_in : (d : ℕ) (o : Open) (rest : List spec.Token) → IsWithin d (so_far o) → after_end_array rest ≡ None → read_key rest ≡ None →
    NoneWith has_numbers (value (d - 1) rest) → NoneWith has_numbers (value d (open_tokens o ++ rest))
refused_in d (opened.Array vs) rest is ends names none = array_refused d vs.items rest (omega (arith, is.0)) ends none
refused_in d (opened.Object ms) rest is ends names none = refused_in_object d ms rest is (λ _. names) (λ _. none)

-- the same, in all that is open
value_refused : (d : ℕ) (os : List Open) (rest : List spec.Token) → AreWithin d os → after_end_array rest ≡ None → read_key rest ≡ None →
    NoneWith has_numbers (value (d - length os) rest) → NoneWith has_numbers (value d (read_tokens os ++ rest))
value_refused d [] rest are ends names none = subst (λ n. NoneWith has_numbers (value n rest)) (none_less d) none
value_refused d (o ∷ os) rest are ends names none =
    let inner = subst (λ n. NoneWith has_numbers (value n rest)) (sym (one_less d (length os))) none in
    subst (λ ts. NoneWith has_numbers (value d ts)) (sym (append_assoc (open_tokens o) (read_tokens os) rest))
    (refused_in d o (read_tokens os ++ rest) are.0 (no_end_behind os rest ends) (no_key_behind os rest names)
    (value_refused (d - 1) os rest are.2 ends names inner))

-- what is refused in the innermost is refused
refused_within : (d : ℕ) (os : List Open) (o : Open) (rest : List spec.Token) → AreWithin d os →
    NoneWith has_numbers (value (d - length os) (open_tokens o ++ rest)) → NoneWith has_numbers (value d (read_tokens (os ++ o ∷ []) ++ rest))
refused_within d os o rest are none =
    subst (λ ts. NoneWith has_numbers (value d ts)) (sym (last_open os o rest))
    (value_refused d os (open_tokens o ++ rest) are (no_end o rest) (no_key o rest) none)

-- THE INNERMOST

last_is : {A : Type 0} (xs : List A) (k : ℕ) (x : A) → length xs ≡ suc k → x ≡ slice_index_or xs k x →
    (front : List A) × (xs ≡ front ++ x ∷ []) × (length front ≡ k) × ((y : A) → slice_set xs k y ≡ front ++ y ∷ [])
last_is [] k x len is = absurd (omega arith)
last_is (w ∷ []) zero x len is = ([], ap (λ y. y ∷ []) (sym is), refl, λ y. refl)
last_is (w ∷ []) (suc k) x len is = absurd (omega arith)
last_is (w ∷ v ∷ xs) zero x len is = absurd (omega arith)
last_is (w ∷ v ∷ xs) (suc k) x len is =
    let more = last_is (v ∷ xs) k x (omega (arith, len)) is in
    (w ∷ more.0, ap (λ ys. w ∷ ys) more.1, omega (arith, more.2), λ y. ap (λ ys. w ∷ ys) (more.3 y))

-- the innermost has taken in these tokens
pub grown : (os : List Open) (k : ℕ) (o p : Open) (ts : List spec.Token) → length os ≡ suc k → o ≡ slice_index_or os k o → AreWithin max_depth os →
    open_tokens p ≡ open_tokens o ++ ts → (IsWithin (max_depth - k) (so_far o) → IsWithin (max_depth - k) (so_far p)) →
    IsProgress (read_tokens os ++ ts) progress.Unfinished (slice_set os k p)
grown os k o p ts len is are same keeps =
    let last = last_is os k o len is in
    let front = last.0 in
    let parts = subst (AreWithin max_depth) last.1 are in
    let inner = subst (λ n. IsWithin (max_depth - n) (so_far o)) last.2 (inner_within max_depth front o parts) in
    let kept = subst (λ n. IsWithin (max_depth - n) (so_far p)) (sym last.2) (keeps inner) in
    subst (λ ps. (read_tokens os ++ ts ≡ read_tokens ps) × AreWithin max_depth ps) (sym (last.3 p)) (
      ap (λ qs. read_tokens qs ++ ts) last.1 ∙ ap (λ us. us ++ ts) (read_tokens-append front o) ∙ append_assoc (read_tokens front) (open_tokens o) ts
          ∙ ap (λ us. read_tokens front ++ us) (sym same) ∙ sym (read_tokens-append front p),
      all_within max_depth front p (outer_within max_depth front o parts) (has_place max_depth front o parts) kept,
    )

stuck_at : (d : ℕ) (front : List Open) (o : Open) (os : List Open) (rest : List spec.Token) → os ≡ front ++ o ∷ [] → AreWithin d os →
    ((n : ℕ) → IsWithin n (so_far o) → NoneWith has_numbers (value n (open_tokens o ++ rest))) → NoneWith has_numbers (value d (read_tokens os ++ rest))
stuck_at d front o os rest is are none =
    let parts = subst (AreWithin d) is are in
    subst (λ ps. NoneWith has_numbers (value d (read_tokens ps ++ rest))) (sym is)
    (refused_within d front o rest (outer_within d front o parts) (none (d - length front) (inner_within d front o parts)))

-- these tokens are refused in the innermost, so behind all that was read
stuck : (os : List Open) (front : List Open) (o : Open) (ts : List spec.Token) → os ≡ front ++ o ∷ [] → AreWithin max_depth os →
    ((rest : List spec.Token) (n : ℕ) → IsWithin n (so_far o) → NoneWith has_numbers (value n (open_tokens o ++ (ts ++ rest)))) →
    IsProgress (read_tokens os ++ ts) progress.Refused os
stuck os front o ts is are none d more rest =
    subst (λ us. NoneWith has_numbers (value d us)) (sym (append_assoc (read_tokens os) ts rest))
    (stuck_at d front o os (ts ++ rest) is (are_within_more max_depth d os more are) (none rest))

-- nothing but a name comes next in an object that has none
unnamed : (d : ℕ) (o : Open) (rest : List spec.Token) → takes_value o ≡ false → read_key rest ≡ None → IsWithin d (so_far o) →
    NoneWith has_numbers (value d (open_tokens o ++ rest))
unnamed d (opened.Array vs) rest none no_name is = absurd (true≢false none)
unnamed d (opened.Object ms) rest none no_name is = refused_in_object d ms rest is (λ _. no_name) (λ some. absurd (true≢false (sym some ∙ none)))

pub no_value_place : (os : List Open) (k : ℕ) (o : Open) (v : Value Global) → length os ≡ suc k → o ≡ slice_index_or os k o → AreWithin max_depth os →
    takes_value o ≡ false → IsProgress (read_tokens os ++ value_tokens v) progress.Refused os
no_value_place os k o v len is are none =
    let last = last_is os k o len is in
    stuck os last.0 o (value_tokens v) last.1 are (λ rest n. unnamed n o (value_tokens v ++ rest) none (value_is_no_key (value_view v) rest))

last_takes : (os : List Open) (o : Open) → innermost_takes_value (os ++ o ∷ []) ≡ takes_value o
last_takes [] o = refl
last_takes (p ∷ []) o = refl
last_takes (p ∷ q ∷ os) o = last_takes (q ∷ os) o

pub innermost_is : (os : List Open) (o : Open) → 0 < length os → o ≡ slice_index_or os (length os - 1) o → takes_value o ≡ innermost_takes_value os
innermost_is os o some is =
    let last = last_is os (length os - 1) o (omega arith) is in
    sym (ap innermost_takes_value last.1 ∙ last_takes last.0 o)

last_without_place : (os : List Open) → innermost_takes_value os ≡ false →
    (front : List Open) × (o : Open) × (os ≡ front ++ o ∷ []) × (takes_value o ≡ false)
last_without_place [] none = absurd (true≢false none)
last_without_place (o ∷ []) none = ([], o, refl, none)
last_without_place (o ∷ p ∷ os) none =
    let more = last_without_place (p ∷ os) none in (o ∷ more.0, more.1, ap (λ ps. o ∷ ps) more.2, more.3)

pub no_open_place : (os : List Open) (p : Open) → AreWithin max_depth os → innermost_takes_value os ≡ false →
    IsProgress (read_tokens os ++ open_tokens p) progress.Refused os
no_open_place os p are none =
    let last = last_without_place os none in
    stuck os last.0 last.1 (open_tokens p) last.2 are (λ rest n. unnamed n last.1 (open_tokens p ++ rest) last.3 (no_key p rest))

key_refused : (d : ℕ) (k : List ℕ) (rest : List spec.Token) → NoneWith has_numbers (value d (spec.key k ∷ rest))
key_refused d k rest = nothing has_numbers _ (value_is d (spec.key k ∷ rest))

end_array_refused : (d : ℕ) (rest : List spec.Token) → NoneWith has_numbers (value d (spec.end_array ∷ rest))
end_array_refused d rest = nothing has_numbers _ (value_is d (spec.end_array ∷ rest))

end_object_refused : (d : ℕ) (rest : List spec.Token) → NoneWith has_numbers (value d (spec.end_object ∷ rest))
end_object_refused d rest = nothing has_numbers _ (value_is d (spec.end_object ∷ rest))

key_in : (d : ℕ) (o : Open) (k : List ℕ) (rest : List spec.Token) → takes_name o ≡ false → IsWithin d (so_far o) →
    NoneWith has_numbers (value d (open_tokens o ++ spec.key k ∷ rest))
key_in d (opened.Array vs) k rest none is = array_refused d vs.items (spec.key k ∷ rest) (omega (arith, is.0)) refl (key_refused (d - 1) k rest)
key_in d (opened.Object ms) k rest none is =
    refused_in_object d ms (spec.key k ∷ rest) is (λ missing. absurd (true≢false (sym (ap (λ o. not (is_some o)) missing) ∙ none)))
    (λ _. key_refused (d - 1) k rest)

pub no_name_place : (os : List Open) (k : ℕ) (o : Open) (name : List ℕ) → length os ≡ suc k → o ≡ slice_index_or os k o → AreWithin max_depth os →
    takes_name o ≡ false → IsProgress (read_tokens os ++ spec.key name ∷ []) progress.Refused os
no_name_place os k o name len is are none =
    let last = last_is os k o len is in
    stuck os last.0 o (spec.key name ∷ []) last.1 are (λ rest n. key_in n o name rest none)

-- nothing is open
none_open : (os : List Open) (t : spec.Token) → length os ≡ 0 → ((d : ℕ) (rest : List spec.Token) → NoneWith has_numbers (value d (t ∷ rest))) →
    IsProgress (read_tokens os ++ t ∷ []) progress.Refused os
none_open [] t len none d more rest = none d rest
none_open (o ∷ os) t len none d more rest = absurd (omega arith)

pub none_there : (n : ℕ) → (0 < n → false ≡ true) → n ≡ 0
none_there zero some = refl
none_there (suc n) some = absurd (true≢false (sym (some (omega arith))))

pub name_alone : (os : List Open) (name : List ℕ) → length os ≡ 0 → IsProgress (read_tokens os ++ spec.key name ∷ []) progress.Refused os
name_alone os name len = none_open os (spec.key name) len (λ d. key_refused d name)

-- BEGINNING AND ENDING

pub begun : (os : List Open) (o : Open) → AreWithin max_depth os → IsTrue (innermost_takes_value os) → length os ≢ max_depth → IsWithin 1 (so_far o) →
    IsProgress (read_tokens os ++ open_tokens o) progress.Unfinished (os ++ o ∷ [])
begun os o are takes room is =
    (sym (read_tokens-append os o), all_within max_depth os o are takes (omega (arith, few max_depth os are, is.0), is.1))

none_so_deep : (o : Open) (rest : List spec.Token) → NoneWith has_numbers (value 0 (open_tokens o ++ rest))
unfolding value
none_so_deep (opened.Array vs) rest = nothing has_numbers _ refl
none_so_deep (opened.Object ms) rest = nothing has_numbers _ refl

refused_deep : (os : List Open) (o : Open) → AreWithin max_depth os → length os ≡ max_depth → AreRefused max_depth (read_tokens os ++ open_tokens o)
refused_deep os o are full rest =
    let none_left : 0 ≡ max_depth - length os = omega arith in
    subst (λ ts. NoneWith has_numbers (value max_depth ts)) (sym (append_assoc (read_tokens os) (open_tokens o) rest))
    (value_refused max_depth os (open_tokens o ++ rest) are (no_end o rest) (no_key o rest)
    (subst (λ d. NoneWith has_numbers (value d (open_tokens o ++ rest))) none_left (none_so_deep o rest)))

-- one more would nest deeper than is read
pub too_deep : (os : List Open) (o : Open) → AreWithin max_depth os → IsTrue (innermost_takes_value os) → IsWithin 1 (so_far o) → length os ≡ max_depth →
    IsProgress (read_tokens os ++ open_tokens o) progress.TooDeep os
too_deep os o are takes is full =
    let room : suc max_depth - length os ≡ 1 = omega arith in
    let more : max_depth ≤ suc max_depth = omega arith in
    let wide = all_within (suc max_depth) os o (are_within_more max_depth (suc max_depth) os more are) takes
    (subst (λ n. IsWithin n (so_far o)) (sym room) is) in (
      (suc max_depth, subst (Begins (suc max_depth)) (read_tokens-append os o) (open_begins (suc max_depth) (os ++ o ∷ []) wide)),
      refused_deep os o are full,
    )

pub popped : (os front : List Open) (o : Open) → os ≡ front ++ o ∷ [] → AreWithin max_depth os →
    AreWithin max_depth front × IsWithin (max_depth - length front) (so_far o)
popped os front o is are =
    let parts = subst (AreWithin max_depth) is are in (outer_within max_depth front o parts, inner_within max_depth front o parts)

all_items : (vs : List (Value Global)) → items_tokens (items_view vs) ≡ flat_map value_tokens vs ++ spec.end_array ∷ []
all_items [] = refl
all_items (v ∷ vs) = ap (λ ts. value_tokens v ++ ts) (all_items vs) ∙ sym (append_assoc (value_tokens v) (flat_map value_tokens vs) (spec.end_array ∷ []))

ends : (os front : List Open) (o : Open) (v : Value Global) (end : spec.Token) → os ≡ front ++ o ∷ [] → value_tokens v ≡ open_tokens o ++ end ∷ [] →
    read_tokens front ++ value_tokens v ≡ read_tokens os ++ end ∷ []
ends os front o v end is whole =
    ap (λ ts. read_tokens front ++ ts) whole ∙ sym (last_open front o (end ∷ [])) ∙ ap (λ ps. read_tokens ps ++ end ∷ []) (sym is)

the_one : {A : Type 0} (a b : A) → Some a ≡ Some b → a ≡ b
the_one a b is = cc

none_is_some : {A : Type 0} {B : Type 0} (a : A) → None ≡ Some a → B
none_is_some a is = absurd (true≢false (sym (ap is_some is)))

array_is : (o : Open) (j : Json) → Some j ≡ ended_array o → (j ≡ so_far o) × (json_tokens j ≡ open_tokens o ++ spec.end_array ∷ [])
array_is (opened.Array vs) j is =
    let same = the_one j (array (items_view vs.items)) is in
    (same, ap json_tokens same ∙ ap (λ ts. spec.begin_array ∷ ts) (all_items vs.items))
array_is (opened.Object ms) j is = none_is_some j (sym is)

pub array_within : (o : Open) (v : Value Global) (d : ℕ) → Some (value_view v) ≡ ended_array o → IsWithin d (so_far o) → IsWithin d (value_view v)
array_within o v d is within = subst (IsWithin d) (sym (array_is o (value_view v) is).0) within

pub array_ends : (os front : List Open) (o : Open) (v : Value Global) → os ≡ front ++ o ∷ [] → Some (value_view v) ≡ ended_array o →
    read_tokens front ++ value_tokens v ≡ read_tokens os ++ spec.end_array ∷ []
array_ends os front o v last is = ends os front o v spec.end_array last (array_is o (value_view v) is).1

no_array : (o : Open) → None ≡ ended_array o → (rest : List spec.Token) (d : ℕ) → IsWithin d (so_far o) →
    NoneWith has_numbers (value d (open_tokens o ++ spec.end_array ∷ rest))
no_array (opened.Array vs) none rest d is = none_is_some (array (items_view vs.items)) none
no_array (opened.Object ms) none rest d is = refused_in_object d ms (spec.end_array ∷ rest) is (λ _. refl) (λ _. end_array_refused (d - 1) rest)

pub no_array_ends : (os front : List Open) (o : Open) → os ≡ front ++ o ∷ [] → AreWithin max_depth os → None ≡ ended_array o →
    IsProgress (read_tokens os ++ spec.end_array ∷ []) progress.Refused front
no_array_ends os front o is are none = stuck os front o (spec.end_array ∷ []) is are (no_array o none)

object_when : (named : Bool) (j k : Json) → Some k ≡ (if named then None else Some j) → (named ≡ false) × (k ≡ j)
object_when true j k is = none_is_some k (sym is)
object_when false j k is = (refl, the_one k j is)

unnamed_is : (name : Option (Bor (List ℕ))) → is_some name ≡ false → name_tokens name ≡ []
unnamed_is None none = refl
unnamed_is (Some name) none = absurd (true≢false none)

object_is : (o : Open) (j : Json) → Some j ≡ ended_object o → (j ≡ so_far o) × (json_tokens j ≡ open_tokens o ++ spec.end_object ∷ [])
object_is (opened.Array vs) j is = none_is_some j (sym is)
object_is (opened.Object ms) j is =
    let found = flat_map member_tokens ms.found.items in
    let when = object_when (is_some ms.name) (object (members_view ms.found.items)) j is in
    let bare = ap (λ names. found ++ names) (unnamed_is ms.name when.0) ∙ append-nil found in
    (when.1, ap json_tokens when.1 ∙ ap (λ ts. spec.begin_object ∷ ts) (all_members ms.found.items ∙ ap (λ ts. ts ++ spec.end_object ∷ []) (sym bare)))

pub object_within : (o : Open) (v : Value Global) (d : ℕ) → Some (value_view v) ≡ ended_object o → IsWithin d (so_far o) → IsWithin d (value_view v)
object_within o v d is within = subst (IsWithin d) (sym (object_is o (value_view v) is).0) within

pub object_ends : (os front : List Open) (o : Open) (v : Value Global) → os ≡ front ++ o ∷ [] → Some (value_view v) ≡ ended_object o →
    read_tokens front ++ value_tokens v ≡ read_tokens os ++ spec.end_object ∷ []
object_ends os front o v last is = ends os front o v spec.end_object last (object_is o (value_view v) is).1

no_object_when : (named : Bool) (j : Json) → None ≡ (if named then None else Some j) → IsTrue named
no_object_when true j none = refl
no_object_when false j none = none_is_some j none

no_object : (o : Open) → None ≡ ended_object o → (rest : List spec.Token) (d : ℕ) → IsWithin d (so_far o) →
    NoneWith has_numbers (value d (open_tokens o ++ spec.end_object ∷ rest))
no_object (opened.Array vs) none rest d is = array_refused d vs.items (spec.end_object ∷ rest) (omega (arith, is.0)) refl (end_object_refused (d - 1) rest)
no_object (opened.Object ms) none rest d is =
    let named = no_object_when (is_some ms.name) (object (members_view ms.found.items)) none in
    refused_in_object d ms (spec.end_object ∷ rest) is (λ missing. absurd (true≢false (sym named ∙ ap is_some missing))) (λ _. end_object_refused (d - 1) rest)

pub no_object_ends : (os front : List Open) (o : Open) → os ≡ front ++ o ∷ [] → AreWithin max_depth os → None ≡ ended_object o →
    IsProgress (read_tokens os ++ spec.end_object ∷ []) progress.Refused front
no_object_ends os front o is are none = stuck os front o (spec.end_object ∷ []) is are (no_object o none)

pub array_end_alone : (os : List Open) → length os ≡ 0 → IsProgress (read_tokens os ++ spec.end_array ∷ []) progress.Refused os
array_end_alone os len = none_open os spec.end_array len end_array_refused

pub object_end_alone : (os : List Open) → length os ≡ 0 → IsProgress (read_tokens os ++ spec.end_object ∷ []) progress.Refused os
object_end_alone os len = none_open os spec.end_object len end_object_refused

-- ONE MORE

items_deep : (d : ℕ) (vs : List (Value Global)) (v : Value Global) → items_depth (items_view vs) ≤ d → depth (value_view v) ≤ d →
    items_depth (items_view (vs ++ v ∷ [])) ≤ d
items_deep d [] v are is = omega arith
items_deep d (w ∷ vs) v are is = omega (arith, items_deep d vs v (omega arith) is)

members_deep : (d : ℕ) (ms : List (Bor (List ℕ) × Value Global)) (m : Bor (List ℕ) × Value Global) → members_depth (members_view ms) ≤ d →
    depth (value_view m.1) ≤ d → members_depth (members_view (ms ++ m ∷ [])) ≤ d
members_deep d [] m are is = omega arith
members_deep d (w ∷ ms) m are is = omega (arith, members_deep d ms m (omega arith) is)

items_numbers : (vs : List (Value Global)) (v : Value Global) → IsTrue (items_have_numbers (items_view vs)) → IsTrue (has_numbers (value_view v)) →
    IsTrue (items_have_numbers (items_view (vs ++ v ∷ [])))
items_numbers [] v are is = true_both (has_numbers (value_view v)) true is refl
items_numbers (w ∷ vs) v are is =
    let one = both_true (has_numbers (value_view w)) (items_have_numbers (items_view vs)) are in
    true_both (has_numbers (value_view w)) (items_have_numbers (items_view (vs ++ v ∷ []))) one.0 (items_numbers vs v one.1 is)

members_numbers : (ms : List (Bor (List ℕ) × Value Global)) (m : Bor (List ℕ) × Value Global) → IsTrue (members_have_numbers (members_view ms)) →
    IsTrue (has_numbers (value_view m.1)) → IsTrue (members_have_numbers (members_view (ms ++ m ∷ [])))
members_numbers [] m are is = true_both (has_numbers (value_view m.1)) true is refl
members_numbers (w ∷ ms) m are is =
    let one = both_true (has_numbers (value_view w.1)) (members_have_numbers (members_view ms)) are in
    true_both (has_numbers (value_view w.1)) (members_have_numbers (members_view (ms ++ m ∷ []))) one.0 (members_numbers ms m one.1 is)

pub item_within : (d : ℕ) (vs : List (Value Global)) (v : Value Global) → IsWithin d (array (items_view vs)) → IsWithin (d - 1) (value_view v) →
    IsWithin d (array (items_view (vs ++ v ∷ [])))
item_within d vs v are is =
    let deep = items_deep (d - 1) vs v (omega (arith, are.0)) is.0 in
    (omega (arith, deep, are.0), items_numbers vs v are.1 is.1)

member_within : (d : ℕ) (ms : List (Bor (List ℕ) × Value Global)) (m : Bor (List ℕ) × Value Global) → IsWithin d (object (members_view ms)) →
    IsWithin (d - 1) (value_view m.1) → IsWithin d (object (members_view (ms ++ m ∷ [])))
member_within d ms m are is =
    let deep = members_deep (d - 1) ms m (omega (arith, are.0)) is.0 in
    (omega (arith, deep, are.0), members_numbers ms m are.1 is.1)

-- a member whose name was read, or none
named_within : (d : ℕ) (before after : List (Bor (List ℕ) × Value Global)) (name : Option (Bor (List ℕ))) (v : Value Global) →
    Some after ≡ option_map (λ k. before ++ (k, v) ∷ []) name → IsWithin d (object (members_view before)) → IsWithin (d - 1) (value_view v) →
    IsWithin d (object (members_view after))
named_within d before after None v is are also = absurd (true≢false (ap is_some is))
named_within d before after (Some k) v is are also =
    subst (λ ms. IsWithin d (object (members_view ms))) (sym (the_one after (before ++ (k, v) ∷ []) is)) (member_within d before (k, v) are also)

pub added_within : (result : Result Bool AllocError) (before after : Members) (v : Value Global) →
    IfOk result (λ added. MatchBool added
    ((after.name ≡ None) × (Some after.found.items ≡ option_map (λ k. before.found.items ++ (k, v) ∷ []) before.name)) (before.name ≡ None)) →
    (d : ℕ) → IsWithin d (so_far (opened.Object before)) → IsWithin (d - 1) (value_view v) →
    IfOk result (λ added. IsTrue added → IsWithin d (so_far (opened.Object after)))
added_within (Err e) before after v is d are also = _
added_within (Ok true) before after v is d are also = λ _. named_within d before.found.items after.found.items before.name v is.1 are also
added_within (Ok false) before after v is d are also = λ no. absurd (true≢false (sym no))

-- TOKENS THAT ARE VALUES

none_if : (b : Bool) (j : Json) → None ≡ (if b then Some j else None) → b ≡ false
none_if true j none = none_is_some j none
none_if false j none = refl

number_refused : (d : ℕ) (s : List ℕ) (rest : List spec.Token) → is_some (number_of s) ≡ false → NoneWith has_numbers (value d (spec.number s ∷ rest))
number_refused d s rest none = this_one has_numbers _ (json.number s) rest (value_is d (spec.number s ∷ rest)) none

single_refused : (os : List Open) (t : spec.Token) → AreWithin max_depth os →
    ((rest : List spec.Token) → (after_end_array (t ∷ rest) ≡ None) × (read_key (t ∷ rest) ≡ None)) →
    ((d : ℕ) (rest : List spec.Token) → NoneWith has_numbers (value d (t ∷ rest))) → IsProgress (read_tokens os ++ t ∷ []) progress.Refused os
single_refused os t are bare none d more rest =
    subst (λ ts. NoneWith has_numbers (value d ts)) (sym (append_assoc (read_tokens os) (t ∷ []) rest))
    (value_refused d os (t ∷ rest) (are_within_more max_depth d os more are) (bare rest).0 (bare rest).1 (none (d - length os) rest))

pub leaf_refused : (os : List Open) (t : Token) → AreWithin max_depth os → None ≡ leaf_of (token_of t) →
    (t ≡ tokens.BeginArray → ⊥) → (t ≡ tokens.EndArray → ⊥) → (t ≡ tokens.BeginObject → ⊥) → (t ≡ tokens.EndObject → ⊥) →
    ((s : Bor (List ℕ)) → t ≡ tokens.Key s → ⊥) → IsProgress (read_tokens os ++ token_of t ∷ []) progress.Refused os
leaf_refused os tokens.BeginArray are none a b c d e = absurd (a refl)
leaf_refused os tokens.EndArray are none a b c d e = absurd (b refl)
leaf_refused os tokens.BeginObject are none a b c d e = absurd (c refl)
leaf_refused os tokens.EndObject are none a b c d e = absurd (d refl)
leaf_refused os (tokens.Key s) are none a b c d e = absurd (e s refl)
leaf_refused os (tokens.String s) are none a b c d e = none_is_some (json.string s.now) none
leaf_refused os (tokens.Bool is) are none a b c d e = none_is_some (json.boolean is) none
leaf_refused os tokens.Null are none a b c d e = none_is_some json.null none
leaf_refused os (tokens.Number s) are none a b c d e =
    single_refused os (spec.number s.now) are (λ rest. (refl, refl))
    (λ depth rest. number_refused depth s.now rest (none_if (is_some (number_of s.now)) (json.number s.now) none))
leaf_refused os tokens.Bad are none a b c d e =
    single_refused os spec.bad are (λ rest. (refl, refl)) (λ depth rest. nothing has_numbers _ (value_is depth (spec.bad ∷ rest)))

-- THE WHOLE TEXT

abbrev of_value : Option (Json × List spec.Token) → Option Data
of_value parsed = option_and_then of_json (option_and_then (λ p. if_last p.0 p.1) parsed)

text_refused : (text : List ℕ) (ts : List spec.Token) → tokens_of text ≡ ts → NoneWith has_numbers (value max_depth ts) → None ≡ read text
text_refused text ts is none = sym (none_read (value max_depth ts) none) ∙ ap (λ us. of_value (value max_depth us)) (sym is)

value_read : (text : List ℕ) (v : Value Global) (rest : List spec.Token) → tokens_of text ≡ value_tokens v ++ rest →
    IsWithin max_depth (value_view v) → read text ≡ option_and_then of_json (if_last (value_view v) rest)
value_read text v rest is within =
    ap (λ us. of_value (value max_depth us)) is ∙ ap of_value (value-json_tokens (value_view v) max_depth rest within.0)

-- all tokens, of which so many were read
all_tokens : (text : List ℕ) (all ts read rest : List spec.Token) → all ≡ tokens_of text → all ≡ read ++ ts → ts ≡ rest → tokens_of text ≡ read ++ rest
all_tokens text all ts read rest is comes next = sym is ∙ comes ∙ ap (λ us. read ++ us) next

one_more : (text : List ℕ) (read rest : List spec.Token) (t : spec.Token) → tokens_of text ≡ read ++ t ∷ rest → tokens_of text ≡ (read ++ t ∷ []) ++ rest
one_more text read rest t is = is ∙ sym (append_assoc read (t ∷ []) rest)

pub unfinished : (text : List ℕ) (os : List Open) (all ts : List spec.Token) → all ≡ tokens_of text → all ≡ read_tokens os ++ ts →
    AreWithin max_depth os → ts ≡ [] → IsReadingOf text reading.NotJson
unfinished text os all ts is comes are none_left =
    let whole = all_tokens text all ts (read_tokens os) [] is comes none_left in
    let none = nothing has_numbers _ (value_is (max_depth - length os) []) in (
      text_refused text (read_tokens os ++ []) whole (value_refused max_depth os [] are refl refl none),
      not_deep text (read_tokens os) (whole ∙ append-nil (read_tokens os)) (open_begins max_depth os are),
    )

pub refused : (text : List ℕ) (os ps : List Open) (t : spec.Token) (all rest ts : List spec.Token) → all ≡ tokens_of text →
    all ≡ read_tokens os ++ ts → ts ≡ t ∷ rest → AreWithin max_depth os → IsProgress (read_tokens os ++ t ∷ []) progress.Refused ps →
    IsReadingOf text reading.NotJson
refused text os ps t all rest ts is comes next are none =
    let parts = all_tokens text all ts (read_tokens os) (t ∷ rest) is comes next in (
      text_refused text ((read_tokens os ++ t ∷ []) ++ rest) (one_more text (read_tokens os) rest t parts) (none max_depth (omega arith) rest),
      refused_not_deep text (read_tokens os) rest t parts (open_begins max_depth os are) (λ d more. none_begins d (read_tokens os ++ t ∷ []) (none d more)),
    )

pub deep : (text : List ℕ) (os ps : List Open) (t : spec.Token) (all rest ts : List spec.Token) → all ≡ tokens_of text →
    all ≡ read_tokens os ++ ts → ts ≡ t ∷ rest → IsProgress (read_tokens os ++ t ∷ []) progress.TooDeep ps → IsReadingOf text reading.TooDeep
deep text os ps t all rest ts is comes next so =
    let read = read_tokens os ++ t ∷ [] in
    let parts = one_more text (read_tokens os) rest t (all_tokens text all ts (read_tokens os) (t ∷ rest) is comes next) in
    (text_refused text (read ++ rest) parts (so.1 rest), is_too_deep text read rest parts so.0 so.1)

pub whole : (text : List ℕ) (v : Value Global) (os ps : List Open) (t : spec.Token) (all rest ts : List spec.Token) → all ≡ tokens_of text →
    all ≡ read_tokens os ++ ts → ts ≡ t ∷ rest → IsProgress (read_tokens os ++ t ∷ []) (progress.Whole v) ps → rest ≡ [] →
    IsReadingOf text (reading.Json v)
whole text v os ps t all rest ts is comes next done none_left =
    let parts = one_more text (read_tokens os) rest t (all_tokens text all ts (read_tokens os) (t ∷ rest) is comes next) in
    let same = parts ∙ ap (λ us. us ++ rest) done.0 ∙ ap (λ us. value_tokens v ++ us) none_left in (
      sym (value_read text v [] same done.1 ∙ all_read (value_view v) done.1.1),
      not_deep text (value_tokens v) (same ∙ append-nil (value_tokens v)) (value_begins max_depth v done.1),
    )

pub more : (text : List ℕ) (v : Value Global) (os ps : List Open) (t u : spec.Token) (all rest others ts : List spec.Token) → all ≡ tokens_of text →
    all ≡ read_tokens os ++ ts → ts ≡ t ∷ rest → IsProgress (read_tokens os ++ t ∷ []) (progress.Whole v) ps → rest ≡ u ∷ others →
    IsReadingOf text reading.NotJson
more text v os ps t u all rest others ts is comes next done left =
    let parts = one_more text (read_tokens os) rest t (all_tokens text all ts (read_tokens os) (t ∷ rest) is comes next) in
    let same = parts ∙ ap (λ us. us ++ rest) done.0 ∙ ap (λ us. value_tokens v ++ us) left in (
      sym (value_read text v (u ∷ others) same done.1),
      refused_not_deep text (value_tokens v) others u same (value_begins max_depth v done.1) (λ d more. none_behind d v u (omega (arith, done.1.0))),
    )
