-- Of ParsedJson: what is read of no text, whatever follows, since a part of it is none that is read.
use Rattle.std.proofs.Common.{◌≡◌, ℕ, zero, suc, ◌-◌, ◌<◌, ◌≤◌, Bool, true, false, ◌&&◌, IsTrue, List, [], ◌∷◌, ◌++◌, length}
use Rattle.std.proofs.Common.{Option, Some, None, if◌then◌else◌, is_some, option_and_then, refl, sym, ap, ◌∙◌, subst, true≢false, arith, append_assoc, flat_map}
use Rattle.std.specs.Borrow.{Bor}
use Rattle.std.specs.declared.alloc.Global.{Global}
use Rattle.json.proofs.Grammar.{value-begin_array, value-begin_object}
use Rattle.json.proofs.Printed.Trees.{value-json_tokens}
use Rattle.json.specs.Json.{Json, null, boolean, number, string, Items, Members, Parse, array, object, item, member, items, members, value, parse_map}
use Rattle.json.specs.Json.{after_end_array, if_last, items_step}
use Rattle.json.specs.Token as spec
use Rattle.json.specs.Tree.{json_tokens, items_depth, members_depth}
use Rattle.json.specs.Value.{items_view, members_view, value_view}
use Rattle.json.specs.declared.value.Value.{Value}
use Rattle.serde_json.specs.Read.{of_json}
use Rattle.parsed_json.proofs.ParsedNumbers.{read_if}
use Rattle.parsed_json.specs.OpenJson.{member_tokens, value_tokens}
use Rattle.parsed_json.specs.ParsedJson.{NoneWith, data_of, has_numbers, items_have_numbers, members_have_numbers}

pub nothing : {A : Type 0} (test : A → Bool) (parsed : Option (A × List spec.Token)) → parsed ≡ None → NoneWith test parsed
nothing test parsed none found rest is = absurd (true≢false (sym (ap is_some (sym none ∙ is))))

abbrev found_or : {A : Type 0} → A → Option (A × List spec.Token) → A
found_or before None = before
found_or before (Some p) = p.0

-- what was parsed does not pass the test
pub this_one : {A : Type 0} (test : A → Bool) (parsed : Option (A × List spec.Token)) (j : A) (ts : List spec.Token) →
    parsed ≡ Some (j, ts) → test j ≡ false → NoneWith test parsed
this_one test parsed j ts is fails found rest also = ap test (ap (found_or j) (sym also ∙ is)) ∙ fails

-- what is refused within is refused
within : {A B : Type 0} (test : A → Bool) (outer : B → Bool) (f : A → B) (parsed : Option (A × List spec.Token)) →
    ((a : A) → test a ≡ false → outer (f a) ≡ false) → NoneWith test parsed → NoneWith outer (parse_map f parsed)
within test outer f None keeps none = nothing outer None refl
within test outer f (Some p) keeps none = this_one outer _ (f p.0) p.1 refl (keeps p.0 (none p.0 p.1 refl))

-- whatever more is parsed behind it
starts_with : {A B : Type 0} (outer : B → Bool) (f : A → B) (parsed : Option (A × List spec.Token)) →
    ((a : A) → outer (f a) ≡ false) → NoneWith outer (parse_map f parsed)
starts_with outer f None fails = nothing outer None refl
starts_with outer f (Some p) fails = this_one outer _ (f p.0) p.1 refl (fails p.0)

fails_first : (a b : Bool) → a ≡ false → (a && b) ≡ false
fails_first a b is = rw is refl

fails_second : (a b : Bool) → b ≡ false → (a && b) ≡ false
fails_second true b is = is
fails_second false b is = refl

-- ITEMS

item_refused : (first : Option (Json × List spec.Token)) (more : Parse Items) → NoneWith has_numbers first →
    NoneWith items_have_numbers (option_and_then (λ q. parse_map (item q.0) (more q.1)) first)
item_refused None more none = nothing items_have_numbers None refl
item_refused (Some q) more none =
    starts_with items_have_numbers (item q.0) (more q.1) (λ js. fails_first (has_numbers q.0) (items_have_numbers js) (none q.0 q.1 refl))

first_item_refused : (p : Parse Json) (n : ℕ) (ts : List spec.Token) → after_end_array ts ≡ None → NoneWith has_numbers (p ts) →
    NoneWith items_have_numbers (items p n ts)
unfolding items
first_item_refused p zero ts going none = nothing items_have_numbers _ refl
first_item_refused p (suc n) ts going none =
    subst (λ end. NoneWith items_have_numbers (items_step p (items p n) ts end)) (sym going) (item_refused (p ts) (items p n) none)

not_end : (j : Json) (rest : List spec.Token) → after_end_array (json_tokens j ++ rest) ≡ None
not_end null rest = refl
not_end (boolean b) rest = refl
not_end (number s) rest = refl
not_end (string s) rest = refl
not_end (array js) rest = refl
not_end (object ms) rest = refl

one_item : (p : Parse Json) (n : ℕ) (ts rest : List spec.Token) (j : Json) → after_end_array ts ≡ None → p ts ≡ Some (j, rest) →
    items p (suc n) ts ≡ parse_map (item j) (items p n rest)
unfolding items
one_item p n ts rest j going is =
    ap (items_step p (items p n) ts) going ∙ ap (option_and_then (λ q. parse_map (item q.0) (items p n q.1))) is

-- items that are refused, behind others that are read
items_refused : (d n : ℕ) (vs : List (Value Global)) (rest : List spec.Token) → items_depth (items_view vs) ≤ d →
    ((m : ℕ) → NoneWith items_have_numbers (items (value d) m rest)) →
    NoneWith items_have_numbers (items (value d) n (flat_map value_tokens vs ++ rest))
unfolding items
items_refused d n [] rest deep none = none n
items_refused d zero (v ∷ vs) rest deep none = nothing items_have_numbers _ refl
items_refused d (suc n) (v ∷ vs) rest deep none =
    let j = value_view v in
    let more = flat_map value_tokens vs ++ rest in
    let read = ap (items (value d) (suc n)) (append_assoc (json_tokens j) (flat_map value_tokens vs) rest)
    ∙ one_item (value d) n (json_tokens j ++ more) more j (not_end j more) (value-json_tokens j d more (omega (arith, deep))) in
    subst (NoneWith items_have_numbers) (sym read)
    (within items_have_numbers items_have_numbers (item j) (items (value d) n more) (λ js. fails_second (has_numbers j) (items_have_numbers js))
    (items_refused d n vs rest (omega (arith, deep)) none))

pub array_refused : (d : ℕ) (vs : List (Value Global)) (rest : List spec.Token) → items_depth (items_view vs) < d → after_end_array rest ≡ None →
    NoneWith has_numbers (value (d - 1) rest) → NoneWith has_numbers (value d (spec.begin_array ∷ (flat_map value_tokens vs ++ rest)))
array_refused d vs rest deep going none =
    let ts = flat_map value_tokens vs ++ rest in
    subst (NoneWith has_numbers) (sym (value-begin_array d ts (omega arith)))
    (within items_have_numbers has_numbers array _ (λ js fails. fails)
    (items_refused (d - 1) (length ts) vs rest (omega arith) (λ m. first_item_refused (value (d - 1)) m rest going none)))

-- MEMBERS

member_refused : (k : List ℕ) (first : Option (Json × List spec.Token)) (more : Parse Members) → NoneWith has_numbers first →
    NoneWith members_have_numbers (option_and_then (λ q. parse_map (member k q.0) (more q.1)) first)
member_refused k None more none = nothing members_have_numbers None refl
member_refused k (Some q) more none =
    starts_with members_have_numbers (member k q.0) (more q.1) (λ ms. fails_first (has_numbers q.0) (members_have_numbers ms) (none q.0 q.1 refl))

pub first_member_refused : (p : Parse Json) (n : ℕ) (k : List ℕ) (ts : List spec.Token) → NoneWith has_numbers (p ts) →
    NoneWith members_have_numbers (members p n (spec.key k ∷ ts))
unfolding members
first_member_refused p zero k ts none = nothing members_have_numbers _ refl
first_member_refused p (suc n) k ts none = member_refused k (p ts) (members p n) none

one_member : (p : Parse Json) (n : ℕ) (k : List ℕ) (ts rest : List spec.Token) (j : Json) → p ts ≡ Some (j, rest) →
    members p (suc n) (spec.key k ∷ ts) ≡ parse_map (member k j) (members p n rest)
unfolding members
one_member p n k ts rest j is = ap (option_and_then (λ q. parse_map (member k q.0) (members p n q.1))) is

-- members that are refused, behind others that are read
members_refused : (d n : ℕ) (ms : List (Bor (List ℕ) × Value Global)) (rest : List spec.Token) → members_depth (members_view ms) ≤ d →
    ((m : ℕ) → NoneWith members_have_numbers (members (value d) m rest)) →
    NoneWith members_have_numbers (members (value d) n (flat_map member_tokens ms ++ rest))
unfolding members
members_refused d n [] rest deep none = none n
members_refused d zero (m ∷ ms) rest deep none = nothing members_have_numbers _ refl
members_refused d (suc n) (m ∷ ms) rest deep none =
    let k = m.0.now in
    let j = value_view m.1 in
    let more = flat_map member_tokens ms ++ rest in
    let read = ap (λ ts. members (value d) (suc n) (spec.key k ∷ ts)) (append_assoc (json_tokens j) (flat_map member_tokens ms) rest)
    ∙ one_member (value d) n k (json_tokens j ++ more) more j (value-json_tokens j d more (omega (arith, deep))) in
    subst (NoneWith members_have_numbers) (sym read)
    (within members_have_numbers members_have_numbers (member k j) (members (value d) n more) (λ js. fails_second (has_numbers j) (members_have_numbers js))
    (members_refused d n ms rest (omega (arith, deep)) none))

pub object_refused : (d : ℕ) (ms : List (Bor (List ℕ) × Value Global)) (rest : List spec.Token) → members_depth (members_view ms) < d →
    ((m : ℕ) → NoneWith members_have_numbers (members (value (d - 1)) m rest)) →
    NoneWith has_numbers (value d (spec.begin_object ∷ (flat_map member_tokens ms ++ rest)))
object_refused d ms rest deep none =
    let ts = flat_map member_tokens ms ++ rest in
    subst (NoneWith has_numbers) (sym (value-begin_object d ts (omega arith)))
    (within members_have_numbers has_numbers object _ (λ js fails. fails) (members_refused (d - 1) (length ts) ms rest (omega arith) none))

-- THE WHOLE TEXT

refused_whole : (j : Json) (rest : List spec.Token) → has_numbers j ≡ false → option_and_then of_json (if_last j rest) ≡ None
refused_whole j [] fails = read_if j ∙ ap (λ (b : Bool). if b then Some (data_of j) else None) fails
refused_whole j (t ∷ rest) fails = refl

pub none_read : (parsed : Option (Json × List spec.Token)) → NoneWith has_numbers parsed →
    option_and_then of_json (option_and_then (λ p. if_last p.0 p.1) parsed) ≡ None
none_read None none = refl
none_read (Some p) none = refused_whole p.0 p.1 (none p.0 p.1 refl)

pub all_read : (j : Json) → IsTrue (has_numbers j) → option_and_then of_json (if_last j []) ≡ Some (data_of j)
all_read j are = read_if j ∙ ap (λ (b : Bool). if b then Some (data_of j) else None) are
