-- The names of members in JSON that was parsed.
use Rattle.std.proofs.Common.{◌≡◌, ℕ, Bool, true, false, ◌&&◌, List, refl, sym, ap, ◌∙◌}
use Rattle.std.proofs.Common.{Ordering, Less, Equal, Greater, is_eq}
use Rattle.std.proofs.lemmas.Slice.Eq.{bytes_eq-Decides}
use Rattle.std.proofs.lemmas.Map.Text.{is_eq-slice_cmp}
use Rattle.std.specs.Cmp.Lexicographic.{slice_cmp}
use Rattle.std.specs.Ordering.{nat_cmp, match_ordering}
use Rattle.graphql_text.specs.grammar.Forms.{is_one_of}
use Rattle.json.specs.Json as json
use Rattle.serde_json.specs.Data.{Data, Members, no_members, member, put}
use Rattle.parsed_json.specs.ParsedJson.{data_of, with_members}
use Rattle.ast_json_nodes.specs.nodes.Nodes.{names_among}

abbrev pub only_names : List (List ℕ) → json.Members → Bool
only_names names json.no_members = true
only_names names (json.member name j ms) = is_one_of names name && only_names names ms

and_swap : (a b c : Bool) → (a && (b && c)) ≡ (b && (a && c))
and_swap true b c = refl
and_swap false true c = refl
and_swap false false c = refl

and_twice : (a c : Bool) → (a && c) ≡ (a && (a && c))
and_twice true c = refl
and_twice false c = refl

and_assoc : (a b c : Bool) → (a && (b && c)) ≡ ((a && b) && c)
and_assoc true b c = refl
and_assoc false b c = refl

and_true : (a : Bool) → (a && true) ≡ a
and_true true = refl
and_true false = refl

put_only_at : (o : Ordering) (names : List (List ℕ)) (k l : List ℕ) (d e : Data) (before : Members) → slice_cmp nat_cmp k l ≡ o →
    names_among names (put k d before) ≡ (is_one_of names k && names_among names before) →
    names_among names (match_ordering o (member k d (member l e before)) (member l d before) (member l e (put k d before)))
    ≡ (is_one_of names k && (is_one_of names l && names_among names before))
put_only_at Less names k l d e before is later = refl
put_only_at Equal names k l d e before is later =
    let same : k ≡ l = (bytes_eq-Decides k l).0 (sym (is_eq-slice_cmp k l) ∙ ap is_eq is) in
    and_twice (is_one_of names l) (names_among names before)
    ∙ ap (λ name. is_one_of names name && (is_one_of names l && names_among names before)) (sym same)
put_only_at Greater names k l d e before is later =
    ap (λ rest. is_one_of names l && rest) later ∙ and_swap (is_one_of names l) (is_one_of names k) (names_among names before)

put_only : (names : List (List ℕ)) (k : List ℕ) (d : Data) (before : Members) →
    names_among names (put k d before) ≡ (is_one_of names k && names_among names before)
put_only names k d no_members = refl
put_only names k d (member l e before) = put_only_at (slice_cmp nat_cmp k l) names k l d e before refl (put_only names k d before)

with_only : (names : List (List ℕ)) (ms : json.Members) (before : Members) →
    names_among names (with_members ms before) ≡ (only_names names ms && names_among names before)
with_only names json.no_members before = refl
with_only names (json.member k j ms) before =
    with_only names ms (put k (data_of j) before)
    ∙ ap (λ rest. only_names names ms && rest) (put_only names k (data_of j) before)
    ∙ and_swap (only_names names ms) (is_one_of names k) (names_among names before)
    ∙ and_assoc (is_one_of names k) (only_names names ms) (names_among names before)

-- the names of an object are those of the members that it was made of
pub names_of_members : (names : List (List ℕ)) (ms : json.Members) → names_among names (with_members ms no_members) ≡ only_names names ms
names_of_members names ms = with_only names ms no_members ∙ and_true (only_names names ms)
