-- The names of members alone, as they stand in order.
use Rattle.std.proofs.Common.{◌≡◌, ℕ, Bool, true, ◌&&◌, List, [], ◌∷◌, refl, sym, ap, ◌∙◌}
use Rattle.std.proofs.Common.{Ordering, Less, Equal, Greater}
use Rattle.std.specs.Cmp.Lexicographic.{slice_cmp}
use Rattle.std.specs.Ordering.{nat_cmp, match_ordering}
use Rattle.json.specs.Json as json
use Rattle.serde_json.specs.Data.{Data, Members, no_members, member, put}
use Rattle.parsed_json.specs.ParsedJson.{data_of, with_members}
use Rattle.graphql_text.specs.grammar.Forms.{is_one_of}
use Rattle.ast_json_nodes.specs.code.JsonNodes.{member_names}
use Rattle.ast_json_nodes.specs.nodes.Nodes.{names_among}

abbrev pub put_name : List ℕ → List (List ℕ) → List (List ℕ)
put_name k [] = k ∷ []
put_name k (l ∷ names) = match_ordering (slice_cmp nat_cmp k l) (k ∷ l ∷ names) (l ∷ names) (l ∷ put_name k names)

abbrev pub put_names : json.Members → List (List ℕ) → List (List ℕ)
put_names json.no_members names = names
put_names (json.member k _ ms) names = put_names ms (put_name k names)

names_put_at : (o : Ordering) (k l : List ℕ) (d e : Data) (ms : Members) → member_names (put k d ms) ≡ put_name k (member_names ms) →
    member_names (match_ordering o (member k d (member l e ms)) (member l d ms) (member l e (put k d ms)))
    ≡ match_ordering o (k ∷ l ∷ member_names ms) (l ∷ member_names ms) (l ∷ put_name k (member_names ms))
names_put_at Less k l d e ms later = refl
names_put_at Equal k l d e ms later = refl
names_put_at Greater k l d e ms later = ap (λ names. l ∷ names) later

pub names_put : (k : List ℕ) (d : Data) (ms : Members) → member_names (put k d ms) ≡ put_name k (member_names ms)
names_put k d no_members = refl
names_put k d (member l e ms) = names_put_at (slice_cmp nat_cmp k l) k l d e ms (names_put k d ms)

pub names_with : (ms : json.Members) (before : Members) → member_names (with_members ms before) ≡ put_names ms (member_names before)
names_with json.no_members before = refl
names_with (json.member k j ms) before =
    names_with ms (put k (data_of j) before) ∙ ap (λ names. put_names ms names) (names_put k (data_of j) before)

abbrev among_alone : List (List ℕ) → List (List ℕ) → Bool
among_alone all [] = true
among_alone all (name ∷ names) = is_one_of all name && among_alone all names

names_among_alone : (all : List (List ℕ)) (ms : Members) → names_among all ms ≡ among_alone all (member_names ms)
names_among_alone all no_members = refl
names_among_alone all (member name d ms) = ap (λ rest. is_one_of all name && rest) (names_among_alone all ms)

-- members of the same names are among the same names
pub among_of_same : (all : List (List ℕ)) (ms others : Members) → member_names ms ≡ member_names others → names_among all ms ≡ names_among all others
among_of_same all ms others same = names_among_alone all ms ∙ ap (among_alone all) same ∙ sym (names_among_alone all others)
