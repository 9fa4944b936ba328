-- The numbers of JSON that was parsed.
use Rattle.std.proofs.Common.{◌≡◌, ℕ, Bool, true, false, ◌&&◌, IsTrue, List, Option, Some, None, if◌then◌else◌}
use Rattle.std.proofs.Common.{option_map, option_and_then, is_some, refl, sym, ap, ◌∙◌, true≢false}
use Rattle.json.specs.Json as json
use Rattle.serde_json.specs.Data.{Num, number, array, object, item, Members, no_members, put}
use Rattle.json.specs.Find as json_find
use Rattle.serde_json.specs.Find.{as_number, as_u64}
use Rattle.serde_json.specs.Read.{number_of, of_json, of_items, of_members}
use Rattle.parsed_json.specs.ParsedJson.{data_of, items_of_json, number_or_minus_one, with_members}
use Rattle.parsed_json.specs.ParsedJson.{has_numbers, items_have_numbers, members_have_numbers}

both : (a b : Bool) → IsTrue (a && b) → IsTrue a × IsTrue b
both true true h = (refl, refl)
both true false h = absurd (true≢false (sym h))
both false b h = absurd (true≢false (sym h))

number_there : (found : Option Num) → IsTrue (is_some found) → option_map number found ≡ Some (number (number_or_minus_one found))
number_there (Some n) there = refl
number_there None there = absurd (true≢false (sym there))

mutual
  -- where each number is one, the JSON is what serde_json reads
  pub read_as : (j : json.Json) → IsTrue (has_numbers j) → of_json j ≡ Some (data_of j)
  read_as json.null h = refl
  read_as (json.boolean b) h = refl
  read_as (json.number s) h = number_there (number_of s) h
  read_as (json.string s) h = refl
  read_as (json.array js) h = ap (option_map array) (items_read_as js h)
  read_as (json.object ms) h = ap (option_map object) (members_read_as ms no_members h)

  items_read_as : (js : json.Items) → IsTrue (items_have_numbers js) → of_items js ≡ Some (items_of_json js)
  items_read_as json.no_items h = refl
  items_read_as (json.item j js) h =
      let parts = both (has_numbers j) (items_have_numbers js) h in
      ap (option_and_then (λ d. option_map (item d) (of_items js))) (read_as j parts.0)
      ∙ ap (option_map (item (data_of j))) (items_read_as js parts.1)

  members_read_as : (ms : json.Members) (before : Members) → IsTrue (members_have_numbers ms) → of_members ms before ≡ Some (with_members ms before)
  members_read_as json.no_members before h = refl
  members_read_as (json.member k j ms) before h =
      let parts = both (has_numbers j) (members_have_numbers ms) h in
      ap (option_and_then (λ d. of_members ms (put k d before))) (read_as j parts.0)
      ∙ members_read_as ms (put k (data_of j) before) parts.1

unsigned_there : (found : Option Num) → option_and_then as_u64 (Some (number_or_minus_one found)) ≡ option_and_then as_u64 found
unsigned_there None = refl
unsigned_there (Some n) = refl

-- a number that is one is that of its text
pub number_found : (j : json.Json) (s : List ℕ) → Some s ≡ json_find.as_number j →
    option_and_then as_u64 (number_of s) ≡ option_and_then as_u64 (as_number (data_of j))
number_found (json.number t) s is = ap (λ o. option_and_then as_u64 (option_and_then number_of o)) is ∙ sym (unsigned_there (number_of t))
number_found json.null s is = cc
number_found (json.boolean b) s is = cc
number_found (json.string t) s is = cc
number_found (json.array js) s is = cc
number_found (json.object ms) s is = cc

number_missing : (found : Option Num) → is_some found ≡ false → option_map number found ≡ None
number_missing (Some n) missing = absurd (true≢false missing)
number_missing None missing = refl

mutual
  -- where a number is none, the JSON is none that serde_json reads
  pub not_read : (j : json.Json) → has_numbers j ≡ false → of_json j ≡ None
  not_read json.null h = absurd (true≢false h)
  not_read (json.boolean b) h = absurd (true≢false h)
  not_read (json.number s) h = number_missing (number_of s) h
  not_read (json.string s) h = absurd (true≢false h)
  not_read (json.array js) h = ap (option_map array) (items_not_read js h)
  not_read (json.object ms) h = ap (option_map object) (members_not_read ms no_members h)

  items_not_read : (js : json.Items) → items_have_numbers js ≡ false → of_items js ≡ None
  items_not_read json.no_items h = absurd (true≢false h)
  items_not_read (json.item j js) h =
      (elim (has_numbers j) as (λ v. has_numbers j ≡ v → (v && items_have_numbers js) ≡ false → of_items (json.item j js) ≡ None) [
        | true ↦ λ e rest. ap (option_and_then (λ d. option_map (item d) (of_items js))) (read_as j e)
            ∙ ap (option_map (item (data_of j))) (items_not_read js rest)
        | false ↦ λ e rest. ap (option_and_then (λ d. option_map (item d) (of_items js))) (not_read j e)
      ]) refl h

  members_not_read : (ms : json.Members) (before : Members) → members_have_numbers ms ≡ false → of_members ms before ≡ None
  members_not_read json.no_members before h = absurd (true≢false h)
  members_not_read (json.member k j ms) before h =
      (elim (has_numbers j) as (λ v. has_numbers j ≡ v → (v && members_have_numbers ms) ≡ false → of_members (json.member k j ms) before ≡ None) [
        | true ↦ λ e rest. ap (option_and_then (λ d. of_members ms (put k d before))) (read_as j e) ∙ members_not_read ms (put k (data_of j) before) rest
        | false ↦ λ e rest. ap (option_and_then (λ d. of_members ms (put k d before))) (not_read j e)
      ]) refl h

-- JSON is what serde_json reads exactly where each number is one
pub read_if : (j : json.Json) → of_json j ≡ (if has_numbers j then Some (data_of j) else None)
read_if j =
    (elim (has_numbers j) as (λ b. has_numbers j ≡ b → of_json j ≡ (if b then Some (data_of j) else None)) [
      | true ↦ λ e. read_as j e
      | false ↦ λ e. not_read j e
    ]) refl
