-- What is found in JSON that was parsed: members by their names, and items.
use Rattle.std.proofs.Common.{◌≡◌, ℕ, Bool, true, false, List, [], ◌∷◌, map, Option, Some, None, option_map, cond, refl, sym, ap, ◌∙◌}
use Rattle.std.proofs.Common.{bytes_eq, true≢false}
use Rattle.std.proofs.lemmas.Slice.Eq.{bytes_eq-Decides}
use Rattle.std.specs.declared.alloc.Global.{Global}
use Rattle.json.specs.Find as json_find
use Rattle.json.specs.Find.{later_or}
use Rattle.json.specs.Json as json
use Rattle.json.specs.declared.value.Value.{Value}
use Rattle.serde_json.proofs.Views.{get_member-put, get_member-put_other}
use Rattle.serde_json.specs.Data.{Data, Members, no_members, member, put}
use Rattle.serde_json.specs.Find.{get, get_member}
use Rattle.serde_json.specs.View.{items_of}
use Rattle.parsed_json.specs.ParsedJson.{data_of, parsed_data, parsed_items, with_members}

-- ITEMS

pub items_one_by_one : (values : List (Value Global)) → parsed_items values ≡ items_of (map parsed_data values)
items_one_by_one [] = refl
items_one_by_one (value ∷ values) = ap (Rattle.serde_json.specs.Data.item (parsed_data value)) (items_one_by_one values)

-- MEMBERS

-- the value that stands last, or else what was found before
abbrev or_before : Option json.Json → Option Data → Option Data
or_before None before = before
or_before (Some j) before = Some (data_of j)

put_found : (b : Bool) (q k : List ℕ) (j : json.Json) (before : Members) → bytes_eq k q ≡ b →
    get_member q (put k (data_of j) before) ≡ or_before (cond b (Some j) None) (get_member q before)
put_found true q k j before same =
    let is : k ≡ q = (bytes_eq-Decides k q).0 same in
    ap (λ name. get_member name (put k (data_of j) before)) (sym is) ∙ get_member-put k (data_of j) before
put_found false q k j before apart =
    get_member-put_other q k (data_of j) before (λ same. true≢false (sym ((bytes_eq-Decides k q).1 (sym same)) ∙ apart))

later : (found : Option json.Json) (b : Bool) (q k : List ℕ) (j : json.Json) (before : Members) → bytes_eq k q ≡ b →
    or_before found (get_member q (put k (data_of j) before)) ≡ or_before (later_or found (cond b (Some j) None)) (get_member q before)
later (Some x) b q k j before is = refl
later None b q k j before is = put_found b q k j before is

member_found : (q : List ℕ) (ms : json.Members) (before : Members) →
    get_member q (with_members ms before) ≡ or_before (json_find.get_member q ms) (get_member q before)
member_found q json.no_members before = refl
member_found q (json.member k j ms) before =
    member_found q ms (put k (data_of j) before) ∙ later (json_find.get_member q ms) (bytes_eq k q) q k j before refl

no_more : (found : Option json.Json) → or_before found None ≡ option_map data_of found
no_more None = refl
no_more (Some j) = refl

pub found : (q : List ℕ) (j : json.Json) → get q (data_of j) ≡ option_map data_of (json_find.get q j)
found q json.null = refl
found q (json.boolean b) = refl
found q (json.number s) = refl
found q (json.string s) = refl
found q (json.array js) = refl
found q (json.object ms) = member_found q ms no_members ∙ no_more (json_find.get_member q ms)
