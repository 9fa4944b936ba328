-- Positions within JSON, as `fields[0].value`.
use Rattle.std.specs.Prelude.{ℕ, ◌==◌, Bool, false, not, List, [], ◌∷◌, ◌++◌, if◌then◌else◌, string_bytes}
use Rattle.std.specs.Fmt.{decimal}
use Rattle.ast_json_nodes.specs.declared.error.JsonPath.{JsonPath}

abbrev pub path_text : JsonPath → List ℕ
path_text path = string_bytes path.text

-- a path begins with the name of a member, or else with `[` and an index
abbrev pub begins_with_name : List ℕ → Bool
begins_with_name [] = false
begins_with_name (first ∷ _) = not (first == 0x5B)

-- The path of a position, told from the object that has it in a member.
abbrev pub path_in : List ℕ → List ℕ → List ℕ
path_in name path = if begins_with_name path then name ++ 0x2E ∷ path else name ++ path

-- as a member, the item of an array goes by its index in brackets
abbrev pub item_name : ℕ → List ℕ
item_name index = 0x5B ∷ (decimal index ++ 0x5D ∷ [])
