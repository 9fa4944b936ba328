-- How deep the arrays and objects of JSON nest.
use Rattle.std.specs.Prelude.{◌≡◌, ◌≤◌, ◌++◌, ℕ, List, IsTrue}
use Rattle.json.specs.Json.{Json}
use Rattle.json.specs.Lex.{tokens}
use Rattle.json.specs.Token.{Token}
use Rattle.json.specs.Tree.{depth, json_tokens}
use Rattle.serde_json.specs.Read.{max_depth}
use Rattle.parsed_json.specs.ParsedJson.{has_numbers}

-- arrays and objects nest that deep at most, and no number is too large
abbrev pub IsWithin : ℕ → Json → Type 0
IsWithin d j = (depth j ≤ d) × IsTrue (has_numbers j)

-- some JSON that nests that deep at most begins with these tokens
abbrev pub Begins : ℕ → List Token → Type 0
Begins d ts = (j : Json) × IsWithin d j × (rest : List Token) × (json_tokens j ≡ ts ++ rest)

-- A text is too deep where it begins as some JSON does, and as none does that nests so deep at most as is read.
abbrev pub IsTooDeep : List ℕ → Type 0
IsTooDeep text = (before after : List Token) × (tokens text ≡ before ++ after) × ((d : ℕ) × Begins d before) × ¬ (Begins max_depth before)
