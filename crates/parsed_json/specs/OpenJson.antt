-- JSON of which a part was read: the arrays and objects that the text has begun and not ended yet.
use Rattle.std.specs.Prelude.{◌≡◌, ◌≤◌, ◌-◌, ℕ, [], ◌∷◌, ◌++◌, List, Bool, true, false, Option, Some, None, is_some, not, if◌then◌else◌, IsTrue, ⊤}
use Rattle.std.specs.Borrow.{Bor}
use Rattle.std.specs.List.{flat_map}
use Rattle.std.specs.declared.alloc.Global.{Global}
use Rattle.json.specs.Json.{Json, array, object, value}
use Rattle.json.specs.Token as token
use Rattle.json.specs.Token.{Token}
use Rattle.json.specs.Tree.{json_tokens}
use Rattle.json.specs.Value.{items_view, members_view, value_view}
use Rattle.json.specs.declared.value.Value.{Value}
use Rattle.serde_json.specs.Read.{max_depth, read}
use Rattle.parsed_json.specs.Depth.{Begins, IsTooDeep, IsWithin}
use Rattle.parsed_json.specs.ParsedJson.{NoneWith, has_numbers, parsed_data}
use Rattle.parsed_json.specs.declared.parse.Open.{Open}
use Rattle.parsed_json.specs.declared.parse.Open.TheVariants as opened
use Rattle.parsed_json.specs.declared.parse.Progress.{Progress}
use Rattle.parsed_json.specs.declared.parse.Progress.TheVariants as progress
use Rattle.parsed_json.specs.declared.parse.Reading.{Reading}
use Rattle.parsed_json.specs.declared.parse.Reading.TheVariants as reading

-- THE TOKENS THAT WERE READ

abbrev pub value_tokens : Value Global → List Token
value_tokens v = json_tokens (value_view v)

abbrev pub member_tokens : Bor (List ℕ) × Value Global → List Token
member_tokens m = token.key m.0.now ∷ value_tokens m.1

abbrev pub name_tokens : Option (Bor (List ℕ)) → List Token
name_tokens None = []
name_tokens (Some name) = token.key name.now ∷ []

abbrev pub open_tokens : Open → List Token
open_tokens (opened.Array vs) = token.begin_array ∷ flat_map value_tokens vs.items
open_tokens (opened.Object ms) = token.begin_object ∷ (flat_map member_tokens ms.found.items ++ name_tokens ms.name)

-- the tokens that were read where these arrays and objects are open, each within the one before
abbrev pub read_tokens : List Open → List Token
read_tokens os = flat_map open_tokens os

-- WHAT IS READ OF THEM

-- whatever follows these tokens, no JSON that nests that deep at most is read of them
abbrev pub AreRefused : ℕ → List Token → Type 0
AreRefused d ts = (rest : List Token) → NoneWith has_numbers (value d (ts ++ rest))

-- the value that an array or object is where it ends here
abbrev pub so_far : Open → Json
so_far (opened.Array vs) = array (items_view vs.items)
so_far (opened.Object ms) = object (members_view ms.found.items)

-- a value may come next in it
abbrev pub takes_value : Open → Bool
takes_value (opened.Array vs) = true
takes_value (opened.Object ms) = is_some ms.name

abbrev pub innermost_takes_value : List Open → Bool
innermost_takes_value [] = true
innermost_takes_value (o ∷ []) = takes_value o
innermost_takes_value (o ∷ p ∷ os) = innermost_takes_value (p ∷ os)

abbrev pub HasPlaceFor : List Open → Open → Type 0
HasPlaceFor [] o = ⊤
HasPlaceFor (p ∷ os) o = IsTrue (takes_value o)

-- each stands in the one before, where a value may come
abbrev pub AreWithin : ℕ → List Open → Type 0
AreWithin d [] = ⊤
AreWithin d (o ∷ os) = IsWithin d (so_far o) × HasPlaceFor os o × AreWithin (d - 1) os

-- a name may come next in it
abbrev pub takes_name : Open → Bool
takes_name (opened.Array vs) = false
takes_name (opened.Object ms) = not (is_some ms.name)

-- the value that a closing bracket makes of it
abbrev pub ended_array : Open → Option Json
ended_array (opened.Array vs) = Some (array (items_view vs.items))
ended_array (opened.Object ms) = None

-- the same of a closing brace
abbrev pub ended_object : Open → Option Json
ended_object (opened.Array vs) = None
ended_object (opened.Object ms) = if is_some ms.name then None else Some (object (members_view ms.found.items))

-- what is known of the arrays and objects that are open where these tokens were read
abbrev pub IsProgress : List Token → Progress → List Open → Type 0
IsProgress read progress.Unfinished os = (read ≡ read_tokens os) × AreWithin max_depth os
IsProgress read (progress.Whole v) os = (read ≡ value_tokens v) × IsWithin max_depth (value_view v)
IsProgress read progress.TooDeep os = ((d : ℕ) × Begins d read) × AreRefused max_depth read
IsProgress read progress.Refused os = (d : ℕ) → max_depth ≤ d → AreRefused d read

-- what a text is
abbrev pub IsReadingOf : List ℕ → Reading → Type 0
IsReadingOf text (reading.Json v) = (Some (parsed_data v) ≡ read text) × ¬ (IsTooDeep text)
IsReadingOf text reading.TooDeep = (None ≡ read text) × IsTooDeep text
IsReadingOf text reading.NotJson = (None ≡ read text) × ¬ (IsTooDeep text)
