-- The JSON that a value of `json` is, whose numbers are texts and whose objects have their members as the text has them.
use Rattle.std.specs.Prelude.{◌≡◌, negsuc, List, Bool, true, false, ◌&&◌, Option, Some, None, is_some, if◌then◌else◌}
use Rattle.json.specs.Json as json
use Rattle.json.specs.Token as token
use Rattle.json.specs.Token.{Token}
use Rattle.json.specs.Value.{items_view, value_view}
use Rattle.json.specs.declared.value.Value.{Value}
use Rattle.serde_json.specs.Data.{Num, negative, Data, null, boolean, number, string, array, object, Items, no_items, item, Members, no_members, put}
use Rattle.serde_json.specs.Read.{number_of}
use Rattle.std.specs.declared.alloc.Global.{Global}

-- A text that is of no number stands for -1: there is none where `has_numbers` holds.
abbrev pub number_or_minus_one : Option Num → Num
number_or_minus_one None = negative (negsuc 0)
number_or_minus_one (Some n) = n

-- The members go in one after another, so the last value of a name stays.
abbrev mutual
  pub data_of : json.Json → Data
  data_of json.null = null
  data_of (json.boolean b) = boolean b
  data_of (json.number s) = number (number_or_minus_one (number_of s))
  data_of (json.string s) = string s
  data_of (json.array js) = array (items_of_json js)
  data_of (json.object ms) = object (with_members ms no_members)

  pub items_of_json : json.Items → Items
  items_of_json json.no_items = no_items
  items_of_json (json.item j js) = item (data_of j) (items_of_json js)

  pub with_members : json.Members → Members → Members
  with_members json.no_members before = before
  with_members (json.member name j ms) before = with_members ms (put name (data_of j) before)

-- Each text that stands for a number is of one: none is too large for a float.
abbrev mutual
  pub has_numbers : json.Json → Bool
  has_numbers json.null = true
  has_numbers (json.boolean b) = true
  has_numbers (json.number s) = is_some (number_of s)
  has_numbers (json.string s) = true
  has_numbers (json.array js) = items_have_numbers js
  has_numbers (json.object ms) = members_have_numbers ms

  pub items_have_numbers : json.Items → Bool
  items_have_numbers json.no_items = true
  items_have_numbers (json.item j js) = has_numbers j && items_have_numbers js

  pub members_have_numbers : json.Members → Bool
  members_have_numbers json.no_members = true
  members_have_numbers (json.member name j ms) = has_numbers j && members_have_numbers ms

-- The JSON that a token is by itself: none where it only begins or ends something, and where its number is too large for a float.
abbrev pub leaf_of : Token → Option json.Json
leaf_of token.null = Some json.null
leaf_of (token.boolean b) = Some (json.boolean b)
leaf_of (token.string s) = Some (json.string s)
leaf_of (token.number s) = if is_some (number_of s) then Some (json.number s) else None
leaf_of (token.key s) = None
leaf_of token.begin_array = None
leaf_of token.end_array = None
leaf_of token.begin_object = None
leaf_of token.end_object = None
leaf_of token.bad = None

abbrev pub parsed_data : Value Global → Data
parsed_data value = data_of (value_view value)

abbrev pub parsed_items : List (Value Global) → Items
parsed_items values = items_of_json (items_view values)

-- what is parsed, if something is, does not pass the test
abbrev pub NoneWith : {A : Type 0} → (A → Bool) → Option (A × List Token) → Type 0
NoneWith {A = A} test parsed = (found : A) (rest : List Token) → parsed ≡ Some (found, rest) → test found ≡ false
