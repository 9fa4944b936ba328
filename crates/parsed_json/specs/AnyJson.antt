-- JSON that is read, in either form.
use Rattle.std.specs.Prelude.{ℕ, List, map}
use Rattle.serde_json.specs.Data.{Data, Items, no_members, number, object, put, unsigned}
use Rattle.serde_json.specs.View.{items_of, view}
use Rattle.parsed_json.specs.ParsedJson.{parsed_data}
use Rattle.parsed_json.specs.declared.any_json.AnyJson.{AnyJson}
use Rattle.parsed_json.specs.declared.any_json.AnyJson.TheVariants as json
use Rattle.parsed_json.specs.declared.any_json.AnyItems.{AnyItems}
use Rattle.parsed_json.specs.declared.any_json.AnyItems.TheVariants as items

abbrev pub any_data : AnyJson → Data
any_data (json.Owned value) = view value.now
any_data (json.Parsed value) = parsed_data value.now

-- the items of an array, one by one
abbrev pub item_datas : AnyItems → List Data
item_datas (items.Owned values) = map view values.now
item_datas (items.Parsed values) = map parsed_data values.now

abbrev pub items_data : AnyItems → Items
items_data values = items_of (item_datas values)

-- an object with two members, whose values are these numbers
abbrev pub two_numbers : List ℕ → ℕ → List ℕ → ℕ → Data
two_numbers first m second n = object (put second (number (unsigned n)) (put first (number (unsigned m)) no_members))
