-- The bytes of a numeral, in place or not.
use Rattle.std.specs.Prelude.{ℕ, ◌<◌, List, length, string_bytes, ⊤}
use Rattle.graphql_base.specs.ShortTexts.{short_bytes}
use Rattle.graphql_values.specs.declared.numeral.Form.{Form}
use Rattle.graphql_values.specs.declared.numeral.Form.TheVariants.{Short, Long}
use Rattle.graphql_values.specs.declared.numeral.TheConstants.{ROOM}

abbrev pub form_bytes : Form → List ℕ
form_bytes (Short text) = short_bytes text
form_bytes (Long text) = string_bytes text

-- a text that fits stands in place
abbrev pub StandsInPlaceIfShort : Form → Type 0
StandsInPlaceIfShort (Short _) = ⊤
StandsInPlaceIfShort (Long text) = ROOM < length (string_bytes text)
