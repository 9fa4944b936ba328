-- What contracts see of numbers, and the leaves of trees that numbers and strings are.
use Rattle.std.specs.Prelude.{ℕ, ℤ, List, String, string_bytes, chars}
use Rattle.std.proofs.Common.{Global}
use Rattle.std.specs.Str.Parse.{signed_digits_value}
use Rattle.std.proofs.lemmas.Str.{IsUtf8-string_bytes, scalars-chars}
use Rattle.graphql_text.specs.lexical.Literals.{IntText, FloatText, StringText}
use Rattle.graphql_values.specs.declared.literal.IntValue.{IntValue}
use Rattle.graphql_values.specs.declared.literal.FloatValue.{FloatValue}

abbrev pub int_text : IntValue → List ℕ
int_text int = int.numeral

abbrev pub float_text : FloatValue → List ℕ
float_text float = float.text

-- the number that an integer writes, in base ten
abbrev pub int_number : IntValue → ℤ
int_number int = signed_digits_value 10 (int_text int)

abbrev pub int_tree : IntValue → IntText
int_tree int = record { text = int_text int; valid = int.valid }

abbrev pub float_tree : FloatValue → FloatText
float_tree float = record { text = float_text float; valid = float.valid }

-- the characters of a string
abbrev pub string_tree : String Global → StringText
string_tree string = record { text = chars (string_bytes string); valid = scalars-chars (string_bytes string) (IsUtf8-string_bytes string) }
