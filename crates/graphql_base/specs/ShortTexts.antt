-- The bytes of a short text that stands in its owner.
use Rattle.std.specs.Prelude.{ℕ, List, take}
use Rattle.graphql_base.specs.declared.short_text.ShortText.{ShortText}

abbrev pub short_bytes : {n : ℕ} → ShortText n → List ℕ
short_bytes text = take text.used text.bytes
