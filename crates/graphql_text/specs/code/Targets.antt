-- What was written to a text that grows and to a formatter, until a write failed.
use Rattle.std.specs.Prelude.{◌≡◌, ℕ, List, ◌++◌, Bool, true, false}
use Rattle.std.specs.Fmt.{IsPlainFormatter, HasWritten}
use Rattle.std.specs.declared.fmt.Formatter.{Formatter}

abbrev pub TextGrew : List ℕ → Bool → List ℕ → List ℕ → Bool → Type 0
TextGrew a true bytes b true = Unit {0}
TextGrew a true bytes b false = ⊥
TextGrew a false bytes b true = Unit {0}
TextGrew a false bytes b false = b ≡ a ++ bytes

abbrev pub FormatterTook : {W : Type 0} → (W → List ℕ → W → Type 0) → Formatter W → Bool → List ℕ → Formatter W → Bool → Type 0
FormatterTook took a true bytes b true = Unit {0}
FormatterTook took a true bytes b false = ⊥
FormatterTook took a false bytes b true = Unit {0}
FormatterTook took a false bytes b false = IsPlainFormatter a → HasWritten took a bytes b
