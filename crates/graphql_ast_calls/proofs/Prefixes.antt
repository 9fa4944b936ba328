-- Prefixes of spaces and tabs: their bytes are their characters.
use Rattle.std.proofs.Common.{◌≡◌, ℕ, ◌<◌, true, List, [], ◌∷◌, arith, IsUtf8, zero, suc}
use Rattle.std.proofs.lemmas.Str.{chars-IsAscii, IsUtf8-from_ascii}
use Rattle.std.specs.Prelude.{chars}
use Rattle.std.specs.Str.{IsAscii}
use Rattle.graphql_text.specs.lexical.Characters.{is_space_or_tab}
use Rattle.graphql_text.specs.strings.BlockStringValue.{is_blank}

blank_below : (c : ℕ) → is_space_or_tab c ≡ true → c < 128
blank_below c h = grind arith

first_blank : (c : ℕ) (cs : List ℕ) → is_blank (c ∷ cs) ≡ true → is_space_or_tab c ≡ true
first_blank c cs h = grind arith

others_blank : (c : ℕ) (cs : List ℕ) → is_blank (c ∷ cs) ≡ true → is_blank cs ≡ true
others_blank c cs h = grind arith

pub blank_ascii : (bytes : List ℕ) → is_blank bytes ≡ true → IsAscii bytes
blank_ascii [] h i = omega arith
blank_ascii (c ∷ cs) h zero = blank_below c (first_blank c cs h)
blank_ascii (c ∷ cs) h (suc i) = blank_ascii cs (others_blank c cs h) i

pub blank_chars : (bytes : List ℕ) → is_blank bytes ≡ true → chars bytes ≡ bytes
blank_chars bytes h = chars-IsAscii bytes (blank_ascii bytes h)

pub blank_utf8 : (bytes : List ℕ) → is_blank bytes ≡ true → IsUtf8 bytes
blank_utf8 bytes h = IsUtf8-from_ascii bytes (blank_ascii bytes h)
