-- The spellings of strings (String Value, section 2.9.4).
use Rattle.std.specs.Prelude.{◌≡◌, ℕ, true, false, List, [], ◌∷◌, ◌++◌, codes, Some}
use Rattle.std.specs.Char.{is_ascii_hexdigit}
use Rattle.std.specs.List.{list_all}
use Rattle.graphql_base.specs.Names.{begins_in}
use Rattle.graphql_text.specs.lexical.Characters.{is_quote, quotes, escaped_quotes, is_plain_string_character, escaped_character_value}
use Rattle.graphql_text.specs.lexical.Characters.{unicode_escape_value, is_surrogate, begins_with}
use Rattle.graphql_text.specs.strings.BlockStringValue.{block_string_value}

-- StringCharacter: a spelling, and the character that it stands for. A character stands for itself, but for `"`, `\`
-- and line terminators; `\u` and four hexadecimal digits for the character of that number, which is no surrogate;
-- a backslash and one of eight characters for what these name.
pub data StandsFor : List ℕ → ℕ → Type 0 where
  plain : {c : ℕ} → is_plain_string_character c ≡ true → StandsFor (c ∷ []) c
  unicode : {a b c d : ℕ} → list_all is_ascii_hexdigit (a ∷ b ∷ c ∷ d ∷ []) ≡ true →
      is_surrogate (unicode_escape_value a b c d) ≡ false →
      StandsFor (codes "\\u" ++ (a ∷ b ∷ c ∷ d ∷ [])) (unicode_escape_value a b c d)
  letter : {e c : ℕ} → escaped_character_value e ≡ Some c → StandsFor (codes "\\" ++ (e ∷ [])) c

-- The text is cut into string characters, which stand for the value's characters one by one.
abbrev pub StringCharacters : List ℕ → List ℕ → Type 0
StringCharacters text [] = text ≡ []
StringCharacters text (value ∷ values) =
    (first : List ℕ) × (rest : List ℕ) × (text ≡ first ++ rest)
    × StandsFor first value × StringCharacters rest values

-- A quoted string: `""` with no further `"` directly after it, or one or more string characters between quotes.
abbrev pub IsQuoted : List ℕ → List ℕ → List ℕ → Type 0
IsQuoted spelling [] after = (spelling ≡ codes "\"\"") × (begins_in is_quote after ≡ false)
IsQuoted spelling (value ∷ values) after =
    (characters : List ℕ) × (spelling ≡ codes "\"" ++ (characters ++ codes "\""))
    × StringCharacters characters (value ∷ values)

-- What follows the opening quotes of a block string, and its raw value: BlockStringCharacters, then the closing quotes.
-- A BlockStringCharacter is `\"""`, which stands for `"""`, or any character where neither of these begins, which
-- stands for itself.
pub data IsBlockRest : List ℕ → List ℕ → Type 0 where
  closing : IsBlockRest quotes []
  escaped : {text raw : List ℕ} → IsBlockRest text raw → IsBlockRest (escaped_quotes ++ text) (quotes ++ raw)
  itself : {c : ℕ} {text raw : List ℕ} →
      begins_with quotes (c ∷ text) ≡ false → begins_with escaped_quotes (c ∷ text) ≡ false →
      IsBlockRest text raw → IsBlockRest (c ∷ text) (c ∷ raw)

-- A block string stands for the BlockStringValue of its raw value.
abbrev pub IsBlock : List ℕ → List ℕ → Type 0
IsBlock spelling value =
    (rest : List ℕ) × (raw : List ℕ) × (spelling ≡ quotes ++ rest)
    × IsBlockRest rest raw × (value ≡ block_string_value raw)
