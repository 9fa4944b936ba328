-- The tokens of a text (Lexical Tokens, section 2.1.6).
use Rattle.std.specs.Prelude.{◌≡◌, ℕ, ◌⊎◌, Bool, true, false, not, List, [], ◌∷◌, ◌++◌, codes}
use Rattle.std.specs.List.{list_all}
use Rattle.graphql_text.specs.lexical.Characters.{is_line_terminator, is_ignored, follows_no_number}
use Rattle.graphql_base.specs.Names.{is_name, is_name_continue, begins_in}
use Rattle.graphql_text.specs.lexical.Literals.{is_int, is_float}
use Rattle.graphql_text.specs.strings.Strings.{IsQuoted, IsBlock}

-- Punctuator, section 2.1.8
pub data Punctuator : Type 0 where
  bang dollar amp lparen rparen spread colon equals at lbracket rbracket lbrace bar rbrace : Punctuator

abbrev pub punctuator_text : Punctuator → List ℕ
punctuator_text bang = codes "!"
punctuator_text dollar = codes "$"
punctuator_text amp = codes "&"
punctuator_text lparen = codes "("
punctuator_text rparen = codes ")"
punctuator_text spread = codes "..."
punctuator_text colon = codes ":"
punctuator_text equals = codes "="
punctuator_text at = codes "@"
punctuator_text lbracket = codes "["
punctuator_text rbracket = codes "]"
punctuator_text lbrace = codes "{"
punctuator_text bar = codes "|"
punctuator_text rbrace = codes "}"

-- Token: a Punctuator; a Name, an IntValue or a FloatValue, by its text; or a StringValue, by its value.
pub data Token : Type 0 where
  Punctuation : Punctuator → Token
  Name IntValue FloatValue StringValue : List ℕ → Token

-- CommentChar (section 2.1.4): any character but those of a LineTerminator
abbrev pub is_comment_character : ℕ → Bool
is_comment_character c = not (is_line_terminator c)

-- whether a comment ends before the text: at the end of a line or of the source text
abbrev pub ends_comment : List ℕ → Bool
ends_comment [] = true
ends_comment (c ∷ text) = is_line_terminator c

-- Ignored tokens (section 2.1.7) one after another, where `after` is what follows them in the source text.
pub data IsIgnored : List ℕ → List ℕ → Type 0 where
  nothing : {after : List ℕ} → IsIgnored [] after
  character : {c : ℕ} {text after : List ℕ} → is_ignored c ≡ true →
      IsIgnored text after → IsIgnored (c ∷ text) after
  comment : {text after : List ℕ} (words : List ℕ) →
      list_all is_comment_character words ≡ true → ends_comment (text ++ after) ≡ true →
      IsIgnored text after → IsIgnored (codes "#" ++ (words ++ text)) after

-- The spelling is one of the token's, where `after` is what follows it. A Name (section 2.1.9) is as long as it can be; an
-- IntValue (2.9.1) and a FloatValue (2.9.2) are followed by no digit, `.` or NameStart; a StringValue (2.9.4) is spelled in
-- one of two ways.
abbrev pub Spells : Token → List ℕ → List ℕ → Type 0
Spells (Punctuation mark) spelling after = spelling ≡ punctuator_text mark
Spells (Name text) spelling after =
    (is_name text ≡ true) × (spelling ≡ text) × (begins_in is_name_continue after ≡ false)
Spells (IntValue text) spelling after =
    (is_int text ≡ true) × (spelling ≡ text) × (begins_in follows_no_number after ≡ false)
Spells (FloatValue text) spelling after =
    (is_float text ≡ true) × (spelling ≡ text) × (begins_in follows_no_number after ≡ false)
Spells (StringValue value) spelling after = IsQuoted spelling value after ⊎ IsBlock spelling value

-- The text is an ignored stretch, then each token's spelling followed by an ignored stretch, where `after` is what
-- follows the text in the source text.
abbrev pub LexesBefore : List ℕ → List Token → List ℕ → Type 0
LexesBefore text [] after = IsIgnored text after
LexesBefore text (token ∷ tokens) after =
    (stretch : List ℕ) × (spelling : List ℕ) × (rest : List ℕ) × (text ≡ stretch ++ (spelling ++ rest))
    × IsIgnored stretch (spelling ++ (rest ++ after)) × Spells token spelling (rest ++ after)
    × LexesBefore rest tokens after

-- The whole source text has these tokens.
abbrev pub Lexes : List ℕ → List Token → Type 0
Lexes text tokens = LexesBefore text tokens []
