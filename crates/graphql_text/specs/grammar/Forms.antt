-- The notation of the syntactic grammar (Grammar Notation, section A.3): the ways in which a form is cut into parts.
use Rattle.std.specs.Prelude.{ℕ, ◌≡◌, List, [], ◌∷◌, Bool, true, false, ◌||◌, not, ◌⊎◌, nat_eq, Option, Some, None}
use Rattle.std.specs.Cmp.Lexicographic.{pointwise}
use Rattle.graphql_text.specs.lexical.Literals.{NameText}
use Rattle.graphql_text.specs.lexical.Tokens.{Punctuator, lbrace, rbrace, punctuator_text, Token, Punctuation, Name, IntValue, FloatValue, StringValue}

-- a form, as a relation between the tokens from its place on and those that follow it
abbrev pub Form : Type 1
Form = List Token → List Token → Type 0

-- one token
unfoldable pub token : Token → Form
token word tokens rest = tokens ≡ word ∷ rest

-- one word of the grammar
abbrev pub keyword : List ℕ → Form
keyword word = token (Name word)

-- nothing
unfoldable pub no_tokens : Form
no_tokens tokens rest = tokens ≡ rest

infixr 40 ◌⨟◌
-- one form and then another
unfoldable pub ◌⨟◌ : Form → Form → Form
◌⨟◌ first second tokens rest = (between : List Token) × first tokens between × second between rest

-- a token that may be left out
unfoldable pub optional_token : Token → Form
optional_token word tokens rest = (tokens ≡ rest) ⊎ (tokens ≡ word ∷ rest)

-- a part that is there or not
abbrev pub optional : {A : Type 0} → (A → Form) → Option A → Form
optional form None = no_tokens
optional form (Some part) = form part

-- any number of parts
abbrev pub list_of : {A : Type 0} → (A → Form) → List A → Form
list_of form [] = no_tokens
list_of form (part ∷ more) = form part ⨟ list_of form more

-- at least one part between brackets, or nothing at all
abbrev pub optional_group : {A : Type 0} → Punctuator → (A → Form) → Punctuator → List A → Form
optional_group opening form closing [] = no_tokens
optional_group opening form closing (part ∷ more) =
    token (Punctuation opening) ⨟ form part ⨟ list_of form more ⨟ token (Punctuation closing)

-- whether a text is one of some texts
abbrev pub is_one_of : List (List ℕ) → List ℕ → Bool
is_one_of [] text = false
is_one_of (word ∷ words) text = pointwise nat_eq word text || is_one_of words text

-- a name other than some words
unfoldable pub name_except : List (List ℕ) → NameText → Form
name_except words name tokens rest = (is_one_of words name.text ≡ false) × (tokens ≡ Name name.text ∷ rest)

-- what a token can be: one punctuator, one word, a name other than some words, an int, a float, a string
pub data TokenClass : Type 0 where
  a_punctuator : Punctuator → TokenClass
  a_keyword : List ℕ → TokenClass
  a_name : List (List ℕ) → TokenClass
  an_int a_float a_string_value : TokenClass

-- the classes of some punctuators
abbrev pub marks : List Punctuator → List TokenClass
marks [] = []
marks (mark ∷ more) = a_punctuator mark ∷ marks more

-- whether a token is of a class
abbrev pub admits : TokenClass → Token → Bool
admits (a_punctuator mark) (Punctuation other) = pointwise nat_eq (punctuator_text mark) (punctuator_text other)
admits (a_keyword word) (Name text) = pointwise nat_eq word text
admits (a_name words) (Name text) = not (is_one_of words text)
admits an_int (IntValue text) = true
admits a_float (FloatValue text) = true
admits a_string_value (StringValue value) = true
admits _ _ = false

-- whether a token is of one of these classes
abbrev pub any_admits : List TokenClass → Token → Bool
any_admits [] token = false
any_admits (class ∷ classes) token = admits class token || any_admits classes token

-- whether the next token is one of these
abbrev pub begins : List TokenClass → List Token → Bool
begins classes [] = false
begins classes (first ∷ more) = any_admits classes first

-- whether the next token is `{`
abbrev pub brace_follows : List Token → Bool
brace_follows (Punctuation lbrace ∷ more) = true
brace_follows _ = false

-- nothing, where no `{` follows
unfoldable pub no_brace : Form
no_brace tokens rest = (tokens ≡ rest) × (brace_follows rest ≡ false)

-- a form that is there only under a condition
unfoldable pub only_if : Type 0 → Form → Form
only_if condition form tokens rest = condition × form tokens rest

-- one of two forms
unfoldable pub either : Form → Form → Form
either one other tokens rest = one tokens rest ⊎ other tokens rest

-- no form at all
unfoldable pub never : Form
never tokens rest = ⊥

-- at least one part
abbrev pub nonempty_list_of : {A : Type 0} → (A → Form) → List A → Form
nonempty_list_of form [] = never
nonempty_list_of form (part ∷ more) = form part ⨟ list_of form more

-- at least one part between braces, or nothing, and then no `{` follows
abbrev pub optional_braces : {A : Type 0} → (A → Form) → List A → Form
optional_braces form [] = no_brace
optional_braces form (part ∷ more) =
    token (Punctuation lbrace) ⨟ form part ⨟ list_of form more ⨟ token (Punctuation rbrace)

-- at least one part after a token, with a separator between them and perhaps one in front, or nothing at all
abbrev pub joined_by : {A : Type 0} → Token → Punctuator → (A → Form) → List A → Form
joined_by leading separator form [] = no_tokens
joined_by leading separator form (part ∷ more) =
    token leading ⨟ optional_token (Punctuation separator) ⨟ form part ⨟ list_of (λ other. token (Punctuation separator) ⨟ form other) more
