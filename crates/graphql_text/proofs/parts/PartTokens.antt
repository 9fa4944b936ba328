-- The tokens of parts as they are printed; and what holds of each part.
use Rattle.std.proofs.Common.{List, [], ◌∷◌, Option, Some, None}
use Rattle.graphql_text.specs.lexical.Tokens.{Punctuator, Token, Punctuation}

-- what puts the tokens of a part in front of those that follow
abbrev pub Tail : Type 0
Tail = List Token → List Token

-- a part that is there or not
abbrev pub optional_tokens : {A : Type 0} → (A → Tail) → Option A → Tail
optional_tokens tail None rest = rest
optional_tokens tail (Some part) rest = tail part rest

-- each part
abbrev pub list_tokens : {A : Type 0} → (A → Tail) → List A → Tail
list_tokens tail [] rest = rest
list_tokens tail (part ∷ more) rest = tail part (list_tokens tail more rest)

-- the parts between brackets, or nothing where there is no part
abbrev pub group_tokens : {A : Type 0} → Punctuator → (A → Tail) → Punctuator → List A → Tail
group_tokens opening tail closing [] rest = rest
group_tokens opening tail closing (part ∷ more) rest =
    Punctuation opening ∷ tail part (list_tokens tail more (Punctuation closing ∷ rest))

-- the parts after a token with a separator between them, or nothing where there is no part
abbrev pub joined_tokens : {A : Type 0} → Token → Punctuator → (A → Tail) → List A → Tail
joined_tokens leading separator tail [] rest = rest
joined_tokens leading separator tail (part ∷ more) rest =
    leading ∷ tail part (list_tokens (λ other after. Punctuation separator ∷ tail other after) more rest)
