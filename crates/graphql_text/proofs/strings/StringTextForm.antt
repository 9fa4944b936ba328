-- Which form the text of a string has.
use Rattle.std.proofs.Common.{◌≡◌, ◌==◌, ℕ, Bool, true, false, ◌&&◌, ◌||◌, cond, length, nat_lt, List, [], ◌∷◌, Option, None, Some, refl}
use Rattle.std.proofs.Common.{ap, sym, ◌∙◌, eqb-true, true≢false}
use Rattle.std.specs.List.{list_any}
use Rattle.graphql_text.specs.strings.BlockForm.{can_be_block, block_text}
use Rattle.graphql_text.specs.strings.QuotedForm.{quoted_character, quoted_form}
use Rattle.graphql_text.specs.layout.Layout.{StringRole, AsValue, wants_block, string_text}

pub block_here : (prefix : List ℕ) (level : ℕ) (value : List ℕ) (role : StringRole) → wants_block role value ≡ true →
    can_be_block value ≡ true → string_text (Some prefix) level value role ≡ block_text prefix level value
block_here prefix level value role wants can = rw (wants, can) refl

pub unwanted_here : (prefix : List ℕ) (level : ℕ) (value : List ℕ) (role : StringRole) → wants_block role value ≡ false →
    string_text (Some prefix) level value role ≡ quoted_form value
unwanted_here prefix level value role wants = rw wants refl

pub impossible_here : (prefix : List ℕ) (level : ℕ) (value : List ℕ) (role : StringRole) → can_be_block value ≡ false →
    string_text (Some prefix) level value role ≡ quoted_form value
impossible_here prefix level value role can = rw can (go (wants_block role value))
  where
    go : (b : Bool) → cond (b && false) (block_text prefix level value) (quoted_form value) ≡ quoted_form value
    go true = refl
    go false = refl

-- what one test refuses of every character, another that passes less often refuses too
any_less : (p q : ℕ → Bool) → ((c : ℕ) → q c ≡ false → p c ≡ false) → (text : List ℕ) → list_any q text ≡ false → list_any p text ≡ false
any_less p q less [] none = refl
any_less p q less (c ∷ text) none = go (q c) refl (any_less p q less text) none
  where
    go : (b : Bool) → q c ≡ b → (list_any q text ≡ false → list_any p text ≡ false) → b || list_any q text ≡ false → p c || list_any p text ≡ false
    go true e rest h = cc
    go false e rest h = rw (less c e) (rest h)

-- a character that has an escape stands nowhere in a text of which nothing is escaped
pub none_stands : (k : ℕ) → nat_lt 1 (length (quoted_character k)) ≡ true → (text : List ℕ) →
    list_any (λ c. nat_lt 1 (length (quoted_character c))) text ≡ false → list_any (λ c. c == k) text ≡ false
none_stands k is text none = any_less (λ c. c == k) (λ c. nat_lt 1 (length (quoted_character c))) another text none
  where
    another : (c : ℕ) → nat_lt 1 (length (quoted_character c)) ≡ false → (c == k) ≡ false
    another c h = go (c == k) refl
      where
        go : (b : Bool) → (c == k) ≡ b → (c == k) ≡ false
        go false e = e
        go true e = absurd (true≢false (sym is ∙ ap (λ x. nat_lt 1 (length (quoted_character x))) (sym (eqb-true c k e)) ∙ h))

-- a text of which nothing is escaped holds no line feed
pub no_line_feed : (text : List ℕ) → list_any (λ c. nat_lt 1 (length (quoted_character c))) text ≡ false → list_any (λ c. c == 0xA) text ≡ false
no_line_feed text none = none_stands 0xA refl text none

-- a value without line feed is quoted
pub quoted_here : (mode : Option (List ℕ)) (level : ℕ) (value : List ℕ) → list_any (λ c. c == 0xA) value ≡ false →
    string_text mode level value AsValue ≡ quoted_form value
quoted_here None level value none = refl
quoted_here (Some prefix) level value none = unwanted_here prefix level value AsValue none
