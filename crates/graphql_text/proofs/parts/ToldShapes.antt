-- The shape of a part, told once: the tokens that it spells, how its brackets fit its marks, and how deep it nests.
use Rattle.std.proofs.Common.{ℕ, suc, max, ◌≡◌, Bool, true, false, List, [], ◌∷◌, ◌++◌, map, refl, sym, subst}
use Rattle.graphql_base.specs.Names.{is_name}
use Rattle.graphql_text.specs.lexical.Literals.{NameText, IntText, FloatText, StringText}
use Rattle.graphql_text.specs.lexical.Tokens.{Punctuator, lbracket, rbracket, lbrace, rbrace, Token, Punctuation, Name, IntValue, FloatValue, StringValue}
use Rattle.graphql_text.specs.grammar.Forms.{Form}
use Rattle.graphql_text.specs.layout.Layout.{Item, Word, StringItem, StringRole, Space, Soft, Blank, raises, lowers, flat, comma_group, curly_group}
use Rattle.graphql_text.specs.layout.Nesting.{group_nesting}
use Rattle.graphql_text.proofs.parts.PartTokens.{Tail, list_tokens}
use Rattle.graphql_text.specs.layout.Spelling.{punctuator_leaves_room, tokens_of_items}
use Rattle.graphql_text.proofs.layout.SpellingByParts.{Spelling, spelt_nothing, spelt_then, spelt_mark, spelt_word, spelt_int, spelt_float}
use Rattle.graphql_text.proofs.layout.SpellingByParts.{spelt_string, spelt_space, spelt_comma, spelt_soft, spelt_blank, spelt_weaker}
use Rattle.graphql_text.proofs.layout.SpellingByParts.{spelt_flat, spelt_comma_group, spelt_curly_group}
use Rattle.graphql_text.proofs.layout.SpellingByParts as spelling
use Rattle.graphql_text.proofs.layout.BracketsByParts.{Effect, Opens, Closes, Passes, punctuator_effect, Bracketed, bracketed_nothing}
use Rattle.graphql_text.proofs.layout.BracketsByParts.{bracketed_then, bracketed_after, bracketed_as, bracketed_word, bracketed_string}
use Rattle.graphql_text.proofs.layout.BracketsByParts.{bracketed_space, bracketed_comma, bracketed_soft, bracketed_blank, bracketed_type}
use Rattle.graphql_text.proofs.layout.BracketsByParts.{bracketed_flat, bracketed_comma_group, bracketed_curly_group}
use Rattle.graphql_text.proofs.layout.BracketsByParts as bracketing

-- The items spell the tokens, may stand right behind a word or not, and nest so deep;
-- they fit where so many brackets are open that no Raise mark counts.
pub record Told (uncounted : ℕ) (items : List Item) (tokens : Tail) (opens : Bool) (nesting : ℕ) : Type 0 where
  pub spelt : Spelling items tokens opens
  pub bracketed : Bracketed uncounted items nesting

pub told_nothing : {u : ℕ} → Told u [] (λ ts. ts) true 0
told_nothing = record { spelt = spelt_nothing; bracketed = bracketed_nothing }

-- one part and then another
pub told_then : {u m n : ℕ} {xs ys : List Item} {v w : Tail} {o : Bool} → Told u xs v o m → Told u ys w true n → Told u (xs ++ ys) (λ ts. v (w ts)) o (max m n)
told_then a b = record { spelt = spelt_then a.spelt b.spelt; bracketed = bracketed_then a.bracketed b.bracketed }

-- a part without a group, and then another
pub told_after : {u n : ℕ} {xs ys : List Item} {v w : Tail} {o : Bool} → Told u xs v o 0 → Told u ys w true n → Told u (xs ++ ys) (λ ts. v (w ts)) o n
told_after a b = record { spelt = spelt_then a.spelt b.spelt; bracketed = bracketed_after a.bracketed b.bracketed }

-- the nesting told in another way
pub told_as : {u m n : ℕ} {xs : List Item} {w : Tail} {o : Bool} → m ≡ n → Told u xs w o m → Told u xs w o n
told_as e a = record { spelt = a.spelt; bracketed = bracketed_as e a.bracketed }

-- a part that is known to leave room, where that isn't asked
pub told_weaker : {u n : ℕ} {xs : List Item} {w : Tail} {o : Bool} → Told u xs w o n → Told u xs w false n
told_weaker a = record { spelt = spelt_weaker a.spelt; bracketed = a.bracketed }

-- a punctuator that is no bracket, a word, a name, a number or a string before a part
pub told_mark : {u n : ℕ} {xs : List Item} {w : Tail} {o : Bool} (mark : Punctuator) → punctuator_effect mark ≡ Passes → Told u xs w o n →
    Told u (Word (Punctuation mark) ∷ xs) (λ ts. Punctuation mark ∷ w ts) (punctuator_leaves_room mark) n
told_mark mark e a = record { spelt = spelt_mark mark a.spelt; bracketed = bracketed_word e a.bracketed }

pub told_word : {u n : ℕ} {xs : List Item} {w : Tail} (text : List ℕ) → is_name text ≡ true → Told u xs w true n →
    Told u (Word (Name text) ∷ xs) (λ ts. Name text ∷ w ts) false n
told_word text is a = record { spelt = spelt_word text is a.spelt; bracketed = bracketed_word refl a.bracketed }

pub told_name : {u n : ℕ} {xs : List Item} {w : Tail} (name : NameText) → Told u xs w true n →
    Told u (Word (Name name.text) ∷ xs) (λ ts. Name name.text ∷ w ts) false n
told_name name a = told_word name.text name.valid a

pub told_int : {u n : ℕ} {xs : List Item} {w : Tail} (int : IntText) → Told u xs w true n →
    Told u (Word (IntValue int.text) ∷ xs) (λ ts. IntValue int.text ∷ w ts) false n
told_int int a = record { spelt = spelt_int int a.spelt; bracketed = bracketed_word refl a.bracketed }

pub told_float : {u n : ℕ} {xs : List Item} {w : Tail} (float : FloatText) → Told u xs w true n →
    Told u (Word (FloatValue float.text) ∷ xs) (λ ts. FloatValue float.text ∷ w ts) false n
told_float float a = record { spelt = spelt_float float a.spelt; bracketed = bracketed_word refl a.bracketed }

pub told_string : {n : ℕ} {xs : List Item} {w : Tail} (value : StringText) (role : StringRole) → Told 0 xs w true n →
    Told 0 (StringItem value.text role ∷ xs) (λ ts. StringValue value.text ∷ w ts) false n
told_string value role a = record { spelt = spelt_string value role a.spelt; bracketed = bracketed_string value.text role a.bracketed }

-- a separator or a break before a part
pub told_space : {u n : ℕ} {xs : List Item} {w : Tail} {o : Bool} → Told u xs w o n → Told u (Space ∷ xs) w true n
told_space a = record { spelt = spelt_space a.spelt; bracketed = bracketed_space a.bracketed }

pub told_soft : {n : ℕ} {xs : List Item} {w : Tail} {o : Bool} → Told 0 xs w o n → Told 0 (Soft ∷ xs) w true n
told_soft a = record { spelt = spelt_soft a.spelt; bracketed = bracketed_soft a.bracketed }

pub told_blank : {n : ℕ} {xs : List Item} {w : Tail} {o : Bool} → Told 0 xs w o n → Told 0 (Blank ∷ xs) w true n
told_blank a = record { spelt = spelt_blank a.spelt; bracketed = bracketed_blank a.bracketed }

-- the brackets of a type
pub told_type : {u m n : ℕ} {xs ys : List Item} {v w : Tail} {o p : Bool} → Told (suc u) xs v o m → Told u ys w p n →
    Told u (Word (Punctuation lbracket) ∷ (xs ++ (Word (Punctuation rbracket) ∷ ys)))
    (λ ts. Punctuation lbracket ∷ v (Punctuation rbracket ∷ w ts)) true (max m n)
told_type a b = record { spelt = spelt_mark lbracket (spelt_then a.spelt (spelt_mark rbracket b.spelt)); bracketed = bracketed_type a.bracketed b.bracketed }

-- a part that is always flat
pub told_flat : {u n : ℕ} {xs : List Item} {w : Tail} {o : Bool} → Told u xs w o n → Told u (flat xs) w o n
told_flat a = record { spelt = spelt_flat a.spelt; bracketed = bracketed_flat a.bracketed }

-- groups
pub data Row : List (List Item) → Tail → List ℕ → Type 0 where
  no_row : Row [] (λ ts. ts) []
  row_more : {x : List Item} {xs : List (List Item)} {v w : Tail} {n : ℕ} {ns : List ℕ} → Told 0 x v false n → Row xs w ns →
      Row (x ∷ xs) (λ ts. v (w ts)) (n ∷ ns)

pub row_of : {A : Type 0} {shape : A → List Item} {w : A → Tail} {nesting : A → ℕ} → ((a : A) → Told 0 (shape a) (w a) false (nesting a)) →
    (more : List A) → Row (map shape more) (list_tokens w more) (map nesting more)
row_of part [] = no_row
row_of part (a ∷ more) = row_more (part a) (row_of part more)

row_spelt : {xs : List (List Item)} {w : Tail} {ns : List ℕ} → Row xs w ns → spelling.Row xs w
row_spelt no_row = spelling.no_row
row_spelt (row_more a more) = spelling.row_more a.spelt (row_spelt more)

row_bracketed : {xs : List (List Item)} {w : Tail} {ns : List ℕ} → Row xs w ns → bracketing.Row xs ns
row_bracketed no_row = bracketing.no_row
row_bracketed (row_more a more) = bracketing.row_more a.bracketed (row_bracketed more)

pub told_comma_group : {xs : List (List Item)} {w : Tail} {ns : List ℕ} (opening closing : Punctuator) (broken : Bool) →
    punctuator_effect opening ≡ Opens → punctuator_effect closing ≡ Closes → punctuator_leaves_room closing ≡ true → Row xs w ns →
    Told 0 (comma_group opening closing broken xs) (λ ts. Punctuation opening ∷ w (Punctuation closing ∷ ts))
    (punctuator_leaves_room opening) (group_nesting ns)
told_comma_group opening closing broken o k r parts = record {
  spelt = spelt_comma_group opening closing broken r (row_spelt parts);
  bracketed = bracketed_comma_group opening closing broken o k (row_bracketed parts);
}

pub told_curly_group : {xs : List (List Item)} {w : Tail} {ns : List ℕ} → Row xs w ns →
    Told 0 (curly_group xs) (λ ts. Punctuation lbrace ∷ w (Punctuation rbrace ∷ ts)) true (group_nesting ns)
told_curly_group parts = record { spelt = spelt_curly_group (row_spelt parts); bracketed = bracketed_curly_group (row_bracketed parts) }

-- a part raises the level as often as it lowers it
pub told_balanced : {u n : ℕ} {xs : List Item} {w : Tail} {o : Bool} → Told u xs w o n → raises xs ≡ lowers xs
told_balanced a = let bracketed = a.bracketed in bracketed.balanced

-- what derives from the tokens derives from the words and strings of the items
pub told_derives : {u n : ℕ} {xs : List Item} {w : Tail} {o : Bool} (form : Form) (rest : List Token) → Told u xs w o n →
    form (w rest) rest → form (tokens_of_items xs ++ rest) rest
told_derives form rest a derived = let spelt = a.spelt in subst (λ ts. form ts rest) (sym (spelt.lists rest)) derived
