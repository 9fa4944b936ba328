-- What a writer does with the items of a layout. `wrote a bytes b` says what a target does with bytes, from a to b.
use Rattle.std.specs.Prelude.{◌≡◌, ℕ, ◌+◌, List, [], ◌∷◌, ◌++◌, codes, false, if◌then◌else◌, Option, None, Some, option_map, encode_utf8_all, ⊤}
use Rattle.graphql_base.specs.Names.{is_name}
use Rattle.graphql_text.specs.lexical.Tokens.{Punctuation, Name, punctuator_text}
use Rattle.graphql_text.specs.layout.Layout.{Item, Word, Space, Comma, Soft, item_text, raises, lowers, text_of_items, is_front, layout}
use Rattle.graphql_text.specs.code.Place.{mode_of, breaks}
use Rattle.graphql_text.specs.kinds.Kinds.{Kind, layout_of}
use Rattle.graphql_text.specs.code.Breaks.{ready_comma_text}
use Rattle.graphql_text.specs.declared.place.Place.{Place}
use Rattle.graphql_text.specs.declared.ready_breaks.ReadyCommaBreak.{ReadyCommaBreak}

-- From a to b the text of the items was written, in UTF-8, at a level. They raise it as often as they lower it.
pub record WritesItems {O : Type 0} (wrote : O → List ℕ → O → Type 0) (a b : O) (mode : Option (List ℕ)) (level : ℕ) (items : List Item) : Type 0 where
  pub text : wrote a (encode_utf8_all (text_of_items mode level 0 0 items)) b
  pub balanced : raises items ≡ lowers items

-- The same at a place.
abbrev pub Writes : {O : Type 0} → (O → List ℕ → O → Type 0) → O → O → Place → List Item → Type 0
Writes wrote a b place items = WritesItems wrote a b (mode_of place.prefix) place.level items

-- The same at every place.
abbrev pub WritesAnywhere : {O : Type 0} → (O → List ℕ → O → Type 0) → O → O → List Item → Type 0
WritesAnywhere wrote a b items = (mode : Option (List ℕ)) (level : ℕ) → WritesItems wrote a b mode level items

-- From a to b some bytes were written, and they are such.
pub record WritesSome {O : Type 0} (wrote : O → List ℕ → O → Type 0) (a : O) (Is : List ℕ → Type 0) (b : O) : Type 0 where
  pub bytes : List ℕ
  pub text : wrote a bytes b
  pub is : Is bytes

-- The same of a tree that stands within another, where something was written before.
abbrev pub WritesPart : {O : Type 0} → (O → List ℕ → O → Type 0) → O → O → Place → (kind : Kind) → kind.Tree → Type 0
WritesPart wrote a b place kind tree = Writes wrote a b place (kind.shape (breaks place) false tree)

-- From a to b the whole layout of the items was written, from a place on: before them the indentation of the first line.
pub record WritesLayout {O : Type 0} (wrote : O → List ℕ → O → Type 0) (a b : O) (place : Place) (items : List Item) : Type 0 where
  pub text : wrote a (encode_utf8_all (layout (mode_of place.prefix) place.level items)) b

-- The same of the items of a tree.
abbrev pub WritesTree : {O : Type 0} → (O → List ℕ → O → Type 0) → O → O → Place → (kind : Kind) → kind.Tree → Type 0
WritesTree wrote a b place kind tree = WritesLayout wrote a b place (kind.shape (breaks place) (is_front (mode_of place.prefix) place.level) tree)

-- the bytes of the whole layout of a tree, from a place on
abbrev pub bytes_from : Place → (kind : Kind) → kind.Tree → List ℕ
bytes_from place kind tree = encode_utf8_all (layout_of kind (mode_of place.prefix) place.level tree)

-- The same of items that need not be balanced: after them stands another level.
pub record WritesToLevel {O : Type 0} (wrote : O → List ℕ → O → Type 0) (a b : O) (mode : Option (List ℕ)) (level : ℕ) (items : List Item)
    (after : ℕ) : Type 0 where
  pub text : wrote a (encode_utf8_all (text_of_items mode level 0 0 items)) b
  pub levels : after + lowers items ≡ level + raises items

-- Of all the items, from a to b those before the rest were written.
pub record WritesBeginning {O : Type 0} (wrote : O → List ℕ → O → Type 0) (a b : O) (mode : Option (List ℕ)) (level : ℕ) (all : List Item)
    (after : ℕ) (rest : List Item) : Type 0 where
  pub done : List Item
  pub parted : all ≡ done ++ rest
  pub written : WritesToLevel wrote a b mode level done after

-- The text of an item that is the same at every place and its own UTF-8 form.
abbrev pub fixed_item_text : Item → Option (List ℕ)
fixed_item_text (Word (Punctuation mark)) = Some (punctuator_text mark)
fixed_item_text (Word (Name name)) = if is_name name then Some name else None
fixed_item_text Space = Some (codes " ")
fixed_item_text Comma = Some (codes ",")
fixed_item_text _ = None

abbrev pub after_text : Option (List ℕ) → Option (List ℕ) → Option (List ℕ)
after_text None _ = None
after_text (Some text) rest = option_map (λ more. text ++ more) rest

-- the text of such items
abbrev pub fixed_text : List Item → Option (List ℕ)
fixed_text [] = Some []
fixed_text (item ∷ items) = after_text (fixed_item_text item) (fixed_text items)

-- What leads to a further item of a comma group at a place, or nothing is said.
abbrev pub IsCommaLead : Option (List ℕ) → ℕ → Option ReadyCommaBreak → Type 0
IsCommaLead mode level None = ⊤
IsCommaLead mode level (Some ready) = ready_comma_text ready ≡ encode_utf8_all (codes "," ++ item_text mode level Soft)
