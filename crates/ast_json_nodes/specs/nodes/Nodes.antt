-- Nodes of a syntax tree in JSON, as graphql-js 16 writes them: objects with a kind, members, and perhaps a location.
use Rattle.std.specs.Prelude.{◌≡◌, ℕ, ◌^◌, ◌-◌, Bool, true, false, ◌&&◌, List, [], ◌∷◌, Option, Some, None, option_and_then, MatchOption}
use Rattle.std.specs.Prelude.{IsSome, IsSomeAnd, IsTrue, ⊤, codes, nat_eq, nat_le, nat_lt, if◌then◌else◌, encode_utf8_all}
use Rattle.serde_json.specs.Data.{Data, null, boolean, number, string, object, unsigned, Items, no_items, item, Members, no_members, member}
use Rattle.serde_json.specs.Find.{get, as_array}
use Rattle.graphql_text.specs.grammar.Forms.{is_one_of}
use Rattle.graphql_text.specs.lexical.Literals.{NameText, StringText}
use Rattle.ast_json_nodes.specs.declared.read.Unknown.{Unknown}
use Rattle.ast_json_nodes.specs.declared.read.Unknown.TheVariants.{Refuse, PassOver}

-- a member that is null is the same as none
abbrev pub present : Data → Option Data
present null = None
present json = Some json

abbrev pub member_of : List ℕ → Data → Option Data
member_of name json = option_and_then present (get name json)

-- no member has another name
abbrev pub names_among : List (List ℕ) → Members → Bool
names_among names no_members = true
names_among names (member name _ more) = is_one_of names name && names_among names more

-- an object whose members have these names; one that passes over the unknown may have others too
abbrev pub HasOnly : Unknown → List (List ℕ) → Data → Type 0
HasOnly Refuse names (object members) = IsTrue (names_among names members)
HasOnly PassOver names (object _) = ⊤
HasOnly unknown names _ = ⊥

-- a stretch of a source text: its offsets, in the unit of whoever wrote the JSON
pub record Stretch : Type 0 where
  pub start : ℕ
  pub end : ℕ

abbrev pub offset_of : Option Data → Option ℕ
offset_of (Some (number (unsigned n))) = if nat_lt n (2 ^ 32) then Some n else None
offset_of _ = None

abbrev ordered : ℕ → ℕ → Option Stretch
ordered start end = if nat_le start end then Some (record { start = start; end = end }) else None

-- the stretch that a location is, if its offsets are numbers below 2 ^ 32 in order
abbrev pub stretch_in : Data → Option Stretch
stretch_in json = option_and_then (λ start. option_and_then (ordered start) (offset_of (get (codes "end") json))) (offset_of (get (codes "start") json))

-- where a node stands, if it tells
abbrev pub told_stretch : Data → Option Stretch
told_stretch json = option_and_then stretch_in (member_of (codes "loc") json)

-- the stretch, if it is this long
abbrev pub as_long_as : ℕ → Option Stretch → Option Stretch
as_long_as n None = None
as_long_as n (Some at) = if nat_eq (at.end - at.start) n then Some at else None

-- Location: `start` and `end`, and nothing else
abbrev pub IsLocation : Unknown → Data → Type 0
IsLocation unknown json = HasOnly unknown (codes "start" ∷ codes "end" ∷ []) json × IsSome (stretch_in json)

-- there is no location, or it is one
abbrev pub IsLocated : Unknown → Data → Type 0
IsLocated unknown json = MatchOption (member_of (codes "loc") json) ⊤ (IsLocation unknown)

-- a node of this kind, whose other members have these names
abbrev pub IsNode : Unknown → List ℕ → List (List ℕ) → Data → Type 0
IsNode unknown kind names json =
    (member_of (codes "kind") json ≡ Some (string kind)) × HasOnly unknown (codes "kind" ∷ codes "loc" ∷ names) json × IsLocated unknown json

-- a member is there, and is such
abbrev pub Member : List ℕ → Data → (Data → Type 0) → Type 0
Member name json Is = IsSomeAnd (member_of name json) Is

-- it is not there, or is such
abbrev pub OptionalMember : List ℕ → Data → (Data → Type 0) → Type 0
OptionalMember name json Is = MatchOption (member_of name json) ⊤ Is

-- a member is there exactly where something is, and is that
abbrev pub IsOptional : {A : Type 0} → (A → Data → Type 0) → Option A → Option Data → Type 0
IsOptional Is None None = ⊤
IsOptional Is (Some x) (Some json) = Is x json
IsOptional Is _ _ = ⊥

-- a list is there, and its items are such
abbrev pub ListMember : List ℕ → Data → (Items → Type 0) → Type 0
ListMember name json Are = IsSomeAnd (option_and_then as_array (member_of name json)) Are

abbrev pub items_or_none : Option Data → Option Items
items_or_none None = Some no_items
items_or_none (Some json) = as_array json

-- a list is there whose items are such, or none is there, which is the same as an empty one
abbrev pub OptionalListMember : List ℕ → Data → (Items → Type 0) → Type 0
OptionalListMember name json Are = IsSomeAnd (items_or_none (member_of name json)) Are

abbrev pub IsBoolean : Data → Type 0
IsBoolean (boolean _) = ⊤
IsBoolean _ = ⊥

-- whether a member is true: one that is not there is false
abbrev pub IsFlag : Bool → Option Data → Type 0
IsFlag is_so None = is_so ≡ false
IsFlag is_so (Some json) = json ≡ boolean is_so

-- the items are such, one by one
abbrev pub Each : {A : Type 0} → (A → Data → Type 0) → List A → Items → Type 0
Each Is [] no_items = ⊤
Each Is (x ∷ xs) (item json more) = Is x json × Each Is xs more
Each Is _ _ = ⊥

-- Name: its text in `value`
abbrev pub IsName : Unknown → NameText → Data → Type 0
IsName unknown name json =
    IsNode unknown (codes "Name") (codes "value" ∷ []) json × (member_of (codes "value") json ≡ Some (string name.text))

-- StringValue: its text in `value`; `block`, whether it was written as a block string, is not told by a tree
abbrev pub IsStringValue : Unknown → StringText → Data → Type 0
IsStringValue unknown text json =
    IsNode unknown (codes "StringValue") (codes "value" ∷ codes "block" ∷ []) json
    × (member_of (codes "value") json ≡ Some (string (encode_utf8_all text.text)))
    × OptionalMember (codes "block") json IsBoolean

-- the member `name` is this name
abbrev pub HasName : Unknown → NameText → Data → Type 0
HasName unknown name json = Member (codes "name") json (IsName unknown name)
