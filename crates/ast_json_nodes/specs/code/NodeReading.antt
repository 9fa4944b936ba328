-- What a reader finds in JSON: the names of its members, and where a node stands.
use Rattle.std.specs.Prelude.{◌≡◌, ℕ, List, [], ◌∷◌, length, Option, Some, IfSome, codes, map, option_map}
use Rattle.std.specs.Borrow.{Bor}
use Rattle.graphql_base.specs.declared.span.FileId.{FileId}
use Rattle.graphql_base.specs.declared.span.SourceSpan.{SourceSpan}
use Rattle.graphql_base.specs.Name.{name_location, name_text}
use Rattle.graphql_base.specs.declared.name.Name.{Name}
use Rattle.graphql_base.specs.Span.{span_end, span_file, span_start}
use Rattle.serde_json.specs.Data.{Data, string}
use Rattle.serde_json.specs.View.{view}
use Rattle.ast_json_nodes.specs.declared.read.NodeReader.{NodeReader}
use Rattle.ast_json_nodes.specs.declared.read.Unknown.{Unknown}
use Rattle.ast_json_nodes.specs.nodes.Nodes.{IsBoolean, IsLocated, IsNode, OptionalMember, Stretch, as_long_as, member_of, told_stretch}

-- the texts of some borrowed texts
abbrev pub texts_of : List (Bor (List ℕ)) → List (List ℕ)
texts_of = map (λ text. text.now)

-- the JSON that is read
abbrev pub node_json : NodeReader → Data
node_json node = view node.json.now

-- what is read is of this tree, by the reader's rule for what is unknown
abbrev pub IsReadAs : {Tree : Type 0} → (Unknown → Tree → Data → Type 0) → NodeReader → Tree → Type 0
IsReadAs Is node tree = Is node.unknown tree (node_json node)

-- it is of no tree
abbrev pub IsOfNone : {Tree : Type 0} → (Unknown → Tree → Data → Type 0) → NodeReader → Type 0
IsOfNone {Tree = Tree} Is node = (tree : Tree) → Is node.unknown tree (node_json node) → ⊥

abbrev pub stretch_of : SourceSpan → Stretch
stretch_of span = record { start = span_start span; end = span_end span }

-- the location is what the node tells
abbrev pub StandsAt : Option SourceSpan → Data → Type 0
StandsAt location json = option_map stretch_of location ≡ told_stretch json

-- it is in this file
abbrev pub IsInFile : FileId → Option SourceSpan → Type 0
IsInFile source location = IfSome location (λ span. span_file span ≡ source)

-- a name stands where its node tells, if that is as long as the name
abbrev pub NameStandsAt : Name → Data → Type 0
NameStandsAt name json = option_map stretch_of (name_location name) ≡ as_long_as (length (name_text name)) (told_stretch json)

-- it tells a kind, and where it stands, if it tells that, is a location
abbrev pub TellsKind : Unknown → Data → Type 0
TellsKind unknown json = IsLocated unknown json × ((kind : List ℕ) × (member_of (codes "kind") json ≡ Some (string kind)))

-- a node of this kind with a text
abbrev pub IsTextNode : Unknown → List ℕ → List ℕ → Data → Type 0
IsTextNode unknown kind text json = IsNode unknown kind (codes "value" ∷ []) json × (member_of (codes "value") json ≡ Some (string text))

-- the node of a string whose text has these bytes
abbrev pub IsStringOf : Unknown → List ℕ → Data → Type 0
IsStringOf unknown bytes json =
    IsNode unknown (codes "StringValue") (codes "value" ∷ codes "block" ∷ []) json
    × (member_of (codes "value") json ≡ Some (string bytes)) × OptionalMember (codes "block") json IsBoolean
