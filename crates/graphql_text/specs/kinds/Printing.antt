-- What a print is asked for, and how what was printed is read.
use Rattle.std.specs.Prelude.{◌≡◌, ◌↔◌, ℕ, List, Option, Some, IsTrue, MatchOption, codes, encode_utf8_all}
use Rattle.graphql_text.specs.kinds.Kinds.{Kind, layout_of}
use Rattle.graphql_text.specs.layout.Levels.{HasDepths, Overflows}
use Rattle.graphql_text.specs.code.Place.{mode_of}
use Rattle.graphql_text.specs.kinds.Reading.{ReadsAlone}
use Rattle.graphql_text.specs.declared.engine.Serialize.{Serialize}
use Rattle.graphql_text.specs.declared.place.Start.{Start}

module _ {T : Type 0} where
  -- the tree that is printed
  abbrev pub print_tree : Serialize T → T
  print_tree s = s.tree.now

  -- the prefix of its lines, or none on one line
  abbrev pub print_mode : Serialize T → Option (List ℕ)
  print_mode s = mode_of s.prefix

  -- the level that it starts at
  abbrev pub print_level : Serialize T → ℕ
  print_level s = s.level

  -- the bytes of its layout, where `tree_of` takes a tree to the one of its kind
  abbrev pub print_bytes : (kind : Kind) → (T → kind.Tree) → Serialize T → List ℕ
  print_bytes kind tree_of s = encode_utf8_all (layout_of kind (print_mode s) (print_level s) (tree_of (print_tree s)))

  -- its starting level and the nesting of the tree don't fit together
  abbrev pub PrintOverflows : (kind : Kind) → (T → kind.Tree) → Serialize T → Type 0
  PrintOverflows kind tree_of s = Overflows (print_level s) (kind.nesting (tree_of (print_tree s)))

  -- There the print begins, with the depths of its tree.
  pub record IsStart (kind : Kind) (tree_of : T → kind.Tree) (list_depth : kind.Tree → ℕ) (s : Serialize T) (start : Start) : Type 0 where
    pub depths : HasDepths start.depths (kind.nesting (tree_of (print_tree s))) (list_depth (tree_of (print_tree s)))
    pub mode : mode_of start.place.prefix ≡ print_mode s
    pub level : start.place.level ≡ print_level s

  -- It prints this tree in the default layout: a prefix of two spaces, from level 0.
  pub record IsDefaultPrint (given : T) (s : Serialize T) : Type 0 where
    pub tree : print_tree s ≡ given
    pub mode : print_mode s ≡ Some (codes "  ")
    pub level : print_level s ≡ 0

-- the bytes of a tree in the default layout
abbrev pub default_bytes : (kind : Kind) → kind.Tree → List ℕ
default_bytes kind tree = encode_utf8_all (layout_of kind (Some (codes "  ")) 0 tree)

-- What is printed and read of the trees of `T`, as trees of the first kind, is what is printed and read of them as trees of the other.
pub record IsKind {T : Type 0} (kind : Kind) (tree_of : T → kind.Tree) (other : Kind) (other_tree : T → other.Tree) : Type 0 where
  pub printed : (s : Serialize T) → print_bytes kind tree_of s ≡ print_bytes other other_tree s
  pub read : (bytes : List ℕ) (t : T) → ReadsAlone kind bytes (tree_of t) ↔ ReadsAlone other bytes (other_tree t)
  pub obeyed : (t : T) → kind.obeys (tree_of t) ≡ other.obeys (other_tree t)
  pub flawed : (t : T) → kind.flaws (tree_of t) ≡ other.flaws (other_tree t)
  pub nested : (t : T) → kind.nesting (tree_of t) ≡ other.nesting (other_tree t)

-- If the tree obeys the side conditions, something was put out, and it is read as the tree, and as no other.
abbrev pub IsReadWhereItObeys : (kind : Kind) → Option (List ℕ) → kind.Tree → Type 0
IsReadWhereItObeys kind output tree = IsTrue (kind.obeys tree) → MatchOption output ⊥ (λ bytes. ReadsAlone kind bytes tree)
