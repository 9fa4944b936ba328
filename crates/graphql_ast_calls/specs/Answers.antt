-- What the calls answer. `old` and `new` are what the caller's buffer holds before and after a call.
use Rattle.std.specs.Prelude.{◌≡◌, ℕ, ◌<◌, ◌≤◌, Bool, true, false, List, [], Option, Some, None, IsTrue, IsUtf8, encode_utf8_all, length}
use Rattle.serde_json.specs.Data.{Data, depth}
use Rattle.serde_json.specs.Read.{max_depth, read}
use Rattle.graphql_ast.specs.Kinds.{Kind, layout_of}
use Rattle.graphql_ast.specs.Levels.{Overflows}
use Rattle.graphql_ast.specs.Reading.{ReadsAlone}
use Rattle.graphql_ast.specs.BlockStringValue.{is_blank}
use Rattle.ast_json_nodes.specs.declared.read.Unknown.{Unknown}
use Rattle.ast_json_nodes.specs.declared.read.Unknown.TheVariants.{Refuse, PassOver}
use Rattle.graphql_ast_calls.specs.Buffers.{told_length}
use Rattle.graphql_ast_calls.specs.Messages.{HasMessage, Holds}
use Rattle.graphql_ast_calls.specs.declared.status.Status.{Status}
use Rattle.graphql_ast_calls.specs.declared.status.Status.TheVariants.{Done, TooShort, NotJson, NoTree, IllFormed, LevelOverflow, OutOfMemory, WrongPrefix}

-- the reading that passes over what no node of a kind has, or refuses it
abbrev pub reading : Bool → Unknown
reading true = PassOver
reading false = Refuse

-- the layout that is asked for: over several lines under a prefix, or on one line. A prefix has spaces and tabs alone, whose bytes are its characters.
abbrev pub mode_of : Bool → List ℕ → Option (List ℕ)
mode_of true prefix = Some prefix
mode_of false prefix = None

abbrev pub IsWrongPrefix : Bool → List ℕ → Type 0
IsWrongPrefix broken prefix = (broken ≡ true) × (is_blank prefix ≡ false)

-- The bytes are JSON that is of this tree, and of no other.
pub record IsJsonOf {Tree : Type 0} (Is : Tree → Data → Type 0) (json : List ℕ) (tree : Tree) : Type 0 where
  pub parsed : Data
  pub text : read json ≡ Some parsed
  pub is : Is tree parsed
  pub alone : (other : Tree) → Is other parsed → other ≡ tree

-- They are no JSON.
abbrev pub IsNoJson : List ℕ → Type 0
IsNoJson json = IsUtf8 json → read json ≡ None

-- They are JSON that is of no tree.
pub record IsJsonOfNone {Tree : Type 0} (Is : Tree → Data → Type 0) (json : List ℕ) : Type 0 where
  pub parsed : Data
  pub text : read json ≡ Some parsed
  pub none : (tree : Tree) → Is tree parsed → ⊥

-- the bytes of the layout of a tree
abbrev pub layout_bytes : (kind : Kind) → Option (List ℕ) → ℕ → kind.Tree → List ℕ
layout_bytes kind mode level tree = encode_utf8_all (layout_of kind mode level tree)

-- The layout of the tree stands in the buffer, and is read as the tree, and as no other.
pub record HoldsPrint (kind : Kind) (mode : Option (List ℕ)) (level : ℕ) (old new : List ℕ) (needed : ℕ) (tree : kind.Tree) : Type 0 where
  pub printed : Holds old new needed (layout_bytes kind mode level tree)
  pub read : ReadsAlone kind (layout_bytes kind mode level tree) tree

-- The layout of the tree, which would be read as the tree, doesn't fit: so long it is.
pub record IsTooLong (kind : Kind) (mode : Option (List ℕ)) (level : ℕ) (old : List ℕ) (needed : ℕ) (tree : kind.Tree) : Type 0 where
  pub count : needed ≡ told_length (length (layout_bytes kind mode level tree))
  pub room : length old < length (layout_bytes kind mode level tree)
  pub read : ReadsAlone kind (layout_bytes kind mode level tree) tree

-- What a print of a well-formed tree answers.
abbrev pub TreePrintAnswer : (kind : Kind) → Option (List ℕ) → ℕ → List ℕ → List ℕ → ℕ → kind.Tree → Status → Type 0
TreePrintAnswer kind mode level old new needed tree Done = HoldsPrint kind mode level old new needed tree
TreePrintAnswer kind mode level old new needed tree TooShort = IsTooLong kind mode level old needed tree
TreePrintAnswer kind mode level old new needed tree LevelOverflow = Overflows level (kind.nesting tree) × HasMessage old new needed
TreePrintAnswer kind mode level old new needed tree OutOfMemory = HasMessage old new needed
TreePrintAnswer kind mode level old new needed tree _ = ⊥

-- What a call answers that prints the tree that some JSON is of.
abbrev pub PrintAnswer : (kind : Kind) → (kind.Tree → Data → Type 0) → List ℕ → Option (List ℕ) → ℕ →
    List ℕ → List ℕ → ℕ → Status → Type 0
PrintAnswer kind Is json mode level old new needed Done = (tree : kind.Tree) × IsJsonOf Is json tree × HoldsPrint kind mode level old new needed tree
PrintAnswer kind Is json mode level old new needed TooShort = (tree : kind.Tree) × IsJsonOf Is json tree × IsTooLong kind mode level old needed tree
PrintAnswer kind Is json mode level old new needed NotJson = IsNoJson json × HasMessage old new needed
PrintAnswer kind Is json mode level old new needed NoTree = IsJsonOfNone Is json × HasMessage old new needed
PrintAnswer kind Is json mode level old new needed IllFormed =
    (tree : kind.Tree) × IsJsonOf Is json tree × (kind.obeys tree ≡ false) × HasMessage old new needed
PrintAnswer kind Is json mode level old new needed LevelOverflow =
    (tree : kind.Tree) × IsJsonOf Is json tree × Overflows level (kind.nesting tree) × HasMessage old new needed
PrintAnswer kind Is json mode level old new needed OutOfMemory = HasMessage old new needed
PrintAnswer kind Is json mode level old new needed WrongPrefix = HasMessage old new needed

-- What a call answers that checks whether some JSON is of a tree that is well formed.
abbrev pub CheckAnswer : (kind : Kind) → (kind.Tree → Data → Type 0) → List ℕ → List ℕ → List ℕ → ℕ → Status → Type 0
CheckAnswer kind Is json old new needed Done = (tree : kind.Tree) × IsJsonOf Is json tree × IsTrue (kind.obeys tree) × Holds old new needed []
CheckAnswer kind Is json old new needed NotJson = IsNoJson json × HasMessage old new needed
CheckAnswer kind Is json old new needed NoTree = IsJsonOfNone Is json × HasMessage old new needed
CheckAnswer kind Is json old new needed IllFormed =
    (tree : kind.Tree) × IsJsonOf Is json tree × (kind.obeys tree ≡ false) × HasMessage old new needed
CheckAnswer kind Is json old new needed OutOfMemory = HasMessage old new needed
CheckAnswer kind Is json old new needed _ = ⊥

-- The bytes are JSON of the tree, for either reading. JSON that nests deeper than it is read isn't read again.
pub record IsTextOf {Tree : Type 0} (Is : Unknown → Tree → Data → Type 0) (tree : Tree) (bytes : List ℕ) : Type 0 where
  pub written : Data
  pub is : (unknown : Unknown) → Is unknown tree written
  pub text : depth written ≤ max_depth → read bytes ≡ Some written

-- What a call answers that writes the JSON of a tree anew.
abbrev pub WriteAnswer : {Tree : Type 0} → (Unknown → Tree → Data → Type 0) → Unknown → List ℕ →
    List ℕ → List ℕ → ℕ → Status → Type 0
WriteAnswer {Tree = Tree} Is unknown json old new needed Done =
    (tree : Tree) × IsJsonOf (Is unknown) json tree
    × ((bytes : List ℕ) × IsTextOf Is tree bytes × Holds old new needed bytes)
WriteAnswer {Tree = Tree} Is unknown json old new needed TooShort =
    (tree : Tree) × IsJsonOf (Is unknown) json tree
    × ((bytes : List ℕ) × IsTextOf Is tree bytes × (needed ≡ length bytes) × (length old < length bytes))
WriteAnswer Is unknown json old new needed NotJson = IsNoJson json × HasMessage old new needed
WriteAnswer Is unknown json old new needed NoTree = IsJsonOfNone (Is unknown) json × HasMessage old new needed
WriteAnswer Is unknown json old new needed OutOfMemory = HasMessage old new needed
WriteAnswer Is unknown json old new needed _ = ⊥
