-- What lets bytes be read for the whole program.
use Rattle.std.specs.Prelude.{◌≡◌, ℕ, List, []}
use base.Fml.{Fml}
use denote.Builtin.{u8}
use denote.RawPtr.{Ptr, block_ptr, block_of, count_of}
use denote.Slice.{elements_shared}

-- p points into a block
abbrev pub IsPlaced : Ptr → Type 0
IsPlaced p = p ≡ block_ptr (block_of p) (count_of p)

-- these bytes lie at p and stay as they are, for a lifetime that never ends
abbrev pub readable_forever : Ptr → List ℕ → Fml
readable_forever p bytes = elements_shared u8 bytes (block_of p) (count_of p) []
