-- Whether the levels of a layout can be counted, and what a first pass over a tree finds.
use Rattle.std.specs.Prelude.{◌≡◌, ℕ, ◌+◌, ◌-◌, ◌<◌, ◌≤◌, ◌^◌, min, Option, MatchOption}
use Rattle.graphql_text.specs.declared.depths.Depths.{Depths}

-- The level and the nesting of a tree fit into 64 bits together, or they don't.
abbrev pub Fits : ℕ → ℕ → Type 0
Fits level nesting = level + nesting < 2 ^ 64

abbrev pub Overflows : ℕ → ℕ → Type 0
Overflows level nesting = 2 ^ 64 ≤ level + nesting

-- The number was found, or nothing where it doesn't fit into 64 bits.
abbrev pub IsCount : Option ℕ → ℕ → Type 0
IsCount found number = MatchOption found (2 ^ 64 ≤ number) (λ n. n ≡ number)

-- the number, or the greatest of 64 bits where it is above that
abbrev pub capped : ℕ → ℕ
capped number = min number (2 ^ 64 - 1)

-- These are the nesting depth of a tree, and the list depth of its types.
pub record HasDepths (depths : Depths) (nesting_depth list_depth : ℕ) : Type 0 where
  pub nesting : depths.nesting ≡ nesting_depth
  pub lists : depths.lists ≡ capped list_depth

-- The depths were found, or nothing where the nesting depth doesn't fit into 64 bits.
abbrev pub AreDepths : Option Depths → ℕ → ℕ → Type 0
AreDepths found nesting_depth list_depth = MatchOption found (2 ^ 64 ≤ nesting_depth) (λ depths. HasDepths depths nesting_depth list_depth)
