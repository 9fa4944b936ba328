-- The mode of a place.
use Rattle.std.specs.Prelude.{ℕ, List, Bool, Option, None, Some, chars}
use Rattle.std.specs.Borrow.{Bor}
use Rattle.graphql_text.specs.layout.Layout.{is_broken}
use Rattle.graphql_text.specs.declared.place.Place.{Place}

-- a prefix, as characters, or none on one line
abbrev pub mode_of : Option (Bor (List ℕ)) → Option (List ℕ)
mode_of None = None
mode_of (Some prefix) = Some (chars prefix.now)

-- whether breaks stand where they may: the place has a prefix
abbrev pub breaks : Place → Bool
breaks place = is_broken (mode_of place.prefix)
