-- What a search for flaws has found.
use Rattle.std.specs.Prelude.{◌≡◌, List, ◌++◌, map}
use Rattle.graphql_text.specs.code.IllFormed.{flaw_of}
use Rattle.graphql_text.specs.kinds.Flaws.{Flaw}
use Rattle.graphql_flaws.specs.declared.found_flaw.FoundFlaw.{FoundFlaw}
use Rattle.graphql_flaws.specs.declared.search.FlawSearch.{FlawSearch}

-- the flaws that were found, in order, without their paths and locations
abbrev pub flaws_of : List FoundFlaw → List Flaw
flaws_of = map (λ flaw. flaw_of flaw.found)

-- those that a search has found
abbrev pub found_by : FlawSearch → List Flaw
found_by search = flaws_of search.found.items

-- These flaws are found, behind those that a search had found before, and no others.
abbrev pub Finds : List Flaw → FlawSearch → FlawSearch → Type 0
Finds flaws old new = found_by new ≡ found_by old ++ flaws
