-- What a search for flaws answers.
use Rattle.std.specs.Prelude.{◌≡◌, List, Option, Some, None, option_copied}
use Rattle.std.specs.Option.{option_map, option_or}
use Rattle.graphql_base.specs.Name.{name_location}
use Rattle.graphql_base.specs.declared.name.Name.{Name}
use Rattle.graphql_base.specs.declared.span.SourceSpan.{SourceSpan}
use Rattle.graphql_text.specs.kinds.Flaws.{Flaw, first_flaw}
use Rattle.graphql_text.specs.trees.Leaves.{name_tree}
use Rattle.graphql_text.specs.declared.ill_formed.IllFormed.{IllFormed}

abbrev pub flaw_of : IllFormed → Flaw
flaw_of found = record { condition = found.condition; name = option_map name_tree (option_copied found.name) }

-- the location of a name, if there is one and it has one, or else this one
abbrev pub name_location_or : Option SourceSpan → Option Name → Option SourceSpan
name_location_or around (Some name) = option_or (name_location name) around
name_location_or around None = around

abbrev pub location_of : IllFormed → Option SourceSpan
location_of found = name_location_or found.around (option_copied found.name)

abbrev pub found_flaw : Option IllFormed → Option Flaw
found_flaw None = None
found_flaw (Some found) = Some (flaw_of found)

-- The answer is the first of the flaws, and none exactly where there are none.
abbrev pub IsFirstFlaw : List Flaw → Option IllFormed → Type 0
IsFirstFlaw flaws result = found_flaw result ≡ first_flaw flaws
