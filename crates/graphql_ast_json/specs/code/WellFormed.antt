-- Why no well-formed tree was made of JSON.
use Rattle.std.specs.Prelude.{⊤}
use Rattle.std.specs.Option.{option_map}
use Rattle.graphql_text.specs.kinds.Flaws.{Flaw}
use Rattle.graphql_text.specs.trees.Leaves.{name_tree}
use Rattle.ast_json_nodes.specs.code.Errors.{IsMemory}
use Rattle.ast_json_nodes.specs.declared.error.AstJsonError.{AstJsonError}
use Rattle.graphql_ast_json.specs.declared.well_formed.BrokenCondition.{BrokenCondition}
use Rattle.graphql_ast_json.specs.declared.well_formed.WellFormedError.{WellFormedError}
use Rattle.graphql_ast_json.specs.declared.well_formed.WellFormedError.TheVariants.{NotRead, IllFormed}

-- the flaw that is told
abbrev pub told_flaw : BrokenCondition → Flaw
told_flaw broken = record { condition = broken.condition; name = option_map name_tree broken.name }

-- where no tree was read, this is so of the error of the reading
abbrev pub IfNotRead : WellFormedError → (AstJsonError → Type 0) → Type 0
IfNotRead (NotRead error) Is = Is error
IfNotRead (IllFormed path location broken) Is = ⊤

-- where the tree isn't well formed, this is so of the flaw that is told
abbrev pub IfIllFormed : WellFormedError → (Flaw → Type 0) → Type 0
IfIllFormed (NotRead error) Is = ⊤
IfIllFormed (IllFormed path location broken) Is = Is (told_flaw broken)

-- memory was refused
abbrev pub IsMemoryRefused : WellFormedError → Type 0
IsMemoryRefused (NotRead error) = IsMemory error
IsMemoryRefused (IllFormed path location broken) = ⊥
