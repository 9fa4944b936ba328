-- The statuses by their numbers in C.
use Rattle.std.specs.Prelude.{ℕ, ◌==◌, if◌then◌else◌}
use Rattle.graphql_ast_calls.specs.declared.status.Status.{Status}
use Rattle.graphql_ast_calls.specs.declared.status.Status.TheVariants.{Done, TooShort, NotJson, NoTree, IllFormed, LevelOverflow, OutOfMemory, WrongPrefix}

abbrev pub status_code : Status → ℕ
status_code Done = 0
status_code TooShort = 1
status_code NotJson = 2
status_code NoTree = 3
status_code IllFormed = 4
status_code LevelOverflow = 5
status_code OutOfMemory = 6
status_code WrongPrefix = 7

-- the status of a number; of a number above all of them it doesn't matter which
abbrev pub status_of : ℕ → Status
status_of n =
    if n == 0 then Done
    else if n == 1 then TooShort
    else if n == 2 then NotJson
    else if n == 3 then NoTree
    else if n == 4 then IllFormed
    else if n == 5 then LevelOverflow
    else if n == 6 then OutOfMemory
    else WrongPrefix
