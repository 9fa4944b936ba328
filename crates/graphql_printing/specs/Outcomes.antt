-- How a run ends, and what is so then. `left` is what the reader had left, `old` and `new` what the writer held before and after, where those are known.
use Rattle.std.specs.Prelude.{◌≡◌, ℕ, Bool, false, true, List, Option}
use Rattle.clap.specs.declared.error.kind.ErrorKind.{ErrorKind}
use Rattle.clap.specs.declared.error.kind.ErrorKind.TheVariants.{DisplayHelp, DisplayVersion, OutOfMemory}
use Rattle.graphql_ast.specs.Documents.{document_kind}
use Rattle.graphql_ast.specs.Levels.{Overflows}
use Rattle.graphql_ast_json.specs.kinds.DocumentJson.{IsDocument}
use Rattle.graphql_ast_calls.specs.Answers.{IsJsonOfNone, IsNoJson}
use Rattle.graphql_text.specs.declared.engine.PrintError.{PrintError}
use Rattle.graphql_text.specs.declared.engine.PrintError.TheVariants as error
use Rattle.graphql_printing.specs.Printing.{Does}
use Rattle.graphql_printing.specs.Reading.{IsAllOf, Passes, Reads}
use Rattle.graphql_printing.specs.declared.options.Options.{Options}
use Rattle.graphql_printing.specs.declared.options.Task.TheVariants.{Check, Print}
use Rattle.graphql_printing.specs.declared.outcome.Outcome.{Outcome}
use Rattle.graphql_printing.specs.declared.outcome.Outcome.TheVariants.{Done, IllFormed, LevelOverflow, NotRead, NotJson, NoTree, Memory, WriterFailed}

-- the exit status of a run that ends so
abbrev pub status_of : Outcome → ℕ
status_of Done = 0
status_of IllFormed = 1
status_of LevelOverflow = 2
status_of NotRead = 3
status_of NotJson = 3
status_of NoTree = 3
status_of Memory = 4
status_of WriterFailed = 4

-- the exit status of words that ask for nothing, by what is said of them, and whether that could be written
abbrev pub status_of_words : ErrorKind → Bool → ℕ
status_of_words DisplayHelp true = 0
status_of_words DisplayVersion true = 0
status_of_words DisplayHelp false = 4
status_of_words DisplayVersion false = 4
status_of_words OutOfMemory _ = 4
status_of_words _ _ = 2

-- how a run ends whose document was not written
abbrev pub outcome_of_error : PrintError → Outcome
outcome_of_error error.LevelOverflow = LevelOverflow
outcome_of_error error.Memory = Memory
outcome_of_error error.Sink = WriterFailed

-- What a run ends with: where it did not do what was asked for, it wrote nothing, unless the writer failed. That comes of a document that passes
-- alone, and where something is to be written.
abbrev pub EndsWith : Options → Option (List ℕ) → Option (List ℕ) → Option (List ℕ) → Outcome → Type 0
EndsWith options left old new Done =
    (tree : document_kind.Tree) × Reads options left tree × Passes options tree × Does options.task options old new tree
EndsWith options left old new IllFormed =
    (tree : document_kind.Tree) × Reads options left tree × ¬ Passes options tree × (new ≡ old)
EndsWith options left old new LevelOverflow =
    (tree : document_kind.Tree)
    × Reads options left tree
    × Passes options tree
    × (options.task ≡ Print)
    × Overflows options.level (document_kind.nesting tree)
    × (new ≡ old)
EndsWith options left old new NotRead = new ≡ old
EndsWith options left old new NotJson = (bytes : List ℕ) × IsAllOf left bytes × IsNoJson bytes × (new ≡ old)
EndsWith options left old new NoTree =
    (bytes : List ℕ) × IsAllOf left bytes × IsJsonOfNone (IsDocument options.unknown) bytes × (new ≡ old)
EndsWith options left old new Memory = new ≡ old
EndsWith options left old new WriterFailed =
    (tree : document_kind.Tree) × Reads options left tree × Passes options tree × ¬ (options.task ≡ Check)
