-- Why a run reads no document.
use Rattle.std.specs.Prelude.{ℕ, List, Option, ⊤}
use Rattle.graphql_ast.specs.Documents.{document_kind}
use Rattle.serde_json.specs.Data.{Data}
use Rattle.graphql_ast_json.specs.kinds.DocumentJson.{IsDocument}
use Rattle.graphql_ast_calls.specs.Answers.{IsJsonOfNone, IsNoJson}
use Rattle.graphql_printing.specs.Reading.{IsAllOf, IsDocumentOf, Passes}
use Rattle.graphql_printing.specs.declared.options.Options.{Options}
use Rattle.graphql_printing.specs.declared.outcome.Outcome.{Outcome}
use Rattle.graphql_printing.specs.declared.outcome.Outcome.TheVariants as outcome
use Rattle.graphql_printing.specs.declared.refusal.Refusal.{Refusal}
use Rattle.graphql_printing.specs.declared.refusal.Refusal.TheVariants as refusal

abbrev pub IsNotReadOrMemory : Refusal → Type 0
IsNotReadOrMemory (refusal.NotRead _) = ⊤
IsNotReadOrMemory refusal.Memory = ⊤
IsNotReadOrMemory _ = ⊥

abbrev pub IsNotJsonOrMemory : Refusal → Type 0
IsNotJsonOrMemory (refusal.NotJson _) = ⊤
IsNotJsonOrMemory refusal.Memory = ⊤
IsNotJsonOrMemory _ = ⊥

abbrev pub IsNoTreeOrMemory : Refusal → Type 0
IsNoTreeOrMemory (refusal.NoTree _) = ⊤
IsNoTreeOrMemory refusal.Memory = ⊤
IsNoTreeOrMemory _ = ⊥

abbrev pub IsIllFormedOrMemory : Refusal → Type 0
IsIllFormedOrMemory (refusal.IllFormed _) = ⊤
IsIllFormedOrMemory refusal.Memory = ⊤
IsIllFormedOrMemory _ = ⊥

-- The refusal is right of these bytes, where it says nothing of trees.
abbrev pub IsDataRefusal : List ℕ → Refusal → Type 0
IsDataRefusal bytes (refusal.NotJson _) = IsNoJson bytes
IsDataRefusal bytes refusal.Memory = ⊤
IsDataRefusal bytes _ = ⊥

-- It is right, where it says nothing of side conditions.
abbrev pub IsTreeRefusal : {Tree : Type 0} → (Tree → Data → Type 0) → List ℕ → Refusal → Type 0
IsTreeRefusal Is bytes (refusal.NoTree _) = IsJsonOfNone Is bytes
IsTreeRefusal Is bytes refusal.Memory = ⊤
IsTreeRefusal Is bytes _ = ⊥

-- It is right of them: of no JSON, of JSON of no document, or of JSON of one that isn't well formed, where those aren't taken too.
abbrev pub IsRefusal : Options → List ℕ → Refusal → Type 0
IsRefusal options bytes (refusal.NotRead _) = ⊥
IsRefusal options bytes (refusal.NotJson _) = IsNoJson bytes
IsRefusal options bytes (refusal.NoTree _) = IsJsonOfNone (IsDocument options.unknown) bytes
IsRefusal options bytes (refusal.IllFormed _) =
    (tree : document_kind.Tree) × IsDocumentOf options.unknown bytes tree × ¬ Passes options tree
IsRefusal options bytes refusal.Memory = ⊤

-- It is right of all that a reader had left, unless the reader failed or memory was refused.
abbrev pub IsReadRefusal : Options → Option (List ℕ) → Refusal → Type 0
IsReadRefusal options left (refusal.NotRead _) = ⊤
IsReadRefusal options left refusal.Memory = ⊤
IsReadRefusal options left told = (bytes : List ℕ) × IsAllOf left bytes × IsRefusal options bytes told

-- how a run ends that reads no document
abbrev pub outcome_of : Refusal → Outcome
outcome_of (refusal.NotRead _) = outcome.NotRead
outcome_of (refusal.NotJson _) = outcome.NotJson
outcome_of (refusal.NoTree _) = outcome.NoTree
outcome_of (refusal.IllFormed _) = outcome.IllFormed
outcome_of refusal.Memory = outcome.Memory
