-- Of Refusals and Outcomes: how a run ends that reads no document.
use Rattle.std.proofs.Common.{ℕ, List, Option, refl}
use Rattle.serde_json.specs.Data.{Data}
use Rattle.graphql_ast.specs.Documents.{document_kind}
use Rattle.graphql_ast_json.specs.kinds.DocumentJson.{IsDocument}
use Rattle.graphql_ast_calls.specs.Answers.{IsJsonOfNone, IsNoJson}
use Rattle.graphql_printing.specs.Outcomes.{EndsWith}
use Rattle.graphql_printing.specs.Reading.{IsAllOf, IsDocumentOf, Passes}
use Rattle.graphql_printing.specs.Refusals.{IsIllFormedOrMemory, IsNotJsonOrMemory, IsDataRefusal, IsNotReadOrMemory, IsNoTreeOrMemory}
use Rattle.graphql_printing.specs.Refusals.{IsReadRefusal, IsRefusal, IsTreeRefusal, outcome_of}
use Rattle.graphql_printing.specs.declared.options.Options.{Options}
use Rattle.graphql_printing.specs.declared.refusal.Refusal.{Refusal}
use Rattle.graphql_printing.specs.declared.refusal.Refusal.TheVariants as refusal

pub no_json : (bytes : List ℕ) (told : Refusal) → IsNotJsonOrMemory told → IsNoJson bytes → IsDataRefusal bytes told
no_json bytes (refusal.NotJson message) is none = none
no_json bytes refusal.Memory is none = tt
no_json bytes (refusal.NotRead error) is none = absurd is
no_json bytes (refusal.NoTree message) is none = absurd is
no_json bytes (refusal.IllFormed messages) is none = absurd is

pub of_data : (options : Options) (bytes : List ℕ) (told : Refusal) → IsDataRefusal bytes told → IsRefusal options bytes told
of_data options bytes (refusal.NotJson message) is = is
of_data options bytes refusal.Memory is = tt
of_data options bytes (refusal.NotRead error) is = absurd is
of_data options bytes (refusal.NoTree message) is = absurd is
of_data options bytes (refusal.IllFormed messages) is = absurd is

pub no_tree : {Tree : Type 0} (Is : Tree → Data → Type 0) (bytes : List ℕ) (told : Refusal) → IsNoTreeOrMemory told →
    IsJsonOfNone Is bytes → IsTreeRefusal Is bytes told
no_tree Is bytes (refusal.NoTree message) is none = none
no_tree Is bytes refusal.Memory is none = tt
no_tree Is bytes (refusal.NotRead error) is none = absurd is
no_tree Is bytes (refusal.NotJson message) is none = absurd is
no_tree Is bytes (refusal.IllFormed messages) is none = absurd is

pub of_tree : (options : Options) (bytes : List ℕ) (told : Refusal) → IsTreeRefusal (IsDocument options.unknown) bytes told → IsRefusal options bytes told
of_tree options bytes (refusal.NoTree message) is = is
of_tree options bytes refusal.Memory is = tt
of_tree options bytes (refusal.NotRead error) is = absurd is
of_tree options bytes (refusal.NotJson message) is = absurd is
of_tree options bytes (refusal.IllFormed messages) is = absurd is

pub ill_formed : (options : Options) (bytes : List ℕ) (told : Refusal) → IsIllFormedOrMemory told →
    (tree : document_kind.Tree) → IsDocumentOf options.unknown bytes tree → ¬ Passes options tree → IsRefusal options bytes told
ill_formed options bytes (refusal.IllFormed messages) is tree of breaks = (tree, of, breaks)
ill_formed options bytes refusal.Memory is tree of breaks = tt
ill_formed options bytes (refusal.NotRead error) is tree of breaks = absurd is
ill_formed options bytes (refusal.NotJson message) is tree of breaks = absurd is
ill_formed options bytes (refusal.NoTree message) is tree of breaks = absurd is

pub not_read : (options : Options) (left : Option (List ℕ)) (told : Refusal) → IsNotReadOrMemory told →
    IsReadRefusal options left told
not_read options left (refusal.NotRead error) is = tt
not_read options left refusal.Memory is = tt
not_read options left (refusal.NotJson message) is = absurd is
not_read options left (refusal.NoTree message) is = absurd is
not_read options left (refusal.IllFormed messages) is = absurd is

pub of_all : (options : Options) (left : Option (List ℕ)) (told : Refusal) (bytes : List ℕ) → IsAllOf left bytes →
    IsRefusal options bytes told → IsReadRefusal options left told
of_all options left (refusal.NotRead error) bytes all is = tt
of_all options left (refusal.NotJson message) bytes all is = (bytes, all, is)
of_all options left (refusal.NoTree message) bytes all is = (bytes, all, is)
of_all options left (refusal.IllFormed messages) bytes all is = (bytes, all, is)
of_all options left refusal.Memory bytes all is = tt

pub ends : (options : Options) (left held : Option (List ℕ)) (told : Refusal) → IsReadRefusal options left told →
    EndsWith options left held held (outcome_of told)
ends options left held (refusal.NotRead error) is = refl
ends options left held (refusal.NotJson message) (bytes, all, is) = (bytes, all, is, refl)
ends options left held (refusal.NoTree message) (bytes, all, is) = (bytes, all, is, refl)
ends options left held (refusal.IllFormed messages) (bytes, all, (tree, of, breaks)) =
    (tree, record { bytes = bytes; all = all; is = of }, breaks, refl)
ends options left held refusal.Memory is = refl
