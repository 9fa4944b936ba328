-- What definitions and documents are printed as and what their readers find, by computing.
use Rattle.std.proofs.Common.{◌≡◌, ℕ, Bool, true, List, [], IsTrue, Option, Some, refl}
use Rattle.std.specs.Str.{all_scalars}
use Rattle.graphql_text.specs.lexical.Tokens.{Token}
use Rattle.graphql_text.specs.kinds.Reading.{ReadsAs}
use Rattle.graphql_text.proofs.reader.TokenReader.{lex}
use Rattle.graphql_text.proofs.reader.ReaderSound.{lex_sound}
use Rattle.graphql_executable.proofs.examples.ExecutableReadings as executable
use Rattle.graphql_executable.specs.lemmas.Definitions as operations
use Rattle.graphql_type_system.proofs.examples.TypeSystemReadings as types
use Rattle.graphql_ast.specs.Definitions.{DefinitionTree}
use Rattle.graphql_ast.specs.Documents.{document_kind}
use Rattle.graphql_ast.specs.lemmas.Definitions as definitions
use Rattle.graphql_ast.specs.lemmas.Documents as documents

-- the tokens of a document as it is printed
unfoldable pub printed : Bool → List DefinitionTree → List Token
unfolding executable.printed types.printed operations.operation_tokens definitions.as_definition definitions.alike
    definitions.described_definition definitions.extension_definition definitions.operation_as_definition definitions.definition_parts
    definitions.definition_part definitions.first_definition_tokens documents.document_tokens
printed front document = documents.document_tokens front document []

-- what its reader finds
unfoldable pub found : List Token → Option (List DefinitionTree × List Token)
unfolding executable.found types.found definitions.named_by definitions.definition_words definitions.extension_words
    definitions.extension_at definitions.definition_at definitions.behind_description definitions.chosen_definition
    definitions.as_definition definitions.alike definitions.described_definition definitions.extension_definition
    definitions.operation_as_definition definitions.definition_parts definitions.chosen_reader definitions.definition_reader
    definitions.definition_part documents.document_reader
found tokens = documents.document_reader tokens

-- a text that lexes to the tokens of a document as it is printed
pub document_reads : (front : Bool) (text : List ℕ) (document : List DefinitionTree) → IsTrue (document_kind.obeys document) →
    all_scalars text ≡ true → lex text ≡ Some (documents.document_tokens front document []) →
    ReadsAs document_kind.form text document
document_reads front text document holds source lexes = (
  source,
  documents.document_tokens front document [],
  lex_sound text (documents.document_tokens front document []) lexes,
  documents.document_written front document holds [] refl,
)
