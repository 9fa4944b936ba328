use Rattle.std.proofs.Common.{[], ◌∷◌, None, codes, false, inl, refl, true}
use Rattle.graphql_text.specs.grammar.Forms.{◌⨟◌, either, no_tokens, only_if}
use Rattle.graphql_text.proofs.parts.Parts.{begins_none}
use Rattle.graphql_text.proofs.reader.ReaderSound.{lex_sound}
use Rattle.graphql_values.specs.examples.ValueExamples.{named}
use Rattle.graphql_executable.specs.examples.ExecutableExamples.{description, set_of_a}
use Rattle.graphql_executable.specs.kinds.OperationDefinitions.{operation_form}
use Rattle.graphql_executable.specs.lemmas.Selections.{selection_set_part}
use Rattle.graphql_type_system.specs.lemmas.Kinds.{scalar_type_definition_part}
use Rattle.graphql_ast.specs.examples.DocumentExamples.{query_described, scalar_named, type_a, type_and_query}
use Rattle.graphql_ast.proofs.examples.DocumentReadings.{document_reads, printed}
use Rattle.graphql_ast.proofs.laws.readings.worked_readings.Goals as goal

pub returns-clause-document : goal.returns-clause-document
unfolding printed
returns-clause-document c = document_reads false (codes "type A query { a }") (type_and_query None) refl refl refl

pub returns-clause-document_over_lines : goal.returns-clause-document_over_lines
unfolding printed
returns-clause-document_over_lines c = document_reads false (codes "type A #\n\nquery{\n  a\n},\n") (type_and_query None) refl refl refl

pub returns-clause-described_document : goal.returns-clause-described_document
unfolding printed
returns-clause-described_document c = document_reads false (codes "type A \"D\" query { a }") (type_and_query (description (codes "D") refl)) refl refl refl

pub returns-clause-shorthand : goal.returns-clause-shorthand
unfolding printed
returns-clause-shorthand c = document_reads true (codes "{ a } type A") (query_described None ∷ type_a ∷ []) refl refl refl

-- the shorthand is printed only at the front
pub returns-clause-shorthand_behind : goal.returns-clause-shorthand_behind
unfolding printed no_tokens ◌⨟◌ operation_form either only_if
returns-clause-shorthand_behind c =
    let set = selection_set_part.tokens set_of_a [] in
    let scalar = scalar_named (named (codes "A") refl) in
    let tokens = scalar_type_definition_part.tokens scalar.tree set in (
      refl,
      tokens,
      lex_sound (codes "scalar A { a }") tokens refl,
      (
        set,
        scalar_type_definition_part.written scalar.tree refl set (begins_none set),
        ([], inl (refl, selection_set_part.written set_of_a refl [] refl), refl),
      ),
    )
