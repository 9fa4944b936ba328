use Rattle.std.proofs.Common.{[], ◌∷◌, codes, inl, inr, refl}
use Rattle.graphql_text.specs.grammar.Forms.{◌⨟◌, either, name_except, no_tokens, no_brace, only_if, optional_token, token}
use Rattle.graphql_text.specs.lexical.Tokens.{rbrace, Punctuation}
use Rattle.graphql_text.proofs.parts.Parts.{begins_none}
use Rattle.graphql_text.proofs.examples.TextReadings.{parts_read}
use Rattle.graphql_text.proofs.reader.ReaderSound.{lex_sound}
use Rattle.graphql_executable.proofs.examples.ExecutableReadings as executable
use Rattle.graphql_executable.specs.examples.ExecutableExamples.{set_of_a}
use Rattle.graphql_executable.specs.kinds.OperationDefinitions.{operation_form}
use Rattle.graphql_executable.specs.lemmas.Selections.{selection_part, selection_set_part}
use Rattle.graphql_type_system.specs.lemmas.Bodies.{field_definition_part}
use Rattle.graphql_type_system.specs.lemmas.Kinds.{union_type_definition_part}
use Rattle.graphql_ast.specs.examples.DocumentExamples.{field_a, set_of_alias, union_u}
use Rattle.graphql_ast.specs.lemmas.Definitions.{definition_part}
use Rattle.graphql_ast.proofs.examples.DocumentReadings.{printed}
use Rattle.graphql_ast.proofs.laws.edges.edge_readings.Goals as goal

-- no layout prints a shorthand but at the front
pub returns-clause-shorthand_behind_union : goal.returns-clause-shorthand_behind_union
unfolding printed no_tokens ◌⨟◌ operation_form either only_if
returns-clause-shorthand_behind_union c =
    let set = selection_set_part.tokens set_of_a [] in
    let tokens = union_type_definition_part.tokens union_u.tree set in (
      refl,
      tokens,
      lex_sound (codes "union U { a }") tokens refl,
      (
        set,
        union_type_definition_part.written union_u.tree refl set (begins_none set),
        ([], inl (refl, selection_set_part.written set_of_a refl [] refl), refl),
      ),
    )

pub returns-clause-shorthand_behind_fields : goal.returns-clause-shorthand_behind_fields
unfolding printed token no_tokens name_except ◌⨟◌ operation_form either only_if
returns-clause-shorthand_behind_fields c =
    let set = selection_set_part.tokens set_of_alias [] in
    let behind = Punctuation rbrace ∷ set in
    let field = field_definition_part.written field_a refl behind refl in (
      refl,
      _,
      lex_sound (codes "type A { a: b } { a: b }") _ refl,
      (
        set,
        (_, refl, (_, refl, (_, (refl, refl), (_, refl, (_, refl, (_, refl, (_, field, (_, refl, refl)))))))),
        ([], inl (refl, selection_set_part.written set_of_alias refl [] refl), refl),
      ),
    )

pub returns-clause-shorthand_behind_shorthand : goal.returns-clause-shorthand_behind_shorthand
unfolding printed no_tokens ◌⨟◌ operation_form either only_if
returns-clause-shorthand_behind_shorthand c =
    let set = selection_set_part.tokens set_of_a [] in
    let tokens = selection_set_part.tokens set_of_a set in (
      refl,
      tokens,
      lex_sound (codes "{a}{a}") tokens refl,
      (
        set,
        inl (refl, selection_set_part.written set_of_a refl set (begins_none set)),
        ([], inl (refl, selection_set_part.written set_of_a refl [] refl), refl),
      ),
    )

-- what stands before the first name is printed of no tree
pub returns-clause-leading_ampersand : goal.returns-clause-leading_ampersand
unfolding ◌⨟◌ token no_tokens no_brace optional_token name_except
returns-clause-leading_ampersand c = (
  refl,
  _,
  lex_sound (codes "type A implements & B & C") _ refl,
  (
    [],
    (
      _,
      refl,
      (
        _,
        refl,
        (
          _,
          (refl, refl),
          (_, (_, refl, (_, inr refl, (_, (refl, refl), (_, (_, refl, (refl, refl)), refl)))), (_, refl, (refl, refl))),
        ),
      ),
    ),
    refl,
  ),
)

pub returns-clause-leading_bar : goal.returns-clause-leading_bar
unfolding ◌⨟◌ token no_tokens optional_token name_except only_if
returns-clause-leading_bar c = (
  refl,
  _,
  lex_sound (codes "extend union U = | A") _ refl,
  (refl, (_, refl, (_, refl, (_, (refl, refl), (_, refl, (_, refl, (_, inr refl, (_, (refl, refl), refl)))))))),
)

pub returns-clause-leading_bar_of_locations : goal.returns-clause-leading_bar_of_locations
unfolding ◌⨟◌ token no_tokens optional_token name_except
returns-clause-leading_bar_of_locations c = (
  refl,
  _,
  lex_sound (codes "directive @d on | FIELD") _ refl,
  (_, refl, (_, refl, (_, refl, (_, (refl, refl), (_, refl, (_, refl, (_, refl, (_, inr refl, (_, refl, refl))))))))),
)

pub returns-clause-definitions : goal.returns-clause-definitions
unfolding printed
returns-clause-definitions c = parts_read definition_part _ refl

pub returns-clause-selections : goal.returns-clause-selections
unfolding executable.printed
returns-clause-selections c = parts_read selection_part _ refl
