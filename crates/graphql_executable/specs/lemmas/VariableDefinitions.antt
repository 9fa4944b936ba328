-- Lemmas, no definitions of the product: variable definitions as parts, and their laws.
use Rattle.std.proofs.Common.{true, false, [], ◌∷◌, refl}
use Rattle.graphql_text.specs.lexical.Tokens.{dollar, colon, lparen}
use Rattle.graphql_text.specs.grammar.Forms.{a_punctuator, a_string_value}
use Rattle.graphql_text.specs.kinds.Reading.{Laws}
use Rattle.graphql_text.proofs.parts.KindParts.{described_part, part_laws}
use Rattle.graphql_text.proofs.parts.Parts.{Part, KindPart, name_then, mark_then, space_then, part_then, plain_then, retold}
use Rattle.graphql_text.proofs.parts.RowParts.{parentheses_part}
use Rattle.graphql_values.specs.kinds.Values.{Const}
use Rattle.graphql_values.specs.lemmas.Directives.{directives_part}
use Rattle.graphql_values.specs.lemmas.InputValueDefinitions.{default_value_part, excluded_after_input_value_definition}
use Rattle.graphql_values.specs.lemmas.Types.{type_part}
use Rattle.graphql_executable.specs.kinds.VariableDefinitions.{variable_definition_body, variable_definition_kind}
use Rattle.graphql_executable.specs.kinds.VariableDefinitions.{variable_definitions_form, variable_definitions_shape}
use Rattle.graphql_executable.specs.kinds.VariableDefinitions.{variable_definitions_nesting, variable_definitions_obey, wants_lines}
use Rattle.graphql_executable.specs.lemmas.FlawsTold.{variable_definition_tells}

-- VariableDefinition, section 2.10, behind its description
unfoldable pub variable_definition_body_part : KindPart variable_definition_body excluded_after_input_value_definition (a_punctuator dollar ∷ []) false [] true
variable_definition_body_part = retold
    (λ x. record { name = x.0; type = x.1.0; default_value = x.1.1.0; directives = x.1.1.1 })
    (λ variable. (variable.name, (variable.type, (variable.default_value, variable.directives)))) (λ variable. refl)
    (mark_then dollar refl (name_then []
    (mark_then colon refl (space_then (plain_then type_part (part_then default_value_part (directives_part Const) refl) refl)))))

-- VariableDefinition, section 2.10
unfoldable pub variable_definition_part :
    KindPart variable_definition_kind excluded_after_input_value_definition (a_string_value ∷ a_punctuator dollar ∷ []) false [] false
variable_definition_part = described_part variable_definition_body variable_definition_body_part refl

pub variable_definition_laws : Laws variable_definition_kind
variable_definition_laws = part_laws variable_definition_part (λ broken front variable. refl) variable_definition_tells

-- VariableDefinitions, section 2.10
unfoldable pub variable_definitions_part :
    Part variable_definitions_form variable_definitions_shape variable_definitions_nesting variable_definitions_obey
    (a_punctuator lparen ∷ []) (a_punctuator lparen ∷ []) true [] true
variable_definitions_part = parentheses_part wants_lines variable_definition_part refl
