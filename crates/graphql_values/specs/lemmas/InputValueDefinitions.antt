-- Lemmas, no definitions of the product: default values, definitions of input values and arguments definitions as parts, and their laws.
use Rattle.std.proofs.Common.{◌≡◌, Bool, true, false, List, [], ◌∷◌, refl}
use Rattle.graphql_text.specs.lexical.Tokens.{bang, colon, equals, lparen}
use Rattle.graphql_text.specs.grammar.Forms.{TokenClass, a_punctuator, a_name, a_string_value}
use Rattle.graphql_text.specs.layout.Layout.{lowers, raises}
use Rattle.graphql_text.specs.kinds.Reading.{Laws}
use Rattle.graphql_text.proofs.parts.KindParts.{described_part, part_laws}
use Rattle.graphql_text.proofs.parts.Parts.{Part, KindPart, name_then, mark_then, space_then, part_then, part_balanced, plain_then, optional_part, retold}
use Rattle.graphql_text.proofs.parts.RowParts.{parentheses_part}
use Rattle.graphql_values.specs.kinds.ArgumentsDefinitions.{arguments_definition_form, arguments_definition_shape}
use Rattle.graphql_values.specs.kinds.ArgumentsDefinitions.{arguments_definition_nesting, arguments_definition_obeys, wants_lines}
use Rattle.graphql_values.specs.kinds.DefaultValues.{default_value_form, default_value_shape, default_value_nesting, default_value_obeys}
use Rattle.graphql_values.specs.kinds.InputValueDefinitions.{input_value_definition_body, input_value_definition_kind}
use Rattle.graphql_values.specs.kinds.Values.{Const}
use Rattle.graphql_values.specs.lemmas.Directives.{excluded_after_directives, directives_part}
use Rattle.graphql_values.specs.lemmas.Types.{type_part}
use Rattle.graphql_values.specs.lemmas.Values.{value_part}
use Rattle.graphql_values.specs.lemmas.FlawsTold.{input_value_definition_tells}

-- DefaultValue, section 2.10
unfoldable pub default_value_part : Part default_value_form default_value_shape default_value_nesting default_value_obeys
    (a_punctuator equals ∷ []) (a_punctuator equals ∷ []) true [] true
default_value_part = optional_part (space_then (mark_then equals refl (space_then (value_part Const)))) refl

abbrev pub excluded_after_input_value_definition : List TokenClass
excluded_after_input_value_definition = a_punctuator bang ∷ a_punctuator equals ∷ excluded_after_directives

-- InputValueDefinition, section 3.6.1, behind its description
unfoldable pub input_value_definition_body_part : KindPart input_value_definition_body excluded_after_input_value_definition (a_name [] ∷ []) false [] false
input_value_definition_body_part = retold
    (λ x. record { name = x.0; type = x.1.0; default_value = x.1.1.0; directives = x.1.1.1 })
    (λ input. (input.name, (input.type, (input.default_value, input.directives)))) (λ input. refl)
    (name_then [] (mark_then colon refl (space_then (plain_then type_part (part_then default_value_part (directives_part Const) refl) refl))))

-- InputValueDefinition, section 3.6.1
unfoldable pub input_value_definition_part :
    KindPart input_value_definition_kind excluded_after_input_value_definition (a_string_value ∷ a_name [] ∷ []) false [] false
input_value_definition_part = described_part input_value_definition_body input_value_definition_body_part refl

pub input_value_definition_laws : Laws input_value_definition_kind
input_value_definition_laws = part_laws input_value_definition_part (λ broken front input. refl) input_value_definition_tells

-- what is written of a definition raises the level as often as it lowers it
pub input_value_definition_balanced : (broken : Bool) (input : input_value_definition_kind.Tree) →
    raises (input_value_definition_kind.shape broken false input) ≡ lowers (input_value_definition_kind.shape broken false input)
input_value_definition_balanced = part_balanced input_value_definition_part

-- ArgumentsDefinition, section 3.6.1
unfoldable pub arguments_definition_part :
    Part arguments_definition_form arguments_definition_shape arguments_definition_nesting arguments_definition_obeys
    (a_punctuator lparen ∷ []) (a_punctuator lparen ∷ []) true [] true
arguments_definition_part = parentheses_part wants_lines input_value_definition_part refl
