-- Lemmas, no definitions of the product: arguments and directives as parts, and their laws.
use Rattle.std.proofs.Common.{refl, List, [], ◌∷◌, true, false}
use Rattle.graphql_text.specs.lexical.Tokens.{colon, lparen, at}
use Rattle.graphql_text.specs.grammar.Forms.{TokenClass, a_punctuator, a_name}
use Rattle.graphql_text.specs.kinds.Reading.{Laws}
use Rattle.graphql_text.proofs.parts.KindParts.{part_laws}
use Rattle.graphql_text.proofs.grammar.FormParsers.{parse_each, each_reads}
use Rattle.graphql_text.proofs.parts.Parts.{Part, name_then, mark_then, space_then, unbroken, flat_part, retold}
use Rattle.graphql_text.proofs.parts.PartTokens.{list_tokens}
use Rattle.graphql_text.proofs.parts.RowParts.{flat_parentheses_part, list_written, list_obeyed}
use Rattle.graphql_text.proofs.parts.ToldShapes.{Told, told_nothing, told_then, told_space}
use Rattle.graphql_values.specs.kinds.Arguments.{argument_form, argument_items, argument_shape, argument_nesting, argument_obeys}
use Rattle.graphql_values.specs.kinds.Arguments.{arguments_form, arguments_shape, arguments_nesting, arguments_obey, argument_kind}
use Rattle.graphql_values.specs.kinds.Directives.{DirectiveTree, directive_form, directive_shape, directive_nesting, directive_obeys}
use Rattle.graphql_values.specs.kinds.Directives.{directive_kind, directives_form, directives_shape, directives_nesting, directives_obey}
use Rattle.graphql_values.specs.kinds.Directives.{directives_kind}
use Rattle.graphql_values.specs.kinds.Values.{Constness, NonConst}
use Rattle.graphql_values.specs.lemmas.Values.{value_part}
use Rattle.graphql_values.specs.lemmas.FlawsTold.{argument_tells, directive_tells, directives_tell}

-- the items of Argument, section 2.6
unfoldable pub argument_items_part : (c : Constness) →
    Part (argument_form c) (λ broken. argument_items) argument_nesting (argument_obeys c) [] (a_name [] ∷ []) false [] false
argument_items_part c = retold (λ x. record { name = x.0; value = x.1 }) (λ argument. (argument.name, argument.value)) (λ argument. refl)
    (name_then [] (mark_then colon refl (space_then (unbroken (value_part c)))))

-- Argument, section 2.6
unfoldable pub argument_part : (c : Constness) →
    Part (argument_form c) (λ broken. argument_shape) argument_nesting (argument_obeys c) [] (a_name [] ∷ []) false [] false
argument_part c = flat_part (argument_items_part c)

pub argument_laws : Laws argument_kind
argument_laws = part_laws (argument_part NonConst) (λ broken front argument. refl) (argument_tells NonConst)

-- Arguments, section 2.6
unfoldable pub arguments_part : (c : Constness) →
    Part (arguments_form c) (λ broken. arguments_shape) arguments_nesting (arguments_obey c) (a_punctuator lparen ∷ [])
    (a_punctuator lparen ∷ []) true [] true
arguments_part c = flat_parentheses_part (argument_items_part c) refl

-- Directive, section 2.12
unfoldable pub directive_part : (c : Constness) →
    Part (directive_form c) (λ broken. directive_shape) directive_nesting (directive_obeys c) (a_punctuator lparen ∷ [])
    (a_punctuator at ∷ []) false [] true
unfolding directive_form directive_shape
directive_part c = retold (λ x. record { name = x.0; arguments = x.1 }) (λ directive. (directive.name, directive.arguments)) (λ directive. refl)
    (mark_then at refl (name_then [] (arguments_part c)))

pub directive_laws : Laws directive_kind
directive_laws = part_laws (directive_part NonConst) (λ broken front directive. refl) (directive_tells NonConst)

abbrev pub excluded_after_directives : List TokenClass
excluded_after_directives = a_punctuator at ∷ a_punctuator lparen ∷ []

pub directives_told : (c : Constness) (directives : List DirectiveTree) →
    let p = directive_part c in
    Told 0 (directives_shape directives) (list_tokens (p.tokens) directives) true (directives_nesting directives)
directives_told c [] = told_nothing
directives_told c (directive ∷ more) = let p = directive_part c in told_space (told_then (p.told false directive) (directives_told c more))

-- Directives, section 2.12
unfoldable pub directives_part : (c : Constness) →
    Part (directives_form c) (λ broken. directives_shape) directives_nesting (directives_obey c) excluded_after_directives
    (a_punctuator at ∷ []) true [] true
directives_part c = let p = directive_part c in record {
  tokens = list_tokens (p.tokens);
  parser = parse_each (a_punctuator at ∷ []) (p.parser);
  told = λ broken. directives_told c;
  read = λ k. each_reads (p.parser) (directive_form c) excluded_after_directives (p.read k) refl refl;
  written = λ directives holds rest stops. list_written p directives holds rest;
  obeyed = list_obeyed p;
}

pub directives_laws : Laws directives_kind
directives_laws = part_laws (directives_part NonConst) (λ broken front directives. refl) (directives_tell NonConst)
