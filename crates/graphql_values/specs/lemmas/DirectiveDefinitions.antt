-- Lemmas, no definitions of the product: definitions of directives as parts, and their laws.
use Rattle.std.proofs.Common.{ℕ, refl, List, [], ◌∷◌, Bool, true, false, ◌≡◌, Option, Some, None, IsTrue, nat_eq, codes, arith}
use Rattle.std.proofs.Math.Dec.{eqb-suc-zero}
use Rattle.std.specs.Cmp.Lexicographic.{pointwise}
use Rattle.graphql_base.specs.Names.{is_name}
use Rattle.graphql_text.specs.lexical.Tokens.{at, bar, Token, Punctuation, Name}
use Rattle.graphql_text.specs.grammar.Forms.{a_punctuator, a_keyword, a_name, a_string_value, token, no_tokens, never}
use Rattle.graphql_text.specs.parts.Members.{has_some}
use Rattle.graphql_text.specs.kinds.Reading.{Laws}
use Rattle.graphql_text.proofs.parts.KindParts.{described_part, part_laws}
use Rattle.graphql_text.proofs.grammar.FormParsers.{Parser, ◌>>=◌, pure, leaf, alt, Reads, seq, last, leaf_reads, alt_0, alt_empty, wider}
use Rattle.graphql_text.proofs.grammar.FormParsers.{never_reads, accept, mark_reads, word_reads, parse_optional, optional_reads, parse_each}
use Rattle.graphql_text.proofs.grammar.FormParsers.{each_reads}
use Rattle.graphql_text.proofs.parts.Parts.{Part, KindPart, name_then, word_then, mark_then, space_then, part_then, plain_then, restated, retold}
use Rattle.graphql_text.proofs.parts.PartTokens.{Tail, joined_tokens}
use Rattle.graphql_text.proofs.parts.RowParts.{told_joined_names, joined_names_written}
use Rattle.graphql_text.proofs.parts.ToldShapes.{Told, told_nothing, told_word, told_space}
use Rattle.graphql_text.proofs.general.BooleanTests.{not_of}
use Rattle.graphql_values.specs.kinds.DirectiveDefinitions.{repeatable_form, directive_locations_form, repeatable_shape}
use Rattle.graphql_values.specs.kinds.DirectiveDefinitions.{directive_locations_shape, directive_definition_body, directive_definition_kind}
use Rattle.graphql_values.specs.kinds.DirectiveLocations.{DirectiveLocationTree, location_name, location_form}
use Rattle.graphql_values.specs.declared.directive_location.DirectiveLocation.TheVariants.{Query, Mutation, Subscription, Field}
use Rattle.graphql_values.specs.declared.directive_location.DirectiveLocation.TheVariants.{FragmentDefinition, FragmentSpread}
use Rattle.graphql_values.specs.declared.directive_location.DirectiveLocation.TheVariants.{InlineFragment, VariableDefinition, Schema}
use Rattle.graphql_values.specs.declared.directive_location.DirectiveLocation.TheVariants.{Scalar, Object, FieldDefinition}
use Rattle.graphql_values.specs.declared.directive_location.DirectiveLocation.TheVariants.{ArgumentDefinition, Interface, Union, Enum}
use Rattle.graphql_values.specs.declared.directive_location.DirectiveLocation.TheVariants.{EnumValue, InputObject, InputFieldDefinition}
use Rattle.graphql_values.specs.lemmas.InputValueDefinitions.{arguments_definition_part}
use Rattle.graphql_values.specs.lemmas.FlawsTold.{directive_definition_tells}

-- READERS OF LOCATIONS AND OF `repeatable` FIND THEM

unfoldable pub location_of : List DirectiveLocationTree → List ℕ → Option DirectiveLocationTree
location_of [] s = None
location_of (l ∷ more) s = elim (pointwise nat_eq (location_name l) s) [ true ↦ Some l | false ↦ location_of more s ]

unfoldable pub all_locations : List DirectiveLocationTree
all_locations =
    Query ∷ Mutation ∷ Subscription ∷ Field ∷ FragmentDefinition ∷ FragmentSpread ∷ InlineFragment ∷ VariableDefinition
    ∷ Schema ∷ Scalar ∷ Object ∷ FieldDefinition ∷ ArgumentDefinition ∷ Interface ∷ Union ∷ Enum ∷ EnumValue ∷ InputObject ∷ InputFieldDefinition ∷ []

unfoldable pub got_location : Token → Option DirectiveLocationTree
got_location (Name s) = location_of all_locations s
got_location _ = None

unfoldable pub location_reader : Parser DirectiveLocationTree
location_reader = leaf got_location

location_is_found : (l : DirectiveLocationTree) → got_location (Name (location_name l)) ≡ Some l
unfolding got_location location_of all_locations
location_is_found Query = refl
location_is_found Mutation = refl
location_is_found Subscription = refl
location_is_found Field = refl
location_is_found FragmentDefinition = refl
location_is_found FragmentSpread = refl
location_is_found InlineFragment = refl
location_is_found VariableDefinition = refl
location_is_found Schema = refl
location_is_found Scalar = refl
location_is_found Object = refl
location_is_found FieldDefinition = refl
location_is_found ArgumentDefinition = refl
location_is_found Interface = refl
location_is_found Union = refl
location_is_found Enum = refl
location_is_found EnumValue = refl
location_is_found InputObject = refl
location_is_found InputFieldDefinition = refl

pub location_is_read : {k : ℕ} (l : DirectiveLocationTree) → Reads k location_reader l (location_form l) [] (a_name [] ∷ []) false
unfolding location_reader
location_is_read l = leaf_reads _ (Name (location_name l)) (a_name []) (location_is_found l) refl

unfoldable pub repeatable_reader : Parser Bool
repeatable_reader = alt (a_keyword (codes "repeatable") ∷ []) (accept (a_keyword (codes "repeatable")) >>= λ t. pure true) (pure false)

pub repeatable_is_read : {k : ℕ} (b : Bool) →
    Reads k repeatable_reader b (repeatable_form b) (a_keyword (codes "repeatable") ∷ []) (a_keyword (codes "repeatable") ∷ []) true
unfolding repeatable_reader
repeatable_is_read true = wider (alt_0 _ _ (last _ (word_reads (codes "repeatable"))) refl) refl refl (λ z. refl)
repeatable_is_read false = alt_empty _ _ _ _ refl

unfoldable pub directive_locations_reader : Parser (List DirectiveLocationTree)
directive_locations_reader =
    accept (a_keyword (codes "on")) >>= λ t. parse_optional (a_punctuator bar) >>= λ u. location_reader >>= λ l.
    parse_each (a_punctuator bar ∷ []) (accept (a_punctuator bar) >>= λ t. location_reader) >>= λ ls. pure (l ∷ ls)

pub directive_locations_are_read : {k : ℕ} (ls : List DirectiveLocationTree) →
    Reads k directive_locations_reader ls (directive_locations_form ls) (a_punctuator bar ∷ []) (a_keyword (codes "on") ∷ []) false
unfolding directive_locations_reader
directive_locations_are_read [] = never_reads
directive_locations_are_read (l ∷ ls) =
    seq _ (word_reads (codes "on")) (seq _ (optional_reads (a_punctuator bar) (Punctuation bar) refl) (seq _ (location_is_read l)
    (last _ (each_reads _ _ (a_punctuator bar ∷ []) (λ b. seq _ (mark_reads bar) (location_is_read b) refl) refl refl ls)) refl) refl) refl

-- THE PARTS

unfoldable pub repeatable_tokens : Bool → Tail
repeatable_tokens true rest = Name (codes "repeatable") ∷ rest
repeatable_tokens false rest = rest

pub repeatable_told : (b : Bool) → Told 0 (repeatable_shape b) (repeatable_tokens b) true 0
unfolding repeatable_tokens
repeatable_told true = told_space (told_word (codes "repeatable") refl told_nothing)
repeatable_told false = told_nothing

pub repeatable_written : (b : Bool) (rest : List Token) → repeatable_form b (repeatable_tokens b rest) rest
unfolding token no_tokens repeatable_tokens
repeatable_written true rest = refl
repeatable_written false rest = refl

unfoldable pub repeatable_part : Part repeatable_form (λ broken. repeatable_shape) (λ b. 0) (λ b. true)
    (a_keyword (codes "repeatable") ∷ []) (a_keyword (codes "repeatable") ∷ []) true [] true
repeatable_part = record {
  tokens = repeatable_tokens;
  parser = repeatable_reader;
  told = λ broken. repeatable_told;
  read = λ k. repeatable_is_read;
  written = λ b holds rest stops. repeatable_written b rest;
  obeyed = λ b ts rest d. refl;
}

pub location_is_name : (l : DirectiveLocationTree) → is_name (location_name l) ≡ true
location_is_name Query = refl
location_is_name Mutation = refl
location_is_name Subscription = refl
location_is_name Field = refl
location_is_name FragmentDefinition = refl
location_is_name FragmentSpread = refl
location_is_name InlineFragment = refl
location_is_name VariableDefinition = refl
location_is_name Schema = refl
location_is_name Scalar = refl
location_is_name Object = refl
location_is_name FieldDefinition = refl
location_is_name ArgumentDefinition = refl
location_is_name Interface = refl
location_is_name Union = refl
location_is_name Enum = refl
location_is_name EnumValue = refl
location_is_name InputObject = refl
location_is_name InputFieldDefinition = refl

location_written : (l : DirectiveLocationTree) (rest : List Token) → location_form l (Name (location_name l) ∷ rest) rest
unfolding token
location_written l rest = refl

pub locations_written : (ls : List DirectiveLocationTree) → IsTrue (has_some ls) → (rest : List Token) →
    directive_locations_form ls (joined_tokens (Name (codes "on")) bar (λ l after. Name (location_name l) ∷ after) ls rest) rest
locations_written [] holds rest = cc
locations_written (l ∷ ls) holds rest = joined_names_written (Name (codes "on")) bar location_name location_form location_written (l ∷ ls) rest

pub locations_obeyed : (ls : List DirectiveLocationTree) (ts rest : List Token) → directive_locations_form ls ts rest → IsTrue (has_some ls)
unfolding never
locations_obeyed [] ts rest x = absurd x
locations_obeyed (l ∷ ls) ts rest x = not_of _ (eqb-suc-zero _)

-- DirectiveLocations, section 3.13, behind `on`
unfoldable pub directive_locations_part : Part directive_locations_form (λ broken. directive_locations_shape) (λ ls. 0) has_some
    (a_punctuator bar ∷ []) (a_keyword (codes "on") ∷ []) false [] true
directive_locations_part = record {
  tokens = joined_tokens (Name (codes "on")) bar (λ l rest. Name (location_name l) ∷ rest);
  parser = directive_locations_reader;
  told = λ broken. told_joined_names (Name (codes "on")) bar location_name refl location_is_name refl;
  read = λ k. directive_locations_are_read;
  written = λ ls holds rest stops. locations_written ls holds rest;
  obeyed = locations_obeyed;
}

-- DirectiveDefinition, section 3.13, behind its description
unfoldable pub directive_definition_body_part : KindPart directive_definition_body (a_punctuator bar ∷ []) (a_keyword (codes "directive") ∷ []) false [] false
directive_definition_body_part = restated (λ definition. omega arith) (λ definition. refl) (retold
    (λ x. record { name = x.0; arguments = x.1.0; repeatable = x.1.1.0; locations = x.1.1.1 })
    (λ definition. (definition.name, (definition.arguments, (definition.repeatable, definition.locations)))) (λ definition. refl)
    (word_then (codes "directive") refl (space_then (mark_then at refl
    (name_then [] (part_then arguments_definition_part (plain_then repeatable_part directive_locations_part refl) refl))))))

-- DirectiveDefinition, section 3.13
unfoldable pub directive_definition_part :
    KindPart directive_definition_kind (a_punctuator bar ∷ []) (a_string_value ∷ a_keyword (codes "directive") ∷ []) false [] false
directive_definition_part = described_part directive_definition_body directive_definition_body_part refl

pub directive_definition_laws : Laws directive_definition_kind
directive_definition_laws = part_laws directive_definition_part (λ broken front definition. refl) directive_definition_tells
