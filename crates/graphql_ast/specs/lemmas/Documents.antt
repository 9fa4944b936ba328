-- Lemmas, no definitions of the product: definitions in a row, and the laws of documents.
use Rattle.std.proofs.Common.{ℕ, refl, ◌≡◌, Bool, true, false, List, [], ◌∷◌, IsTrue, None}
use Rattle.std.proofs.Math.Dec.{eqb-suc-zero}
use Rattle.std.specs.List.{list_all, flat_map}
use Rattle.graphql_text.specs.grammar.Forms.{no_tokens, never, ◌⨟◌, list_of, begins}
use Rattle.graphql_text.specs.parts.Greatest.{greatest}
use Rattle.graphql_text.specs.parts.Members.{has_some}
use Rattle.graphql_text.specs.kinds.Reading.{Laws}
use Rattle.graphql_text.specs.lexical.Tokens.{Token}
use Rattle.graphql_text.proofs.layout.BracketsByParts.{WholeBracketed, bracketed_nothing, whole, whole_blank, whole_finish, whole_then}
use Rattle.graphql_text.proofs.kinds.KindLaws.{laws}
use Rattle.graphql_text.proofs.grammar.FormParsers.{Parser, Reads, parse_some, some_reads, one_reading, also}
use Rattle.graphql_text.proofs.parts.PartTokens.{Tail, list_tokens}
use Rattle.graphql_text.proofs.layout.SpellingByParts.{Spelling, spelt_blank, spelt_finish, spelt_nothing, spelt_then, spelt_weaker}
use Rattle.graphql_text.proofs.general.BooleanTests.{first_holds, second_holds, both_hold, not_of}
use Rattle.graphql_ast.specs.Definitions.{DefinitionTree, definition_kind}
use Rattle.graphql_ast.specs.Documents.{more_definitions_shape, document_shape, document_kind}
use Rattle.graphql_ast.specs.lemmas.Definitions.{excluded_after_definition, definition_first_tokens, a_brace, definition_parts}
use Rattle.graphql_ast.specs.lemmas.Definitions.{definition_part, definition_reader, definition_is_read, first_definition_tokens}
use Rattle.graphql_ast.specs.lemmas.Definitions.{definition_laws, first_definition_told, first_definition_written}
use Rattle.graphql_text.specs.declared.ill_formed.SideCondition.TheVariants.{HasDefinition}
use Rattle.graphql_text.specs.kinds.Flaws.{flaw_unless}
use Rattle.graphql_text.proofs.kinds.FlawsTold.{all_tell, both_tell, unless_tells}

-- DEFINITIONS BEHIND THE FIRST

abbrev pub more_tokens : List DefinitionTree → Tail
more_tokens = list_tokens (definition_part.tokens)

-- none of them begins with a brace
pub more_begin : (more : List DefinitionTree) → IsTrue (list_all definition_kind.obeys more) → (rest : List Token) → begins a_brace rest ≡ false →
    begins a_brace (more_tokens more rest) ≡ false
unfolding definition_part
more_begin [] holds rest stops = stops
more_begin (definition ∷ more) holds rest stops =
    let obeyed = second_holds (definition_kind.obeys definition) (list_all definition_kind.obeys more) holds in
    let first = first_holds (definition_kind.obeys definition) (list_all definition_kind.obeys more) holds in
    (definition_parts definition.name).no_brace definition.tree first (more_tokens more rest) (more_begin more obeyed rest stops)

pub more_spelt : (broken : Bool) (more : List DefinitionTree) → Spelling (more_definitions_shape broken more) (more_tokens more) true
unfolding more_definitions_shape
more_spelt broken [] = spelt_finish spelt_nothing
more_spelt broken (definition ∷ more) = let told = definition_part.told broken definition in spelt_blank (spelt_then told.spelt (more_spelt broken more))

pub more_bracketed : (broken : Bool) (more : List DefinitionTree) → WholeBracketed (more_definitions_shape broken more) (greatest definition_kind.nesting more)
unfolding more_definitions_shape
more_bracketed broken [] = whole_finish
more_bracketed broken (definition ∷ more) =
    let told = definition_part.told broken definition in whole_blank (whole_then told.bracketed (more_bracketed broken more))

pub more_written : (more : List DefinitionTree) → IsTrue (list_all definition_kind.obeys more) → (rest : List Token) → begins a_brace rest ≡ false →
    list_of definition_kind.form more (more_tokens more rest) rest
unfolding no_tokens ◌⨟◌
more_written [] holds rest stops = refl
more_written (definition ∷ more) holds rest stops =
    let obeyed = second_holds (definition_kind.obeys definition) (list_all definition_kind.obeys more) holds in
    let first = first_holds (definition_kind.obeys definition) (list_all definition_kind.obeys more) holds in
    (more_tokens more rest, definition_part.written definition first _ (more_begin more obeyed rest stops), more_written more obeyed rest stops)

pub more_obeyed : (more : List DefinitionTree) (tokens rest : List Token) → list_of definition_kind.form more tokens rest →
    IsTrue (list_all definition_kind.obeys more)
unfolding ◌⨟◌
more_obeyed [] tokens rest d = refl
more_obeyed (definition ∷ more) tokens rest d =
    both_hold (definition_kind.obeys definition) (list_all definition_kind.obeys more) (definition_part.obeyed definition _ _ d.1)
    (more_obeyed more _ _ d.2)

-- DOCUMENTS

unfoldable pub document_tokens : Bool → List DefinitionTree → Tail
document_tokens front [] rest = rest
document_tokens front (definition ∷ more) rest = first_definition_tokens front definition (more_tokens more rest)

unfoldable pub document_reader : Parser (List DefinitionTree)
document_reader = parse_some definition_first_tokens definition_reader

pub document_is_read : (k : ℕ) (definitions : List DefinitionTree) →
    Reads k document_reader definitions (document_kind.form definitions)
    (also definition_first_tokens excluded_after_definition) definition_first_tokens false
unfolding document_reader
document_is_read k = some_reads definition_kind.form (also definition_first_tokens excluded_after_definition) (definition_is_read k) refl refl

pub document_spelt : (broken front : Bool) (definitions : List DefinitionTree) →
    Spelling (document_shape broken front definitions) (document_tokens front definitions) false
unfolding document_shape document_tokens
document_spelt broken front [] = spelt_weaker spelt_nothing
document_spelt broken front (definition ∷ more) = let told = first_definition_told broken front definition in spelt_then told.spelt (more_spelt broken more)

pub document_bracketed : (broken front : Bool) (definitions : List DefinitionTree) →
    WholeBracketed (document_shape broken front definitions) (document_kind.nesting definitions)
unfolding document_shape
document_bracketed broken front [] = whole bracketed_nothing
document_bracketed broken front (definition ∷ more) =
    let told = first_definition_told broken front definition in whole_then told.bracketed (more_bracketed broken more)

pub document_written : (front : Bool) (definitions : List DefinitionTree) → IsTrue (document_kind.obeys definitions) → (rest : List Token) →
    begins a_brace rest ≡ false →
    document_kind.form definitions (document_tokens front definitions rest) rest
unfolding document_tokens ◌⨟◌
document_written front [] holds rest stops = cc
document_written front (definition ∷ more) holds rest stops =
    let all = second_holds (has_some (definition ∷ more)) (list_all definition_kind.obeys (definition ∷ more)) holds in
    let obeyed = second_holds (definition_kind.obeys definition) (list_all definition_kind.obeys more) all in
    let first = first_holds (definition_kind.obeys definition) (list_all definition_kind.obeys more) all in
    (more_tokens more rest, first_definition_written front definition first _ (more_begin more obeyed rest stops), more_written more obeyed rest stops)

pub document_obeyed : (definitions : List DefinitionTree) (tokens : List Token) → document_kind.form definitions tokens [] →
    IsTrue (document_kind.obeys definitions)
unfolding never
document_obeyed [] tokens d = absurd d
document_obeyed (definition ∷ more) tokens d =
    both_hold (has_some (definition ∷ more)) (list_all definition_kind.obeys (definition ∷ more)) (not_of _ (eqb-suc-zero _))
    (more_obeyed (definition ∷ more) tokens [] d)

pub document_laws : Laws document_kind
document_laws = laws {tokens = document_tokens} (record {
  spelt = document_spelt;
  bracketed = document_bracketed;
  written = λ front definitions holds. document_written front definitions holds [] refl;
  once = λ definitions other tokens d e. (one_reading (document_is_read _ definitions) (document_is_read _ other) d e refl refl).0;
  obeyed = document_obeyed;
  tells = λ definitions.
      both_tell (flaw_unless (has_some definitions) HasDefinition None) (flat_map definition_kind.flaws definitions)
      (unless_tells (has_some definitions) HasDefinition None) (all_tell definition_kind.flaws definition_laws.tells definitions);
})
