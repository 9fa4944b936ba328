-- Lemmas, no definitions of the product: operations and fragment definitions as parts, and their laws.
use Rattle.std.proofs.Common.{ℕ, refl, inl, inr, subst, ◌≡◌, ◌&&◌, arith, Bool, true, false, if◌then◌else◌, List, [], ◌∷◌, length, codes}
use Rattle.std.proofs.Common.{Option, Some, None, IsTrue}
use Rattle.std.proofs.Math.Dec.{eqb-suc-zero}
use Rattle.graphql_text.specs.lexical.Literals.{NameText, StringText}
use Rattle.graphql_text.specs.lexical.Tokens.{lbrace, Token}
use Rattle.graphql_text.specs.grammar.Forms.{TokenClass, a_punctuator, a_keyword, a_string_value, only_if, either}
use Rattle.graphql_text.specs.parts.PrintedParts.{KindTokensDeriveBefore}
use Rattle.graphql_text.specs.kinds.Reading.{Laws}
use Rattle.graphql_text.proofs.kinds.KindLaws.{laws_of}
use Rattle.graphql_text.proofs.parts.KindParts.{described_part, part_laws}
use Rattle.graphql_text.proofs.grammar.FormParsers.{Parser, Reads, ◌>>=◌, pure, alt, last, alt_0, alt_1, wider, either_reads, only_if_reads}
use Rattle.graphql_text.proofs.parts.Parts.{KindPart, begins_none, name_part, name_then, word_then, space_then, plain_then, part_then}
use Rattle.graphql_text.proofs.parts.Parts.{plain_optional_part, retold}
use Rattle.graphql_text.proofs.parts.PartTokens.{Tail}
use Rattle.graphql_text.proofs.parts.ToldShapes.{Told, told_as, told_derives, told_weaker}
use Rattle.graphql_text.proofs.general.BooleanTests.{second_holds}
use Rattle.graphql_values.specs.kinds.Directives.{DirectiveTree, directives_obey}
use Rattle.graphql_values.specs.kinds.OperationTypes.{OperationTypeTree, Query, Mutation, Subscription}
use Rattle.graphql_values.specs.kinds.Values.{NonConst}
use Rattle.graphql_values.specs.lemmas.Directives.{directives_part}
use Rattle.graphql_values.specs.lemmas.OperationTypes.{operation_type_part, operation_type_words}
use Rattle.graphql_executable.specs.kinds.FragmentDefinitions.{fragment_definition_body, fragment_definition_kind}
use Rattle.graphql_executable.specs.kinds.FragmentNames.{not_fragment_names}
use Rattle.graphql_executable.specs.kinds.OperationDefinitions.{operation_definition_body, full_operation_kind, is_bare_query}
use Rattle.graphql_executable.specs.kinds.OperationDefinitions.{operation_form, operation_shape, operation_definition_kind}
use Rattle.graphql_executable.specs.kinds.Selections.{SelectionTrees, selection_set_form, selection_set_shape}
use Rattle.graphql_executable.specs.kinds.VariableDefinitions.{variable_definition_kind, variable_definitions_obey}
use Rattle.graphql_executable.specs.lemmas.Heads.{type_condition_part}
use Rattle.graphql_executable.specs.lemmas.Selections.{selection_set_part}
use Rattle.graphql_executable.specs.lemmas.VariableDefinitions.{variable_definitions_part}
use Rattle.graphql_executable.specs.lemmas.FlawsTold.{fragment_definition_tells, operation_definition_tells}

-- FRAGMENT DEFINITIONS

-- FragmentDefinition, section 2.8, behind its description
unfoldable pub fragment_definition_body_part : KindPart fragment_definition_body [] (a_keyword (codes "fragment") ∷ []) false [] false
fragment_definition_body_part = retold
    (λ x. record { name = x.0; type_condition = x.1.0; directives = x.1.1.0; selections = x.1.1.1 })
    (λ fragment. (fragment.name, (fragment.type_condition, (fragment.directives, fragment.selections)))) (λ fragment. refl)
    (word_then (codes "fragment") refl (space_then (name_then not_fragment_names
    (plain_then type_condition_part (part_then (directives_part NonConst) (space_then selection_set_part) refl) refl))))

-- FragmentDefinition, section 2.8
unfoldable pub fragment_definition_part : KindPart fragment_definition_kind [] (a_string_value ∷ a_keyword (codes "fragment") ∷ []) false [] false
fragment_definition_part = described_part fragment_definition_body fragment_definition_body_part refl

pub fragment_definition_laws : Laws fragment_definition_kind
fragment_definition_laws = part_laws fragment_definition_part (λ broken front fragment. refl) fragment_definition_tells

-- OPERATIONS IN FULL

-- OperationDefinition, section 2.3, behind its description and not in shorthand
unfoldable pub operation_definition_body_part : KindPart operation_definition_body [] operation_type_words false [] false
operation_definition_body_part = retold
    (λ x. record { operation_type = x.0; name = x.1.0; variables = x.1.1.0; directives = x.1.1.1.0; selections = x.1.1.1.1 })
    (λ operation. (operation.operation_type, (operation.name, (operation.variables, (operation.directives, operation.selections))))) (λ operation. refl)
    (plain_then operation_type_part (plain_then (plain_optional_part (space_then name_part) refl)
    (part_then variable_definitions_part (part_then (directives_part NonConst) (space_then selection_set_part) refl) refl) refl) refl)

-- OperationDefinition, section 2.3, not in shorthand
unfoldable pub full_operation_part : KindPart full_operation_kind [] (a_string_value ∷ operation_type_words) false [] false
full_operation_part = described_part operation_definition_body operation_definition_body_part refl

-- THE QUERY SHORTHAND

-- the query that a selection set stands for
unfoldable pub bare_query : SelectionTrees → full_operation_kind.Tree
bare_query set = record { description = None; body = record { operation_type = Query; name = None; variables = []; directives = []; selections = set } }

bare_query_of : (description : Option StringText) (type : OperationTypeTree) (name : Option NameText)
    (variables : List variable_definition_kind.Tree) (directives : List DirectiveTree) (set : SelectionTrees) →
    let operation : full_operation_kind.Tree =
    record {
      description = description;
      body = record { operation_type = type; name = name; variables = variables; directives = directives; selections = set };
    } in
    IsTrue (is_bare_query operation) → bare_query set ≡ operation
unfolding bare_query
bare_query_of None Query None [] [] set is = refl
bare_query_of (Some _) type name variables directives set is = cc
bare_query_of None Mutation name variables directives set is = cc
bare_query_of None Subscription name variables directives set is = cc
bare_query_of None Query (Some _) variables directives set is = cc
bare_query_of None Query None (variable ∷ more) directives set is = cc (eqb-suc-zero (length more), is)
bare_query_of None Query None [] (directive ∷ more) set is = cc (eqb-suc-zero (length more), is)

bare_query_is : (operation : full_operation_kind.Tree) → IsTrue (is_bare_query operation) → bare_query operation.body.selections ≡ operation
bare_query_is operation =
    bare_query_of operation.description operation.body.operation_type operation.body.name operation.body.variables operation.body.directives
    operation.body.selections

unfoldable pub operation_reader : Parser full_operation_kind.Tree
operation_reader = alt (a_punctuator lbrace ∷ []) (selection_set_part.parser >>= λ selections. pure (bare_query selections)) full_operation_part.parser

abbrev pub operation_first_tokens : List TokenClass
operation_first_tokens = a_punctuator lbrace ∷ a_string_value ∷ operation_type_words

pub operation_is_read : {k : ℕ} (operation : full_operation_kind.Tree) →
    Reads k operation_reader operation (operation_form operation) [] operation_first_tokens false
unfolding operation_reader operation_form
operation_is_read {k} operation =
    either_reads (only_if_reads (λ is.
    subst (λ other. Reads k operation_reader other (selection_set_form operation.body.selections) [] operation_first_tokens false)
    (bare_query_is operation is)
    (wider (alt_0 _ _ (last bare_query (selection_set_part.read k operation.body.selections)) refl) refl refl (λ z. z))))
    (wider (alt_1 _ _ (full_operation_part.read k operation) refl) refl refl (λ z. z))

pub operation_obeyed : (operation : full_operation_kind.Tree) (ts rest : List Token) → operation_form operation ts rest →
    IsTrue (full_operation_kind.obeys operation)
unfolding operation_form either only_if bare_query
operation_obeyed operation ts rest (inl d) =
    subst (λ other. IsTrue (full_operation_kind.obeys other)) (bare_query_is operation d.0)
    (selection_set_part.obeyed operation.body.selections ts rest d.1)
operation_obeyed operation ts rest (inr d) = full_operation_part.obeyed operation ts rest d

-- OPERATIONS

-- OperationDefinition, section 2.3, where something is written before it
unfoldable pub operation_definition_part : KindPart operation_definition_kind [] operation_first_tokens false [] false
unfolding operation_form operation_shape either
operation_definition_part = record {
  tokens = full_operation_part.tokens;
  parser = operation_reader;
  told = full_operation_part.told;
  read = λ k. operation_is_read;
  written = λ operation holds rest stops. inr (full_operation_part.written operation holds rest stops);
  obeyed = operation_obeyed;
}

unfoldable pub operation_tokens : Bool → full_operation_kind.Tree → Tail
operation_tokens front operation =
    if front && is_bare_query operation then selection_set_part.tokens operation.body.selections else full_operation_part.tokens operation

pub at_front : (front b : Bool) → front && b ≡ true → IsTrue b
at_front true b is = is
at_front false b is = cc

module _ (operation : full_operation_kind.Tree) where
  pub operation_told : (broken front b : Bool) → (b ≡ true → IsTrue (is_bare_query operation)) →
      Told 0 (if b then selection_set_shape operation.body.selections else full_operation_kind.shape broken front operation)
      (if b then selection_set_part.tokens operation.body.selections else full_operation_part.tokens operation) false
      (full_operation_kind.nesting operation)
  unfolding bare_query
  operation_told broken front true is =
      subst
      (λ (other : full_operation_kind.Tree).
      Told 0 (selection_set_shape other.body.selections) (selection_set_part.tokens other.body.selections) false
      (full_operation_kind.nesting other))
      (bare_query_is operation (is refl))
      (told_as (omega arith) (told_weaker (selection_set_part.told broken operation.body.selections)))
  operation_told broken front false is = full_operation_part.told broken operation

  pub operation_written : (b : Bool) → (b ≡ true → IsTrue (is_bare_query operation)) → IsTrue (full_operation_kind.obeys operation) → (rest : List Token) →
      operation_form operation ((if b then selection_set_part.tokens operation.body.selections else full_operation_part.tokens operation) rest) rest
  unfolding operation_form either only_if
  operation_written true is holds rest =
      inl (
        is refl,
        selection_set_part.written operation.body.selections
            (second_holds (directives_obey NonConst operation.body.directives) _
            (second_holds (variable_definitions_obey operation.body.variables) _ holds)) rest
            (begins_none rest),
      )
  operation_written false is holds rest = inr (full_operation_part.written operation holds rest (begins_none rest))

pub operation_definition_laws : Laws operation_definition_kind
unfolding operation_shape operation_tokens
operation_definition_laws = laws_of {tokens = operation_tokens}
    (λ broken front operation. operation_told operation broken front (front && is_bare_query operation) (at_front front (is_bare_query operation)))
    (λ k. operation_is_read)
    (λ front operation holds. operation_written operation (front && is_bare_query operation) (at_front front (is_bare_query operation)) holds [])
    operation_obeyed
    operation_definition_tells

-- the words and strings of its layout derive an operation, in shorthand at the front and in full behind something else
pub operation_derives : KindTokensDeriveBefore operation_definition_kind []
unfolding operation_shape
operation_derives front broken operation holds rest stops =
    let in_shorthand = front && is_bare_query operation in
    let is = at_front front (is_bare_query operation) in
    told_derives (operation_form operation) rest (operation_told operation broken front in_shorthand is)
    (operation_written operation in_shorthand is holds rest)
