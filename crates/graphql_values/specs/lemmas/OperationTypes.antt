-- Lemmas, no definitions of the product: operation types as a part, and their words.
use Rattle.std.proofs.Common.{◌≡◌, refl, ℕ, Some, true, false, List, [], ◌∷◌, codes}
use Rattle.graphql_base.specs.Names.{is_name}
use Rattle.graphql_text.specs.lexical.Tokens.{Name}
use Rattle.graphql_text.specs.grammar.Forms.{TokenClass, a_keyword, token}
use Rattle.graphql_text.specs.code.Writing.{fixed_text}
use Rattle.graphql_text.proofs.grammar.FormParsers.{Parser, Reads, ◌>>=◌, pure, alt, alt_0, alt_1, wider, accept, word_reads, last}
use Rattle.graphql_text.proofs.parts.Parts.{Part}
use Rattle.graphql_text.proofs.parts.ToldShapes.{told_nothing, told_word}
use Rattle.graphql_values.specs.kinds.OperationTypes.{OperationTypeTree, Query, Mutation, Subscription, operation_type_name}
use Rattle.graphql_values.specs.kinds.OperationTypes.{operation_type_form, operation_type_shape}

pub operation_type_is_name : (type : OperationTypeTree) → is_name (operation_type_name type) ≡ true
operation_type_is_name Query = refl
operation_type_is_name Mutation = refl
operation_type_is_name Subscription = refl

-- the words of operation types are ASCII
pub operation_type_fixed : (type : OperationTypeTree) → fixed_text (operation_type_shape type) ≡ Some (operation_type_name type)
operation_type_fixed Query = refl
operation_type_fixed Mutation = refl
operation_type_fixed Subscription = refl

unfoldable pub operation_word_reader : OperationTypeTree → Parser OperationTypeTree
operation_word_reader type = accept (a_keyword (operation_type_name type)) >>= λ t. pure type

operation_reads : {k : ℕ} (type : OperationTypeTree) →
    Reads k (operation_word_reader type) type (operation_type_form type) [] (a_keyword (operation_type_name type) ∷ []) false
unfolding operation_word_reader
operation_reads type = last (λ t. type) (word_reads (operation_type_name type))

abbrev pub operation_type_words : List TokenClass
operation_type_words = a_keyword (codes "query") ∷ a_keyword (codes "mutation") ∷ a_keyword (codes "subscription") ∷ []

unfoldable pub operation_type_reader : Parser OperationTypeTree
operation_type_reader =
    alt (a_keyword (codes "query") ∷ []) (operation_word_reader Query)
    (alt (a_keyword (codes "mutation") ∷ []) (operation_word_reader Mutation) (operation_word_reader Subscription))

pub operation_type_is_read : (k : ℕ) (type : OperationTypeTree) → Reads k operation_type_reader type (operation_type_form type) [] operation_type_words false
unfolding operation_type_reader
operation_type_is_read k Query = wider (alt_0 _ _ (operation_reads Query) refl) refl refl (λ z. z)
operation_type_is_read k Mutation = wider (alt_1 _ _ (alt_0 _ _ (operation_reads Mutation) refl) refl) refl refl (λ z. z)
operation_type_is_read k Subscription = wider (alt_1 _ _ (alt_1 _ _ (operation_reads Subscription) refl) refl) refl refl (λ z. z)

-- OperationType, section 2.3
unfoldable pub operation_type_part : Part operation_type_form (λ broken. operation_type_shape) (λ type. 0) (λ type. true) [] operation_type_words false [] false
unfolding token
operation_type_part = record {
  tokens = λ type rest. Name (operation_type_name type) ∷ rest;
  parser = operation_type_reader;
  told = λ broken type. told_word (operation_type_name type) (operation_type_is_name type) told_nothing;
  read = operation_type_is_read;
  written = λ type holds rest stops. refl;
  obeyed = λ type ts rest d. refl;
}
