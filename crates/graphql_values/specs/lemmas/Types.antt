-- Lemmas, no definitions of the product: types as a part, and their laws.
use Rattle.std.proofs.Common.{ℕ, zero, suc, refl, List, [], ◌∷◌, Bool, true, false}
use Rattle.graphql_text.specs.lexical.Literals.{NameText}
use Rattle.graphql_text.specs.lexical.Tokens.{bang, lbracket, rbracket, Token, Punctuation, Name}
use Rattle.graphql_text.specs.grammar.Forms.{Form, token, no_tokens, ◌⨟◌, name_except, TokenClass, a_punctuator, a_name}
use Rattle.graphql_text.specs.kinds.Reading.{Laws}
use Rattle.graphql_text.proofs.parts.KindParts.{part_laws}
use Rattle.graphql_text.proofs.grammar.FormParsers.{Parser, ◌>>=◌, pure, fail, alt, Reads, seq, seq_in, last, alt_0, alt_1, wider, at_zero}
use Rattle.graphql_text.proofs.grammar.FormParsers.{accept, mark_reads, parse_name, name_reads, bounded, bounded_reads, via, add_empty}
use Rattle.graphql_text.proofs.grammar.FormParsers.{alt_empty}
use Rattle.graphql_text.proofs.parts.Parts.{Part}
use Rattle.graphql_text.proofs.parts.PartTokens.{Tail}
use Rattle.graphql_text.proofs.parts.ToldShapes.{Told, told_nothing, told_weaker, told_mark, told_name, told_type}
use Rattle.graphql_values.specs.kinds.TypeReferences.{TypeTree, named_type, non_null_named_type, list_type, non_null_list_type, type_form}
use Rattle.graphql_values.specs.kinds.TypeReferences.{type_shape, type_kind}

-- THE TOKENS OF A TYPE AS IT IS PRINTED, IN FRONT OF THOSE THAT FOLLOW

unfoldable pub type_tokens : TypeTree → Tail
type_tokens (named_type name) rest = Name name.text ∷ rest
type_tokens (non_null_named_type name) rest = Name name.text ∷ Punctuation bang ∷ rest
type_tokens (list_type item) rest = Punctuation lbracket ∷ type_tokens item (Punctuation rbracket ∷ rest)
type_tokens (non_null_list_type item) rest = Punctuation lbracket ∷ type_tokens item (Punctuation rbracket ∷ Punctuation bang ∷ rest)

-- ITS LAYOUT HAS THESE TOKENS

pub told_type_reference : (uncounted : ℕ) (t : TypeTree) → Told uncounted (type_shape t) (type_tokens t) false 0
unfolding type_shape type_tokens
told_type_reference u (named_type s) = told_name s told_nothing
told_type_reference u (non_null_named_type s) = told_name s (told_mark bang refl told_nothing)
told_type_reference u (list_type t) = told_weaker (told_type (told_type_reference (suc u) t) told_nothing)
told_type_reference u (non_null_list_type t) = told_weaker (told_type (told_type_reference (suc u) t) (told_mark bang refl told_nothing))

-- A READER OF TYPES FINDS IT

unfoldable pub bang_reader : Parser Bool
bang_reader = alt (a_punctuator bang ∷ []) (accept (a_punctuator bang) >>= λ t. pure true) (pure false)

bang_reads : {k : ℕ} → Reads k bang_reader true (token (Punctuation bang)) [] (a_punctuator bang ∷ []) false
unfolding bang_reader
bang_reads = alt_0 _ _ (last _ (mark_reads bang)) refl

no_bang_reads : {k : ℕ} → Reads k bang_reader false no_tokens (a_punctuator bang ∷ []) (a_punctuator bang ∷ []) true
unfolding bang_reader
no_bang_reads = alt_empty _ _ _ _ refl

unfoldable pub maybe_non_null_name : NameText → Bool → TypeTree
maybe_non_null_name s true = non_null_named_type s
maybe_non_null_name s false = named_type s

unfoldable pub maybe_non_null_list : TypeTree → Bool → TypeTree
maybe_non_null_list t true = non_null_list_type t
maybe_non_null_list t false = list_type t

abbrev pub type_first_tokens : List TokenClass
type_first_tokens = a_name [] ∷ a_punctuator lbracket ∷ []

unfoldable pub list_end : TypeTree → Parser TypeTree
list_end i = accept (a_punctuator rbracket) >>= λ u. bang_reader >>= λ b. pure (maybe_non_null_list i b)

unfoldable pub type_step : Parser TypeTree → Parser TypeTree
type_step p =
    alt (a_name [] ∷ []) (parse_name [] >>= λ s. bang_reader >>= λ b. pure (maybe_non_null_name s b))
    (accept (a_punctuator lbracket) >>= λ t. p >>= list_end)

abbrev pub type_in : ℕ → Parser TypeTree
type_in zero = fail
type_in (suc k) = type_step (type_in k)

-- the form with nothing after its last part, three deep
add_after : (f g h : Form) (ts r : List Token) → (f ⨟ g ⨟ h) ts r → (f ⨟ g ⨟ h ⨟ no_tokens) ts r
unfolding ◌⨟◌ no_tokens
add_after f g h ts r d = (d.0, d.1, (d.2.0, d.2.1, (r, d.2.2, refl)))

in_list : (k : ℕ) (t : TypeTree) {p : Parser TypeTree} → Reads k p t (type_form t) (a_punctuator bang ∷ []) type_first_tokens false →
    Reads k (p >>= list_end) (list_type t) (type_form t ⨟ token (Punctuation rbracket) ⨟ no_tokens) (a_punctuator bang ∷ []) type_first_tokens false
unfolding list_end maybe_non_null_list
in_list k t x = seq _ x (seq _ (mark_reads rbracket) (last _ no_bang_reads) refl) refl

in_non_null_list : (k : ℕ) (t : TypeTree) {p : Parser TypeTree} → Reads k p t (type_form t) (a_punctuator bang ∷ []) type_first_tokens false →
    Reads k (p >>= list_end) (non_null_list_type t) (type_form t ⨟ token (Punctuation rbracket) ⨟ token (Punctuation bang)) [] type_first_tokens false
unfolding list_end maybe_non_null_list
in_non_null_list k t x = seq _ x (seq _ (mark_reads rbracket) (last _ bang_reads) refl) refl

pub type_reads : (k : ℕ) (t : TypeTree) → Reads k (type_step (type_in k)) t (type_form t) (a_punctuator bang ∷ []) type_first_tokens false
unfolding type_step type_form maybe_non_null_name maybe_non_null_list
type_reads k (named_type s) = wider (via (add_empty _) (alt_0 _ _ (seq _ (name_reads [] s) (last _ no_bang_reads) refl) refl)) refl refl (λ z. z)
type_reads k (non_null_named_type s) = wider (alt_0 _ _ (seq _ (name_reads [] s) (last _ bang_reads) refl) refl) refl refl (λ z. z)
type_reads zero (list_type t) = wider (via (add_after _ _ _) (at_zero (mark_reads lbracket) (in_list zero t (type_reads zero t)))) refl refl (λ z. z)
type_reads zero (non_null_list_type t) = wider (at_zero (mark_reads lbracket) (in_non_null_list zero t (type_reads zero t))) refl refl (λ z. z)
type_reads (suc k) (list_type t) =
    wider (via (add_after _ _ _) (alt_1 _ _ (seq_in _ (mark_reads lbracket) (in_list k t (type_reads k t)) refl) refl)) refl refl (λ z. z)
type_reads (suc k) (non_null_list_type t) =
    wider (alt_1 _ _ (seq_in _ (mark_reads lbracket) (in_non_null_list k t (type_reads k t)) refl) refl) refl refl (λ z. z)

unfoldable pub type_reader : Parser TypeTree
type_reader = bounded (λ k. type_step (type_in k))

pub type_is_read : {k : ℕ} (t : TypeTree) → Reads k type_reader t (type_form t) (a_punctuator bang ∷ []) type_first_tokens false
unfolding type_reader
type_is_read t = bounded_reads _ (λ j le. type_reads j t)

-- ITS TOKENS DERIVE IT

pub type_written : (t : TypeTree) (r : List Token) → type_form t (type_tokens t r) r
unfolding type_form type_tokens token name_except ◌⨟◌
type_written (named_type s) r = (refl, refl)
type_written (non_null_named_type s) r = (_, (refl, refl), refl)
type_written (list_type t) r = (_, refl, (_, type_written t _, refl))
type_written (non_null_list_type t) r = (_, refl, (_, type_written t _, (_, refl, refl)))

-- Type, section 2.11
unfoldable pub type_part : Part type_form (λ broken. type_shape) (λ type. 0) (λ type. true) (a_punctuator bang ∷ []) type_first_tokens false [] false
type_part = record {
  tokens = type_tokens;
  parser = type_reader;
  told = λ broken. told_type_reference 0;
  read = λ k. type_is_read;
  written = λ type holds rest stops. type_written type rest;
  obeyed = λ type ts rest d. refl;
}

pub type_laws : Laws type_kind
type_laws = part_laws type_part (λ broken front type. refl) (λ type. refl)
