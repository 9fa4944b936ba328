use Rattle.std.proofs.Common.{[], ◌∷◌, codes, refl}
use Rattle.graphql_text.specs.lexical.Tokens.{lbracket, Punctuation, IntValue}
use Rattle.graphql_text.proofs.reader.ReaderComplete.{unread, read_as}
use Rattle.graphql_text.proofs.laws.refused_texts.Goals as goal

pub returns-clause-no_digits : goal.returns-clause-no_digits
returns-clause-no_digits c = λ tokens lexes. unread (codes "1e") tokens refl lexes

pub returns-clause-leading_zero : goal.returns-clause-leading_zero
returns-clause-leading_zero c = λ tokens lexes. unread (codes "01") tokens refl lexes

pub returns-clause-name_after_number : goal.returns-clause-name_after_number
returns-clause-name_after_number c = λ tokens lexes. unread (codes "1a") tokens refl lexes

pub returns-clause-unterminated : goal.returns-clause-unterminated
returns-clause-unterminated c = λ tokens lexes. unread (codes "\"a") tokens refl lexes

pub returns-clause-line_in_quotes : goal.returns-clause-line_in_quotes
returns-clause-line_in_quotes c = λ tokens lexes. unread (codes "\"a\nb\"") tokens refl lexes

pub returns-clause-surrogate : goal.returns-clause-surrogate
returns-clause-surrogate c = λ tokens lexes. unread (codes "\"\\uD800\"") tokens refl lexes

pub returns-clause-in_comment : goal.returns-clause-in_comment
returns-clause-in_comment c =
    λ tokens lexes. read_as (codes "[1 #c]") (Punctuation lbracket ∷ IntValue (codes "1") ∷ []) tokens refl lexes
