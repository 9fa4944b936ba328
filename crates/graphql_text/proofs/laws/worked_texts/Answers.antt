use Rattle.std.proofs.Common.{[], ◌∷◌, codes, refl}
use Rattle.graphql_text.specs.lexical.Tokens.{lbracket, rbracket, Punctuation, Name, IntValue, FloatValue, StringValue}
use Rattle.graphql_text.proofs.reader.ReaderSound.{lex_sound}
use Rattle.graphql_text.proofs.laws.worked_texts.Goals as goal

pub returns-clause-list : goal.returns-clause-list
returns-clause-list c =
    lex_sound (codes "[1 2,,3 #c\n]")
    (Punctuation lbracket ∷ IntValue (codes "1") ∷ IntValue (codes "2") ∷ IntValue (codes "3") ∷ Punctuation rbracket ∷ []) refl

pub returns-clause-escapes : goal.returns-clause-escapes
returns-clause-escapes c = lex_sound (codes "\"\\u0041\\/\"") (StringValue (codes "A/") ∷ []) refl

pub returns-clause-block : goal.returns-clause-block
returns-clause-block c = lex_sound (codes "\"\"\"\n\ta\n\"\"\"") (StringValue (codes "a") ∷ []) refl

pub returns-clause-numbers : goal.returns-clause-numbers
returns-clause-numbers c =
    lex_sound (codes "-0 1.50e-3") (IntValue (codes "-0") ∷ FloatValue (codes "1.50e-3") ∷ []) refl

pub returns-clause-names : goal.returns-clause-names
returns-clause-names c =
    lex_sound (codes "on_2\"\"") (Name (codes "on_2") ∷ StringValue [] ∷ []) refl

pub returns-clause-nothing : goal.returns-clause-nothing
returns-clause-nothing c = lex_sound [] [] refl
