use Rattle.std.proofs.Common.{codes, inr, refl}
use Rattle.graphql_text.specs.grammar.Forms.{◌⨟◌, name_except, no_tokens, optional_token, token}
use Rattle.graphql_text.proofs.examples.TextReadings.{parts_read}
use Rattle.graphql_text.proofs.reader.ReaderSound.{lex_sound}
use Rattle.graphql_ast.specs.lemmas.Definitions.{definition_part}
use Rattle.graphql_ast.proofs.examples.DocumentReadings.{printed}
use Rattle.graphql_ast.proofs.laws.readings.definitions_are_read.Goals as goal

pub returns-clause-definitions : goal.returns-clause-definitions
unfolding printed
returns-clause-definitions c = parts_read definition_part _ refl

-- no layout prints it
pub returns-clause-leading_bar : goal.returns-clause-leading_bar
unfolding ◌⨟◌ token no_tokens optional_token name_except
returns-clause-leading_bar c =
    (refl, _, lex_sound (codes "union U = | A") _ refl, (_, refl, (_, refl, (_, (refl, refl), (_, refl, (_, refl, (_, inr refl, (_, (refl, refl), refl))))))))
