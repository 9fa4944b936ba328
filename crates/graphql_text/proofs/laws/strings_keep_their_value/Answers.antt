use Rattle.std.proofs.Common.{[], refl, inr, length, nat_lt, encode_utf8_all}
use Rattle.graphql_text.specs.strings.BlockForm.{block_text}
use Rattle.graphql_text.specs.layout.Layout.{string_text}
use Rattle.graphql_text.specs.strings.QuotedForm.{quoted_form}
use Rattle.graphql_text.specs.lexical.Tokens.{StringValue}
use Rattle.graphql_text.proofs.strings.BlockFormSpells.{block_form_is}
use Rattle.graphql_text.proofs.lexical.LexesAppend.{token_before}
use Rattle.graphql_text.proofs.layout.LayoutLexes.{string_spells}
use Rattle.graphql_text.proofs.strings.QuotedFormSpells.{form_spells}
use Rattle.graphql_text.proofs.laws.strings_keep_their_value.Goals as goal

pub returns-clause-quoted : goal.returns-clause-quoted
returns-clause-quoted c =
    λ value after stops. token_before (StringValue value) (quoted_form value) after (form_spells value after stops)

pub returns-clause-block : goal.returns-clause-block
returns-clause-block c = λ prefix level value after blank can.
    token_before (StringValue value) (block_text prefix level value) after
    (inr (block_form_is prefix level (nat_lt 70 (length (encode_utf8_all value))) value blank can))

pub returns-clause-printed : goal.returns-clause-printed
returns-clause-printed c = λ mode level value role after blank stops.
    token_before (StringValue value) (string_text mode level value role) after (string_spells mode level value role after blank stops)

pub returns-clause-alone : goal.returns-clause-alone
returns-clause-alone c = λ mode level value role blank.
    token_before (StringValue value) (string_text mode level value role) [] (string_spells mode level value role [] blank refl)
