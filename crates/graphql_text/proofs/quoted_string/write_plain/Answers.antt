use Rattle.std.proofs.Common.{nat_lt, length}
use Rattle.graphql_text.specs.strings.QuotedForm.{quoted_character}
use Rattle.graphql_text.proofs.strings.UnescapedCharacter.{plain}
use Rattle.graphql_text.proofs.strings.EscapeRuns.{flat_plain}
use Rattle.graphql_text.proofs.strings.StringsInUtf8.{quoted_in_chars}
use Rattle.graphql_text.proofs.quoted_string.write_plain.Goals as goal

pub returns : goal.returns
returns g c =
    let plainly = flat_plain quoted_character (λ byte. nat_lt 1 (length (quoted_character byte))) plain c.args.value.now c.requires in
    rw (← quoted_in_chars c.args.value.now c.utf8.value, plainly)
    (g.met.O.Target.more _ _ _ _ _ (g.met.O.Target.more _ _ _ _ _ c.text.ensures c.write_piece.ensures) c.text-2.ensures)
