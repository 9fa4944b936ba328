use Rattle.std.proofs.Common.{refl}
use Rattle.graphql_text.proofs.lexical.AsciiWords.{int_bytes}
use Rattle.graphql_text.proofs.code.WritingSteps.{writes_item}
use Rattle.graphql_text.proofs.writers.write_padded_int.Goals as goal

pub returns : goal.returns
returns g c = λ mode level.
    writes_item refl (rw (int_bytes (record { text = g.P.Padded.text c.args.int.now; valid = c.requires })) c.padded.ensures)
