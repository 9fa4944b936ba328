use Rattle.std.proofs.Common.{◌≡◌, refl, encode_utf8_all}
use Rattle.graphql_base.specs.Name.{name_text}
use Rattle.graphql_text.proofs.lexical.AsciiWords.{name_bytes}
use Rattle.graphql_text.proofs.code.WritingSteps.{writes_item}
use Rattle.graphql_text.proofs.writers.write_name.Goals as goal

pub returns-in-Ok : goal.returns-in-Ok
returns-in-Ok g c = λ mode level.
    let text : encode_utf8_all (name_text c.args.name.now) ≡ name_text c.args.name.now =
    name_bytes (record { text = name_text c.args.name.now; valid = c.args.name.now.valid }) in
    let short = rw c.in-Ok.is at c.short_text_or_str.ensures.short in
    writes_item refl (rw (text, ← short) c.padded.ensures)

pub returns-in-Err : goal.returns-in-Err
returns-in-Err g c = λ mode level.
    let text : encode_utf8_all (name_text c.args.name.now) ≡ name_text c.args.name.now =
    name_bytes (record { text = name_text c.args.name.now; valid = c.args.name.now.valid }) in
    let other = rw c.in-Err.is at c.short_text_or_str.ensures.other in
    writes_item refl (rw (text, ← other) c.text.ensures)
