use Rattle.graphql_text.proofs.code.FixedText.{writes_name_then}
use Rattle.graphql_text.proofs.writers.write_name_then.Goals as goal

pub returns-in-Ok : goal.returns-in-Ok
returns-in-Ok g c = λ items is mode level.
    let short = rw c.in-Ok.is at c.short_text_or_str.ensures.short in
    writes_name_then mode level items c.args.name.now.valid is (rw (← short) c.padded_then.ensures)

pub returns-in-Err : goal.returns-in-Err
returns-in-Err g c = λ items is mode level.
    let other = rw c.in-Err.is at c.short_text_or_str.ensures.other in
    writes_name_then mode level items c.args.name.now.valid is (rw (← other) (g.met.O.Target.more _ _ _ _ _ c.text.ensures c.write_words.ensures.bytes))
