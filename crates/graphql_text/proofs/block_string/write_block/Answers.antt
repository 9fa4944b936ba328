use Rattle.graphql_text.proofs.strings.StringsInUtf8.{block_in_chars}
use Rattle.graphql_text.proofs.block_string.write_block.Goals as goal

pub returns : goal.returns
returns g c = rw (← block_in_chars c.args.prefix.now c.args.level c.args.value.now c.utf8.prefix c.utf8.value) c.write_block_bytes.ensures
