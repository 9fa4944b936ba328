use Rattle.std.proofs.Common.{◌≡◌, ℕ, List, true, false, nat_lt, length, arith}
use Rattle.std.specs.List.{repeat}
use Rattle.std.proofs.lemmas.Bool.Decides.{nat_tests}
use Rattle.graphql_text.proofs.strings.StringsInUtf8.{block_in_chars}
use Rattle.graphql_text.proofs.strings.UnescapedLine.{plain_form}
use Rattle.graphql_text.proofs.block_string.write_plain_block.Goals as goal

pub returns-then-value-gt70 : goal.returns-then-value-gt70
returns-then-value-gt70 g c =
    let indent : List ℕ = repeat c.args.level c.args.prefix.now in
    let long : nat_lt 70 (length c.args.value.now) ≡ true = grind (arith, nat_tests) in
    rw (
      ← block_in_chars c.args.prefix.now c.args.level c.args.value.now c.utf8.prefix c.utf8.value,
      long,
      plain_form indent c.args.value.now true c.requires.plain,
    )
    c.write_plain_over_lines.ensures

pub returns-else-value-gt70 : goal.returns-else-value-gt70
returns-else-value-gt70 g c =
    let indent : List ℕ = repeat c.args.level c.args.prefix.now in
    let short : nat_lt 70 (length c.args.value.now) ≡ false = grind (arith, nat_tests) in
    rw (
      ← block_in_chars c.args.prefix.now c.args.level c.args.value.now c.utf8.prefix c.utf8.value,
      short,
      plain_form indent c.args.value.now false c.requires.plain,
    )
    c.write_plain_on_one_line.ensures
