use Rattle.std.proofs.Common.{refl, chars, sym, ◌∙◌}
use Rattle.graphql_text.specs.layout.Layout.{AsDescription}
use Rattle.graphql_text.proofs.strings.StringTextForm.{block_here, impossible_here}
use Rattle.graphql_text.proofs.strings.UnescapedLine.{plain_can_be_block}
use Rattle.graphql_text.proofs.strings.StringsInUtf8.{can_be_block_in_chars}
use Rattle.graphql_text.proofs.code.WritingSteps.{writes_item}
use Rattle.graphql_text.proofs.string.write_description.Goals as goal
use Rattle.graphql_text.proofs.string.write_description.Goals.{in_default-2-via-in-Some+else-begins_unindented, in_default-2-via-in_default-2}

pub returns-in-Some : goal.returns-in-Some
returns-in-Some g c =
    let begins = plain_can_be_block c.args.value.now (sym c.has_escaped.ensures ∙ c.if-has_escaped.false) in
    let can = sym (can_be_block_in_chars c.args.value.now c.utf8.value) ∙ begins ∙ sym c.begins_unindented.ensures ∙ c.if-begins_unindented.true in
    rw c.in-Some.is (writes_item refl (rw (block_here (chars c.in-Some.prefix.now) c.args.place.now.level
    (chars c.args.value.now) AsDescription refl can)
    c.write_plain_block.ensures))

pub returns-in_default-2 : goal.returns-in_default-2
returns-in_default-2 g c = elim c.in_default-2.branch [
  | in_default-2-via-in-Some+else-begins_unindented w ↦
      let begins = plain_can_be_block c.args.value.now (sym c.has_escaped.ensures ∙ c.if-has_escaped.false) in
      let cannot = sym (can_be_block_in_chars c.args.value.now c.utf8.value) ∙ begins ∙ sym w.begins_unindented.ensures ∙ w.if-begins_unindented.false in
      rw w.in-Some.is (writes_item refl (rw (impossible_here (chars w.in-Some.prefix.now) c.args.place.now.level
      (chars c.args.value.now) AsDescription cannot)
      c.write_plain.ensures))
  | in_default-2-via-in_default-2 w ↦ rw w.in_default-2.is (writes_item refl c.write_plain.ensures)
]
