use Rattle.std.proofs.Common.{refl, chars, sym, ◌∙◌, lit<}
use Rattle.graphql_text.specs.layout.Layout.{AsValue}
use Rattle.graphql_text.proofs.strings.StringTextForm.{block_here, unwanted_here, impossible_here}
use Rattle.graphql_text.proofs.strings.StringsInUtf8.{key_in_chars}
use Rattle.graphql_text.proofs.code.WritingSteps.{writes_item}
use Rattle.graphql_text.proofs.string.write_with_escapes.Goals as goal
use Rattle.graphql_text.proofs.string.write_with_escapes.Goals.{in_default-via-in-Some+then-holds+else-can_be_block}
use Rattle.graphql_text.proofs.string.write_with_escapes.Goals.{in_default-via-in-Some+else-holds, in_default-via-in_default}

pub returns-in-Some : goal.returns-in-Some
returns-in-Some g c =
    let wants = sym (key_in_chars 10 (lit< tt) c.args.value.now c.utf8.value) ∙ (sym c.holds.ensures ∙ c.if-holds.true) in
    let can = sym c.can_be_block.ensures ∙ c.if-can_be_block.true in
    rw c.in-Some.is (writes_item refl (rw
    (block_here (chars c.in-Some.prefix.now) c.args.place.now.level (chars c.args.value.now) AsValue wants can) c.write_block.ensures))

pub returns-in_default : goal.returns-in_default
returns-in_default g c = elim c.in_default.branch [
  | in_default-via-in-Some+then-holds+else-can_be_block w ↦
      let cannot = sym w.can_be_block.ensures ∙ w.if-can_be_block.false in
      rw w.in-Some.is (writes_item refl (rw (impossible_here (chars w.in-Some.prefix.now) c.args.place.now.level
      (chars c.args.value.now) AsValue cannot)
      c.write_quoted_runs.ensures))
  | in_default-via-in-Some+else-holds w ↦
      let unwanted = sym (key_in_chars 10 (lit< tt) c.args.value.now c.utf8.value) ∙ (sym w.holds.ensures ∙ w.if-holds.false) in
      rw w.in-Some.is (writes_item refl (rw (unwanted_here (chars w.in-Some.prefix.now) c.args.place.now.level
      (chars c.args.value.now) AsValue unwanted)
      c.write_quoted_runs.ensures))
  | in_default-via-in_default w ↦ rw w.in_default.is (writes_item refl c.write_quoted_runs.ensures)
]
