use Rattle.std.proofs.Common.{chars, refl, sym, ◌∙◌, lit<}
use Rattle.graphql_text.specs.code.Place.{mode_of}
use Rattle.graphql_text.proofs.strings.StringTextForm.{no_line_feed, quoted_here}
use Rattle.graphql_text.proofs.strings.StringsInUtf8.{key_in_chars}
use Rattle.graphql_text.proofs.code.WritingSteps.{writes_item}
use Rattle.graphql_text.proofs.string.write_string_value.Goals as goal

pub returns-else-has_escaped : goal.returns-else-has_escaped
returns-else-has_escaped g c =
    let none = no_line_feed c.args.value.now (sym c.has_escaped.ensures ∙ c.if-has_escaped.false) in
    writes_item refl (rw (quoted_here (mode_of c.args.place.now.prefix) c.args.place.now.level (chars c.args.value.now)
    (sym (key_in_chars 10 (lit< tt) c.args.value.now c.utf8.value) ∙ none))
    c.write_plain.ensures)
