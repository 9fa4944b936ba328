use Rattle.std.proofs.Common.{◌≡◌, ◌-◌, ◌==◌, not, length, get_or, [], ap, sym, ◌∙◌}
use Rattle.std.specs.List.{list_any, list_all}
use Rattle.graphql_text.specs.strings.BlockStringValue.{is_blank, lines_of}
use Rattle.graphql_text.specs.strings.BlockForm.{begins_unindented}
use Rattle.graphql_text.proofs.strings.LinesByBytes.{ruled_out, left_over}
use Rattle.graphql_text.proofs.strings.LinesOneByOne.{not_any}
use Rattle.graphql_text.proofs.strings.StringsInUtf8.{can_be_block_in_chars}
use Rattle.graphql_text.proofs.block_string.can_be_block.Goals as goal

pub returns-then-ends_blank-begins_blank : goal.returns-then-ends_blank-begins_blank
returns-then-ends_blank-begins_blank c =
    let value = c.args.value.now in
    let lines = lines_of value in
    let first : c.begins_blank.result ≡ is_blank (get_or lines 0 []) = rw (← c.as_bytes-bytes.ensures.value) c.begins_blank.ensures in
    let last : c.ends_blank.result ≡ is_blank (get_or lines (length lines - 1) []) = rw (← c.as_bytes-bytes.ensures.value) c.ends_blank.ensures in
    let blank = rw (last, first) at c.if-ends_blank-begins_blank.true in
    sym (ruled_out (list_all (λ b. not (b == 13)) value) (is_blank (get_or lines 0 [])) (is_blank (get_or lines (length lines - 1) []))
    (list_any begins_unindented lines) blank)
    ∙ can_be_block_in_chars value c.utf8.value

pub returns : goal.returns
returns c =
    let value = c.args.value.now in
    let lines = lines_of value in
    let first : c.begins_blank.result ≡ is_blank (get_or lines 0 []) = rw (← c.as_bytes-bytes.ensures.value) c.begins_blank.ensures in
    let last : c.ends_blank.result ≡ is_blank (get_or lines (length lines - 1) []) = rw (← c.as_bytes-bytes.ensures.value) c.ends_blank.ensures in
    let some : c.has_unindented_line.result ≡ list_any begins_unindented lines = rw (← c.as_bytes-bytes.ensures.value) c.has_unindented_line.ensures in
    let plain : not c.holds.result ≡ list_all (λ b. not (b == 13)) value = ap not c.holds.ensures ∙ not_any (λ b. b == 13) value in
    let written = rw (last, first) at c.if-ends_blank-begins_blank.false in
    rw (plain, some)
    (sym (left_over (list_all (λ b. not (b == 13)) value) (is_blank (get_or lines 0 [])) (is_blank (get_or lines (length lines - 1) []))
    (list_any begins_unindented lines) written)
    ∙ can_be_block_in_chars value c.utf8.value)
