use Rattle.std.proofs.Common.{◌+◌, false, length, length-append, sym, ap, rules, ◌∙◌, arith}
use Rattle.std.proofs.lemmas.List.{nil_from_length}
use Rattle.std.specs.Slice.Iter.{rchunks_rest}
use Rattle.graphql_ast.proofs.LineEnds.{begins_character, last_bytes, last_bytes_anew, last_bytes_append, last_bytes_behind, last_bytes_on}
use Rattle.graphql_ast.proofs.LineEnds.{last_line_bytes, terminators_behind}
use Rattle.std.proofs.lemmas.List.Sums.{count_by-le-length}
use Rattle.graphql_ast.proofs.document.lines_and_columns.last_line_len.Goals as goal

pub returns-then-line_ends-gt0-clause-count : goal.returns-then-line_ends-gt0-clause-count
returns-then-line_ends-gt0-clause-count c =
    let bytes = c.in-Some.bytes.now in
    let rest = rchunks_rest c.next.new.self in
    let counted = terminators_behind false bytes in
    let split = ap (last_bytes 0) c.in-Some.ensures.steps.1.0 ∙ last_bytes_append 0 rest bytes in
    let anew = last_bytes_anew (last_bytes 0 rest) 0 bytes (omega (arith, counted, c.line_ends.ensures, c.if-line_ends-gt0.true)) in
    let behind = last_bytes_behind bytes in
    let all = last_line_bytes c.args.text.now c.utf8.text in
    omega (arith, split, anew, behind, all, c.loop-bytes.invariant.3, c.characters_behind_line_end.ensures.count)

pub loop-bytes-preserved : goal.loop-bytes-preserved
loop-bytes-preserved c =
    let bytes = c.in-Some.bytes.now in
    let rest = rchunks_rest c.next.new.self in
    let steps = c.in-Some.ensures.steps in
    let counted = terminators_behind false bytes in
    let split = ap (last_bytes 0) steps.1.0 ∙ last_bytes_append 0 rest bytes in
    let on = last_bytes_on (last_bytes 0 rest) bytes (omega (arith, counted, c.line_ends.ensures, c.if-line_ends-gt0.false)) in
    let begun = c.characters_begun.ensures in
    let most = count_by-le-length begins_character bytes in
    let sizes = ap length steps.1.0 ∙ length-append rest bytes in (
      search rules,
      tt,
      steps.0 ∙ c.loop-bytes.invariant.2,
      omega (arith, split, on, begun, c.loop-bytes.invariant.3),
      omega (arith, sizes, begun, most, c.loop-bytes.invariant.4),
    )

pub returns-clause-count : goal.returns-clause-count
returns-clause-count c =
    let none = nil_from_length _ c.in-None.ensures.steps.1.0 in
    let counted = ap (λ rest. last_bytes 0 rest + c.loop-bytes.len) (sym none) ∙ c.loop-bytes.invariant.3 in
    let all = last_line_bytes c.args.text.now c.utf8.text in
    omega (arith, counted, all)
