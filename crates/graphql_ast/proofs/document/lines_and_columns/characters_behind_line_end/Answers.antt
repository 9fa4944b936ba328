use Rattle.std.proofs.Common.{◌+◌, length, sym, ap, ◌∙◌, arith}
use Rattle.std.proofs.lemmas.List.{length_push, nil_from_length}
use Rattle.std.specs.Slice.Iter.{iter_rest}
use Rattle.std.specs.Iterator.Adapters.{rev_source}
use Rattle.graphql_ast.proofs.LineEnds.{last_bytes, last_bytes_begun, last_bytes_end, last_bytes_within, last_bytes_behind}
use Rattle.graphql_ast.proofs.document.lines_and_columns.characters_behind_line_end.Goals as goal

pub returns-then-ends_line-clause-count : goal.returns-then-ends_line-clause-count
returns-then-ends_line-clause-count c =
    let rest = iter_rest (rev_source c.next.new.self) in
    let ends = sym c.ends_line.ensures ∙ c.if-ends_line.true in
    let none = ap (last_bytes 0) c.in-Some.ensures.steps ∙ last_bytes_end 0 rest c.in-Some.byte.now ends in
    let counted = c.loop-byte.invariant.2 in
    let all = last_bytes_behind c.args.bytes.now in
    omega (arith, none, counted, all)

pub loop-byte-preserved-then-begins_character : goal.loop-byte-preserved-then-begins_character
loop-byte-preserved-then-begins_character c =
    let rest = iter_rest (rev_source c.next.new.self) in
    let byte = c.in-Some.byte.now in
    let one =
    ap (last_bytes 0) c.in-Some.ensures.steps
    ∙ last_bytes_begun 0 rest byte (sym c.ends_line.ensures ∙ c.if-ends_line.false) (sym c.begins_character.ensures ∙ c.if-begins_character.true) in
    let size = ap length c.in-Some.ensures.steps ∙ length_push rest byte in
    (tt, tt, omega (arith, one, c.loop-byte.invariant.2), omega (arith, size, c.loop-byte.invariant.3))

pub loop-byte-preserved : goal.loop-byte-preserved
loop-byte-preserved c =
    let rest = iter_rest (rev_source c.next.new.self) in
    let byte = c.in-Some.byte.now in
    let none =
    ap (last_bytes 0) c.in-Some.ensures.steps
    ∙ last_bytes_within 0 rest byte (sym c.ends_line.ensures ∙ c.if-ends_line.false) (sym c.begins_character.ensures ∙ c.if-begins_character.false) in
    let size = ap length c.in-Some.ensures.steps ∙ length_push rest byte in
    (tt, tt, omega (arith, none, c.loop-byte.invariant.2), omega (arith, size, c.loop-byte.invariant.3))

pub returns-clause-count : goal.returns-clause-count
returns-clause-count c =
    let none = nil_from_length _ c.in-None.ensures.steps.0 in
    let counted = ap (λ rest. last_bytes 0 rest + c.loop-byte.len) (sym none) ∙ c.loop-byte.invariant.2 in
    let all = last_bytes_behind c.args.bytes.now in
    omega (arith, counted, all)
