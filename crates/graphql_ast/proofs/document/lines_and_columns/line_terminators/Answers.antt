use Rattle.std.proofs.Common.{◌+◌, ◌<◌, length, length-append, sym, ap, rules, ◌∙◌, arith}
use Rattle.std.proofs.lemmas.List.{nil_from_length}
use Rattle.std.specs.Slice.Iter.{chunks_rest}
use Rattle.graphql_ast.proofs.LineEnds.{ends_append, ends_from_last, ends_in, ends_in_size, terminators_behind, terminators_bytes}
use Rattle.graphql_ast.proofs.document.lines_and_columns.line_terminators.Goals as goal

pub loop-bytes-preserved-in-Some-last : goal.loop-bytes-preserved-in-Some-last
loop-bytes-preserved-in-Some-last c =
    let bytes = c.in-Some.bytes.now in
    let behind = c.loop-bytes.is_behind_return in
    let rest = chunks_rest c.next.new.self in
    let steps = c.in-Some.ensures.steps in
    let some : 0 < length bytes = omega (arith, steps.1, c.loop-bytes.invariant.2) in
    let state = ap (λ b. ends_in b rest) (ends_from_last behind bytes c.in-Some-last.last.now some (sym c.in-Some-last.ensures.value)) in
    let split = ap (ends_in behind) steps.1.0 ∙ ends_append behind bytes rest in
    let counted = terminators_behind behind bytes in
    let one = c.line_ends.ensures in
    let before = c.loop-bytes.invariant.3 in
    let sizes = ap length steps.1.0 ∙ length-append bytes rest in
    let size = ends_in_size behind bytes in
    let room = c.loop-bytes.invariant.4 in
    (search rules, tt, steps.0 ∙ c.loop-bytes.invariant.2, omega (arith, state, split, counted, one, before), omega (arith, sizes, room, counted, one, size))

pub returns-clause-count : goal.returns-clause-count
returns-clause-count c =
    let none = nil_from_length _ c.in-None.ensures.steps.1.0 in
    let counted = ap (λ rest. c.loop-bytes.count + ends_in c.loop-bytes.is_behind_return rest) (sym none) ∙ c.loop-bytes.invariant.3 in
    let all = terminators_bytes c.args.text.now c.utf8.text in
    omega (arith, counted, all)
