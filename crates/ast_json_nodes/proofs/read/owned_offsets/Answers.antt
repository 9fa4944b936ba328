use Rattle.std.proofs.Common.{rules}
use Rattle.ast_json_nodes.proofs.nodes.TwoOffsets.{are_offsets}
use Rattle.ast_json_nodes.proofs.read.owned_offsets.Goals as goal

pub returns-in_ok-as_u64-2 : goal.returns-in_ok-as_u64-2
returns-in_ok-as_u64-2 c =
    let first = c.in_ok-first in
    let last = c.in_ok-last in
    are_offsets c.args.members.now.entries first.first.now last.last.now first.end.now last.start.now c.in_ok-as_u64.field-0 c.in_ok-as_u64-2.field-0
    (search rules) first.ensures.first last.ensures.last (search rules) (search rules) c.in_ok-as_u64-2.ensures c.in_ok-as_u64.ensures
