use Rattle.std.proofs.Common.{◌+◌, ◌*◌, arith}
use Rattle.graphql_text.proofs.code.PaddedPieces.{front_by_length}
use Rattle.graphql_text.proofs.code.TwoSpaceBreaks.{is_two_space_comma_break}
use Rattle.graphql_text.proofs.ready_breaks.ReadyCommaBreakPadded.copy_to.Goals as goal

pub returns : goal.returns
returns c =
    let level = c.args.self.now.level in
    rw (c.copy_from_slice.ensures.after, c.as_bytes.ensures.value)
    (front_by_length (2 * level + 2) _ _ (omega (arith, c.args.self.now.fits)) (is_two_space_comma_break level c.args.self.now.fits))
