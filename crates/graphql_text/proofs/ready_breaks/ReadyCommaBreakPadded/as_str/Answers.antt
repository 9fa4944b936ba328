use Rattle.std.proofs.Common.{◌∙◌}
use Rattle.graphql_text.proofs.code.TwoSpaceBreaks.{from_front, is_two_space_comma_break, comma_break_boundary}
use Rattle.graphql_text.proofs.ready_breaks.ReadyCommaBreakPadded.as_str.Goals as goal

pub range-requires-clause-end_boundary : goal.range-requires-clause-end_boundary
range-requires-clause-end_boundary c = comma_break_boundary c.args.self.now.level c.args.self.now.fits

pub returns : goal.returns
returns c = c.range.ensures.value ∙ from_front _ _ ∙ is_two_space_comma_break c.args.self.now.level c.args.self.now.fits
