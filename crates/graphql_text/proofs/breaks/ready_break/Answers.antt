use Rattle.std.proofs.Common.{◌≡◌, ap, codes, sym, ◌∙◌}
use Rattle.graphql_text.specs.layout.Layout.{break_text}
use Rattle.graphql_text.proofs.strings.StringsInUtf8.{break_in_chars}
use Rattle.graphql_text.proofs.breaks.ready_break.Goals as goal

pub returns-then-level-le-READY_LEVELS : goal.returns-then-level-le-READY_LEVELS
returns-then-level-le-READY_LEVELS c =
    let spaces : c.args.prefix.now ≡ codes "  " = c.requires c.if-is_two_spaces.true in
    c.new.ensures ∙ ap (λ prefix. break_text prefix c.args.level) (sym spaces) ∙ break_in_chars c.args.level c.args.prefix.now c.utf8.prefix
