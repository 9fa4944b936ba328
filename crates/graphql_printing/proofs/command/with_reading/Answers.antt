use Rattle.std.proofs.Common.{ap, ap₂, ◌∙◌}
use Rattle.std.proofs.lemmas.Result.{IfOk-weaker}
use Rattle.clap.specs.Words.{app_of, with_rule}
use Rattle.graphql_printing.proofs.command.with_reading.Goals as goal

pub returns : goal.returns
returns c =
    IfOk-weaker c.arg-2.result _ _
    (λ made adds. adds.shape c.flag-allow.ensures.local
    ∙ ap₂ with_rule (c.in_ok-arg.ensures.shape c.flag-pass_over.ensures.local ∙ ap (with_rule (app_of c.args.command)) c.flag-pass_over.ensures.rule)
    c.flag-allow.ensures.rule)
    c.arg-2.ensures
