use Rattle.std.proofs.Common.{IfOk, map, string_bytes}
use Rattle.std.proofs.lemmas.Result.{IfOk-weaker}
use Rattle.clap.specs.Words.{HasMatchesOf, app_of}
use Rattle.graphql_printing.proofs.Arguments.{matched}
use Rattle.graphql_printing.proofs.words.matches_of.Goals as goal

pub returns : goal.returns
returns c =
    let parse = c.try_get_matches_from_mut in
    let app = app_of c.args.command.now in
    let words = map string_bytes c.args.words.now in
    let has : IfOk parse.result (HasMatchesOf app words) = IfOk-weaker parse.result _ _ (λ found is. is.2) parse.ensures.ok in
    matched app words parse.result c.requires has
