use Rattle.std.proofs.Common.{◌∙◌}
use Rattle.parsed_json.proofs.OpenJson.{innermost_is}
use Rattle.parsed_json.proofs.parse.innermost_takes_value.Goals as goal

pub returns-in-Some : goal.returns-in-Some
returns-in-Some c =
    let found = c.in-Some.ensures.item in
    c.takes_value.ensures ∙ innermost_is c.args.opened.now c.in-Some.innermost.now found.3.0 found.1
