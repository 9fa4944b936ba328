use Rattle.parsed_json.proofs.OpenJson.{leaf_refused}
use Rattle.parsed_json.proofs.parse.read_token.Goals as goal

pub returns-in-None : goal.returns-in-None
returns-in-None c =
    let not = c.in_default in
    leaf_refused c.args.opened.now.items c.args.token c.requires.open_within c.in-None.ensures not.not-BeginArray not.not-EndArray
    not.not-BeginObject not.not-EndObject not.not-Key
