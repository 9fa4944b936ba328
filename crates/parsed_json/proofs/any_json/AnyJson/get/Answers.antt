use Rattle.std.proofs.Common.{option_map, sym, ap, ◌∙◌}
use Rattle.json.specs.Value.{value_view}
use Rattle.serde_json.specs.Find.{get}
use Rattle.parsed_json.specs.AnyJson.{any_data}
use Rattle.parsed_json.specs.ParsedJson.{data_of}
use Rattle.parsed_json.proofs.ParsedMembers.{found}
use Rattle.parsed_json.proofs.any_json.AnyJson.get.Goals as goal

pub returns-in-Some-get : goal.returns-in-Some-get
returns-in-Some-get c =
    let name = c.args.name.now in
    let j = value_view c.in-Parsed.json.now in
    ap (option_map data_of) c.in-Some-get.ensures ∙ sym (found name j) ∙ ap (λ v. get name (any_data v)) (sym c.in-Parsed.is)

pub returns-in-None-get : goal.returns-in-None-get
returns-in-None-get c =
    let name = c.args.name.now in
    let j = value_view c.in-Parsed.json.now in
    ap (option_map data_of) c.in-None-get.ensures ∙ sym (found name j) ∙ ap (λ v. get name (any_data v)) (sym c.in-Parsed.is)
