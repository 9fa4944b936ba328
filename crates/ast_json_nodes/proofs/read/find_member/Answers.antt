use Rattle.std.proofs.Common.{◌<◌, IfSome, Option, sym, subst}
use Rattle.serde_json.specs.Data.{Data, depth}
use Rattle.parsed_json.specs.AnyJson.{any_data}
use Rattle.ast_json_nodes.proofs.nodes.JsonDepths.{get-depth}
use Rattle.ast_json_nodes.proofs.read.find_member.Goals as goal

pub returns-else-is_null-clause-inside : goal.returns-else-is_null-clause-inside
returns-else-is_null-clause-inside c =
    let json = any_data c.args.json in
    subst (λ (found : Option Data). IfSome found (λ inner. depth inner < depth json)) (sym c.in-Some.ensures) (get-depth c.args.name.now json)
