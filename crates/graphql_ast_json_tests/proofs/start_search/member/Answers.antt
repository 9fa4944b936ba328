use Rattle.std.proofs.Common.{◌<◌, IfSome, Option, sym, subst}
use Rattle.serde_json.specs.Data.{Data, depth}
use Rattle.serde_json.specs.View.{view}
use Rattle.ast_json_nodes.proofs.nodes.JsonDepths.{get-depth}
use Rattle.graphql_ast_json_tests.proofs.start_search.member.Goals as goal

pub returns-else-is_null : goal.returns-else-is_null
returns-else-is_null c =
    let json = view c.args.json.now in
    record {
      inside = subst (λ (found : Option Data). IfSome found (λ inner. depth inner < depth json)) (sym c.in-Some.ensures)
          (get-depth c.args.name.now json);
    }
