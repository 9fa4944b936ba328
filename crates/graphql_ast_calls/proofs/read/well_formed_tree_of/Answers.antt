use Rattle.std.proofs.Common.{◌≡◌, false, ◌∙◌}
use Rattle.ast_json_nodes.specs.code.JsonNodes.{node_data}
use Rattle.graphql_ast_calls.specs.Answers.{IsJsonOf}
use Rattle.graphql_ast_calls.proofs.FlawedTrees.{has_first, told}
use Rattle.graphql_ast_calls.proofs.read.well_formed_tree_of.Goals as goal

pub returns-clause-err : goal.returns-clause-err
returns-clause-err g c json text =
    let unknown = c.args.node.unknown in
    let Is = g.T.AstJson.is_json_of in
    let parsed = node_data c.args.node in
    let found = rw c.in-IllFormed.is at c.in-Err.ensures.ill_formed in
    let tree = g.T.AstJson.tree found.0 in
    let of_json : IsJsonOf (Is unknown) json tree =
    record {
      parsed = parsed;
      text = text;
      is = found.1;
      alone = λ other o. g.met.T.AstJson.laws.one_tree unknown other tree parsed o found.1;
    } in
    let breaks : g.T.SyntaxTree.kind.obeys (g.T.SyntaxTree.tree found.0) ≡ false =
    g.T.SyntaxTree.laws.tells (g.T.SyntaxTree.tree found.0) ∙ has_first (g.T.SyntaxTree.kind.flaws (g.T.SyntaxTree.tree found.0)) _ found.2 in
    told (Is unknown) g.T.AstJson.tree (λ value. g.T.SyntaxTree.kind.obeys (g.T.SyntaxTree.tree value))
    json c.ill_formed.result c.ill_formed.ensures
    found.0 of_json breaks
