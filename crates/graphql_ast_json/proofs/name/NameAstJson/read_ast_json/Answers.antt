use Rattle.std.proofs.Common.{sym, subst₂}
use Rattle.ast_json_nodes.specs.nodes.Nodes.{IsName}
use Rattle.ast_json_nodes.proofs.general.PassedErrors.{turned}
use Rattle.graphql_ast_json.proofs.name.NameAstJson.read_ast_json.Goals as goal

pub returns-clause-err : goal.returns-clause-err
returns-clause-err c =
    turned c.read_json.result _ _
    (λ error none m name is. none m name (subst₂ (λ unknown json. IsName unknown name json) (sym c.of.ensures.unknown) (sym c.of.ensures.json) is))
    c.read_json.ensures.err
