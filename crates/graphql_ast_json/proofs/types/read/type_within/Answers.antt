use Rattle.std.proofs.Common.{IsSomeAnd, Option, subst}
use Rattle.serde_json.specs.Data.{Data}
use Rattle.ast_json_nodes.specs.code.NodeReading.{TellsKind}
use Rattle.graphql_ast_json.proofs.types.read.type_within.Goals as goal

pub returns-in-Err-clause-err : goal.returns-in-Err-clause-err
returns-in-Err-clause-err c refused is =
    c.in-Err.ensures.err (λ m. refused (c.within.ensures.memory m))
    (subst (λ (found : Option Data). IsSomeAnd found (TellsKind c.args.node.unknown)) c.in_ok-json.ensures.ok is.1)
