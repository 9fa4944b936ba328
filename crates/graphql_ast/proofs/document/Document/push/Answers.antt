use Rattle.std.proofs.Common.{sym}
use Rattle.graphql_ast.proofs.document.Document.push.Goals as goal

pub returns-clause-ok : goal.returns-clause-ok
returns-clause-ok g c = rw (sym c.in_ok-node.ensures) c.push_node.ensures.ok
