use Rattle.std.proofs.Common.{arith}
use Rattle.graphql_ast.specs.DefinitionQueries.{operation_definition_of}
use Rattle.graphql_ast.proofs.FilteredLengths.{no_longer}
use Rattle.graphql_ast.proofs.document.Document.operations.Goals as goal

pub returns-clause-count : goal.returns-clause-count
returns-clause-count c =
    let vector = c.args.self.now.definitions in
    omega (arith, no_longer operation_definition_of c.as_slice.result.now, c.as_slice.ensures.len, vector.ok.1, vector.small)
