use Rattle.std.proofs.Common.{arith}
use Rattle.std.proofs.lemmas.List.Sums.{count_by-le-length, length-filter}
use Rattle.graphql_ast.specs.DocumentQueries.{is_extension_named}
use Rattle.graphql_ast.proofs.document.Document.extensions_of.Goals as goal

pub returns-clause-count : goal.returns-clause-count
returns-clause-count c =
    let test = is_extension_named c.args.name.now in
    let nodes = c.as_slice.result.now in
    let vector = c.args.self.now.definitions in
    omega (arith, length-filter test nodes, count_by-le-length test nodes, c.as_slice.ensures.len, vector.ok.1, vector.small)
