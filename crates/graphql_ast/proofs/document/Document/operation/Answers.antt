use Rattle.std.proofs.Common.{rules, tests}
use Rattle.std.proofs.lemmas.Iterator.Consumers.{YieldsList-from_first}
use Rattle.std.proofs.lemmas.Iterator.Search.{find_from_yields_List}
use Rattle.std.specs.Option.{option_copied}
use Rattle.graphql_ast.specs.DocumentQueries.{is_operation_named, operations_left}
use Rattle.graphql_ast.proofs.document.Document.operation.Goals as goal

pub returns : goal.returns
returns c =
    let all = YieldsList-from_first (λ x. x.now) operations_left _ c.operations.ensures.all in
    let test = is_operation_named (option_copied c.args.name) in
    find_from_yields_List test c.find.new.self _ c.find.result c.find.ensures.ran all (λ x b q k. search (rules, tests))
