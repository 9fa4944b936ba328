use Rattle.std.proofs.Common.{arith}
use Rattle.std.proofs.lemmas.List.Sums.{count_by-le-length, length-filter}
use Rattle.graphql_values.specs.code.Queries.{is_directive_named}
use Rattle.graphql_values.proofs.directive_list.DirectiveList.get_all.Goals as goal

pub returns-clause-count : goal.returns-clause-count
returns-clause-count c =
    let test = is_directive_named c.args.name.now in
    let nodes = c.as_slice.result.now in
    let vector = c.args.self.now.0 in
    omega (arith, length-filter test nodes, count_by-le-length test nodes, c.as_slice.ensures.len, vector.ok.1, vector.small)
