use Rattle.std.proofs.Common.{rules, tests}
use Rattle.std.proofs.lemmas.Iterator.Consumers.{YieldsList-from_first}
use Rattle.std.proofs.lemmas.Iterator.Search.{find_from_yields_List}
use Rattle.graphql_ast.specs.DocumentQueries.{fragments_left, is_fragment_named}
use Rattle.graphql_ast.proofs.document.Document.fragment.Goals as goal

pub returns : goal.returns
returns c =
    let all = YieldsList-from_first (λ x. x.now) fragments_left _ c.fragments.ensures.all in
    find_from_yields_List (is_fragment_named c.args.name.now) c.find.new.self _ c.find.result c.find.ensures.ran all (λ x b q k. search (rules, tests))
