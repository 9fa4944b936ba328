use Rattle.std.proofs.Common.{rules}
use Rattle.graphql_locations.proofs.ValuesStripped.{string_made}
use Rattle.graphql_locations.proofs.values.+values.Goals as goal

pub strip_value-returns-in_ok-clone-in-String-clause-tree : goal.strip_value-returns-in_ok-clone-in-String-clause-tree
strip_value-returns-in_ok-clone-in-String-clause-tree t c =
    string_made c.args.value.now c.in-String.text c.in_ok-clone-in-String.field-0 c.in-String.is (search (c.in_ok-clone-in-String.ensures.cases, rules))
