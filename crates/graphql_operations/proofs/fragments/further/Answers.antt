use Rattle.std.proofs.Common.{refl}
use Rattle.graphql_text.specs.trees.Leaves.{name_trees}
use Rattle.graphql_operations.proofs.Reached.{begins_further, found_on}
use Rattle.graphql_operations.proofs.fragments.further.Goals as goal

pub loop-definition-preserved : goal.loop-definition-preserved
loop-definition-preserved c =
    let names = c.args.names.items in
    let all = c.loop-definition.all.items in
    record {
      count = c.loop-definition.invariant.count;
      begins = begins_further names all c.in_ok-all.all.items c.loop-definition.invariant.begins c.in_ok-all.ensures.begins;
      found = found_on (name_trees names) c.args.definitions.now names all c.in_ok-all.all.items c.len-count.result c.loop-definition.definition-index
          c.definition-item.result c.loop-definition-test.true c.definition-item.is refl c.loop-definition.invariant.begins
          c.loop-definition.invariant.count c.in_ok-all.ensures.same c.loop-definition.invariant.found;
    }
