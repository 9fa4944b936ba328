use Rattle.std.proofs.Common.{◌≡◌, map, None}
use Rattle.graphql_base.specs.Node.{node_at}
use Rattle.graphql_values.proofs.value.Value.list.Given as goal

abbrev pub invariant-loop-item : goal.invariant-loop-item
invariant-loop-item l = l.nodes.items ≡ map (node_at None) l.yielded
