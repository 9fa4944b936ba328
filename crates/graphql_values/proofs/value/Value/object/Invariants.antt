use Rattle.std.proofs.Common.{◌≡◌, map}
use Rattle.graphql_values.specs.code.ValueQueries.{unlocated_field}
use Rattle.graphql_values.proofs.value.Value.object.Given as goal

abbrev pub invariant-loop-field : goal.invariant-loop-field
invariant-loop-field l = l.nodes.items ≡ map unlocated_field l.yielded
