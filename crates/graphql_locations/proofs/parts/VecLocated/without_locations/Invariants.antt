use Rattle.std.proofs.Common.{◌≡◌, []}
use Rattle.graphql_locations.specs.Leaves.{list_locations}
use Rattle.graphql_locations.proofs.PartsStripped.{IsMadeUpTo}
use Rattle.graphql_locations.proofs.parts.VecLocated.without_locations.Given as goal

abbrev pub invariant-loop-part : goal.invariant-loop-part
invariant-loop-part g l = record {
  trees : IsMadeUpTo g.T.Located.tree l.self.items l.part-index l.made.items;
  locations : list_locations g.T.Located.locations l.made.items ≡ [];
}
