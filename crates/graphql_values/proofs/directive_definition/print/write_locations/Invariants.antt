use Rattle.std.proofs.Common.{ℕ, List, Option, map, drop}
use Rattle.graphql_text.specs.code.Writing.{WritesBeginning}
use Rattle.graphql_values.specs.kinds.DirectiveDefinitions.{directive_locations_shape}
use Rattle.graphql_values.specs.trees.LocationTrees.{location_tree}
use Rattle.graphql_values.proofs.layout.LocationShapes.{further_locations}
use Rattle.graphql_values.proofs.directive_definition.print.write_locations.Given as goal

abbrev pub invariant-loop-location : goal.invariant-loop-location
invariant-loop-location g l =
    (mode : Option (List ℕ)) (level : ℕ) →
    WritesBeginning g.O.Target.wrote l.fn.out l.out mode level (directive_locations_shape (map location_tree l.locations)) level
    (further_locations (map location_tree (drop l.location-index l.rest)))
