use Rattle.std.proofs.Common.{◌≡◌}
use Rattle.graphql_values.specs.trees.TypeTrees.{type_wrapping}
use Rattle.graphql_values.proofs.types.Type.inner_named_type.Given as goal

abbrev pub invariant-loop-ty : goal.invariant-loop-ty
invariant-loop-ty l = (type_wrapping l.ty).base ≡ (type_wrapping l.self).base
