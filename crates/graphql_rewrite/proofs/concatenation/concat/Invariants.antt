use Rattle.std.proofs.Common.{◌≡◌}
use Rattle.std.specs.List.{flat_map}
use Rattle.graphql_rewrite.specs.Concatenations.{joined_sources}
use Rattle.graphql_rewrite.proofs.concatenation.concat.Given as goal

abbrev pub invariant-loop-document : goal.invariant-loop-document
invariant-loop-document l = record {
  definitions : l.all.definitions.items ≡ flat_map (λ document. document.definitions.items) l.yielded;
  sources : l.all.sources.entries ≡ joined_sources l.yielded;
}
