use Rattle.std.proofs.Common.{◌++◌, ap, ◌∙◌}
use Rattle.std.specs.declared.alloc.AllocError.{AllocError}
use Rattle.graphql_text.specs.trees.Leaves.{name_trees}
use Rattle.graphql_operations.specs.Fragments.{spreads_at, spreads_of}
use Rattle.graphql_visit.specs.Visits.{nodes_of, one}
use Rattle.graphql_operations.specs.declared.spreads.Spreads.{Spreads}
use Rattle.graphql_visit.proofs.Collected.{collected}
use Rattle.graphql_operations.proofs.spreads.fragment_spreads.Goals as goal

pub returns : goal.returns
returns g c =
    let nodes = nodes_of (one g.T.Walked.visited (g.T.Walked.tree c.args.item.now)) in
    collected {S = Spreads} {E = AllocError} _ (λ spreads. name_trees spreads.names.items) spreads_at (λ node s t found. found) nodes _
    c.read.new.reader c.in_ok-read.ensures
    ∙ ap (λ names. name_trees names ++ spreads_of nodes) c.new.ensures.items
