use Rattle.std.proofs.Common.{◌++◌, ap, ◌∙◌}
use Rattle.std.specs.declared.alloc.AllocError.{AllocError}
use Rattle.graphql_text.specs.trees.Leaves.{name_trees}
use Rattle.graphql_visit.specs.Variables.{variables_at, variables_of}
use Rattle.graphql_visit.specs.Visits.{nodes_of, one}
use Rattle.graphql_visit.specs.declared.variables.Variables.{Variables}
use Rattle.graphql_visit.proofs.Collected.{collected}
use Rattle.graphql_visit.proofs.variables.used_variables.Goals as goal

pub returns : goal.returns
returns g c =
    let nodes = nodes_of (one g.T.Walked.visited (g.T.Walked.tree c.args.item.now)) in
    collected {S = Variables} {E = AllocError} _ (λ variables. name_trees variables.names.items) variables_at (λ node s t found. found) nodes _
    c.read.new.reader c.in_ok-read.ensures
    ∙ ap (λ names. name_trees names ++ variables_of nodes) c.new.ensures.items
