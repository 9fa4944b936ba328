use Rattle.std.proofs.Common.{◌≡◌, drop}
use Rattle.std.specs.List.{list_any}
use Rattle.graphql_ast.specs.AstStacks.{has_selections}
use Rattle.graphql_ast.specs.AstTrees.{definition_trees}
use Rattle.graphql_ast.proofs.document.print.selection_room.Given as goal

abbrev pub invariant-loop-definition : goal.invariant-loop-definition
invariant-loop-definition l =
    list_any (λ tree. has_selections tree.name) (definition_trees (drop l.definition-index l.definitions))
    ≡ list_any (λ tree. has_selections tree.name) (definition_trees l.definitions)
