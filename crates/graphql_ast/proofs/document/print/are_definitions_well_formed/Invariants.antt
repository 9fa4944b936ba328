use Rattle.std.proofs.Common.{◌≡◌, drop}
use Rattle.std.specs.List.{list_all}
use Rattle.graphql_ast.specs.AstTrees.{definition_trees}
use Rattle.graphql_ast.specs.Definitions.{definition_kind}
use Rattle.graphql_ast.proofs.document.print.are_definitions_well_formed.Given as goal

abbrev pub invariant-loop-definition : goal.invariant-loop-definition
invariant-loop-definition l =
    list_all definition_kind.obeys (definition_trees (drop l.definition-index l.definitions)) ≡ list_all definition_kind.obeys (definition_trees l.definitions)
