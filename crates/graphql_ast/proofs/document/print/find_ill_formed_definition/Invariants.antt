use Rattle.std.proofs.Common.{◌≡◌, drop}
use Rattle.std.specs.List.{flat_map}
use Rattle.graphql_text.specs.kinds.Flaws.{first_flaw}
use Rattle.graphql_ast.specs.AstTrees.{definition_trees}
use Rattle.graphql_ast.specs.Definitions.{definition_kind}
use Rattle.graphql_ast.proofs.document.print.find_ill_formed_definition.Given as goal

abbrev pub invariant-loop-definition : goal.invariant-loop-definition
invariant-loop-definition l =
    first_flaw (flat_map definition_kind.flaws (definition_trees (drop l.definition-index l.definitions)))
    ≡ first_flaw (flat_map definition_kind.flaws (definition_trees l.definitions))
