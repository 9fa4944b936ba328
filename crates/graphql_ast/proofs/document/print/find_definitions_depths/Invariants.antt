use Rattle.std.proofs.Common.{◌≡◌, max, drop}
use Rattle.graphql_text.specs.parts.Greatest.{greatest}
use Rattle.graphql_text.specs.layout.Levels.{capped}
use Rattle.graphql_ast.specs.AstStacks.{definition_list_depth}
use Rattle.graphql_ast.specs.AstTrees.{definition_trees}
use Rattle.graphql_ast.specs.Definitions.{definition_kind}
use Rattle.graphql_ast.proofs.document.print.find_definitions_depths.Given as goal

abbrev pub invariant-loop-definition : goal.invariant-loop-definition
invariant-loop-definition l =
    let rest = definition_trees (drop l.definition-index l.definitions) in
    let all = definition_trees l.definitions in
    record {
      nesting : max l.most.nesting (greatest definition_kind.nesting rest) ≡ greatest definition_kind.nesting all;
      lists : max l.most.lists (capped (greatest definition_list_depth rest)) ≡ capped (greatest definition_list_depth all);
    }
