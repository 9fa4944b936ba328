use Rattle.std.proofs.Common.{refl}
use Rattle.std.specs.List.{flat_map}
use Rattle.graphql_text.proofs.kinds.FlawsTold.{found_behind_part, found_in_part}
use Rattle.graphql_ast.specs.AstTrees.{definition_tree, definition_trees}
use Rattle.graphql_ast.specs.Definitions.{definition_kind}
use Rattle.graphql_ast.proofs.document.print.find_ill_formed_definition.Goals as goal

pub returns-in-Some : goal.returns-in-Some
returns-in-Some c =
    found_in_part (λ definition. definition_kind.flaws (definition_tree definition))
    (λ definitions. flat_map definition_kind.flaws (definition_trees definitions))
    (λ part more. refl) c.args.definitions.now c.loop-definition.definition-index c.definition-item.result c.loop-definition-test.true c.definition-item.is
    c.loop-definition.invariant c.find_ill_formed.result c.in-Some.found c.find_ill_formed.ensures c.in-Some.is

pub loop-definition-preserved : goal.loop-definition-preserved
loop-definition-preserved c =
    found_behind_part (λ definition. definition_kind.flaws (definition_tree definition))
    (λ definitions. flat_map definition_kind.flaws (definition_trees definitions))
    (λ part more. refl) c.args.definitions.now c.loop-definition.definition-index c.definition-item.result c.loop-definition-test.true c.definition-item.is
    c.loop-definition.invariant c.find_ill_formed.result c.find_ill_formed.ensures c.in_default.is
