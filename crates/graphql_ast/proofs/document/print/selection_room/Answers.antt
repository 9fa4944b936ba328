use Rattle.std.proofs.Common.{arith, drop_of_length-le, sym}
use Rattle.graphql_ast.specs.AstTrees.{definition_trees}
use Rattle.graphql_ast.proofs.DocumentShapes.{no_selections_within, selections_within}
use Rattle.graphql_ast.proofs.document.print.selection_room.Goals as goal

pub returns-then-has_selections-clause-enough : goal.returns-then-has_selections-clause-enough
returns-then-has_selections-clause-enough c = omega (arith, c.requires, selections_within (definition_trees c.args.definitions.now))

pub returns-clause-enough : goal.returns-clause-enough
returns-clause-enough c =
    let none = rw (drop_of_length-le c.args.definitions.now c.loop-definition-test.false) at c.loop-definition.invariant in
    omega (arith, no_selections_within (definition_trees c.args.definitions.now) (sym none))
