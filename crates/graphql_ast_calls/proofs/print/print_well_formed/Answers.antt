use Rattle.std.proofs.Common.{◌≤◌, ◌<◌, arith, length}
use Rattle.graphql_ast_calls.proofs.Prints.{holds_all, is_longer}
use Rattle.graphql_ast_calls.proofs.print.print_well_formed.Goals as goal

pub returns-then-count-out : goal.returns-then-count-out
returns-then-count-out g c =
    let fits : c.in-Ok.count ≤ length c.args.out.now = omega (arith, c.if-count-out.true, c.print_tree.auto.out) in
    record {
      printed = holds_all _ _ _ _ c.in-Ok.ensures.went fits c.print_tree.ensures.room;
      read = g.T.SyntaxTree.laws.reads_alone (g.T.SyntaxTree.tree c.args.tree.now) _ c.args.level c.requires.well_formed c.requires.blank;
    }

pub returns-else-count-out : goal.returns-else-count-out
returns-else-count-out g c =
    let lacks : length c.args.out.now < c.in-Ok.count = omega (arith, c.if-count-out.false, c.print_tree.auto.out) in
    let counted = c.in-Ok.ensures.went.counted in
    record {
      count = omega (arith, counted);
      room = is_longer _ _ _ _ c.in-Ok.ensures.went lacks;
      read = g.T.SyntaxTree.laws.reads_alone (g.T.SyntaxTree.tree c.args.tree.now) _ c.args.level c.requires.well_formed c.requires.blank;
    }
