use Rattle.std.proofs.Common.{◌≤◌, drop}
use Rattle.graphql_text.specs.parts.Greatest.{greatest}
use Rattle.graphql_text.specs.code.Groups.{comma_rest}
use Rattle.graphql_text.specs.layout.Layout.{comma_group, is_broken}
use Rattle.graphql_text.specs.trees.Leaves.{node_trees}
use Rattle.graphql_text.specs.parts.Parentheses.{parentheses_nesting}
use Rattle.graphql_text.specs.code.Place.{mode_of}
use Rattle.graphql_text.specs.lexical.Tokens.{lparen, rparen}
use Rattle.graphql_text.specs.code.Writing.{WritesBeginning}
use Rattle.graphql_values.specs.code.Stacks.{AreKept}
use Rattle.graphql_values.proofs.layout.ParameterGroups.{shapes}
use Rattle.graphql_values.proofs.parameters.write_parameter_group.Given as goal

abbrev pub invariant-loop-parameter : goal.invariant-loop-parameter
invariant-loop-parameter g l =
    let mode = mode_of l.place.prefix in
    let broken = is_broken mode in
    let kind = g.P.SyntaxTree.kind in
    let all = node_trees g.P.SyntaxTree.tree l.parameters in
    let rest = node_trees g.P.SyntaxTree.tree (drop l.parameter-index l.parameters) in
    record {
      nesting : parentheses_nesting kind.nesting rest ≤ parentheses_nesting kind.nesting all;
      depth : greatest g.P.SyntaxTree.list_depth rest ≤ greatest g.P.SyntaxTree.list_depth all;
      kept : AreKept l.fn.stacks l.stacks;
      written : WritesBeginning g.O.Target.wrote l.fn.out l.out mode l.place.level
          (comma_group lparen rparen broken (shapes kind broken all)) l.inner.level (comma_rest rparen broken l.is_first (shapes kind broken rest));
    }
