use Rattle.std.proofs.Common.{◌≤◌, false, map, drop}
use Rattle.std.specs.Prelude.{None}
use Rattle.graphql_text.specs.code.Groups.{comma_rest}
use Rattle.graphql_text.specs.layout.Layout.{comma_group}
use Rattle.graphql_text.specs.code.Stack.{IsKept}
use Rattle.graphql_text.specs.lexical.Tokens.{lparen, rparen}
use Rattle.graphql_text.specs.code.Writing.{WritesBeginning}
use Rattle.graphql_values.specs.kinds.Arguments.{argument_items, arguments_nesting}
use Rattle.graphql_values.specs.trees.DirectiveTrees.{argument_trees}
use Rattle.graphql_values.proofs.argument.print.write_arguments.Given as goal

abbrev pub invariant-loop-argument : goal.invariant-loop-argument
invariant-loop-argument g l = record {
  nesting : arguments_nesting (argument_trees (drop l.argument-index l.rest)) ≤ arguments_nesting (argument_trees l.arguments);
  kept : IsKept l.fn.stack l.stack;
  written : WritesBeginning g.O.Target.wrote l.fn.out l.out None l.place.level
      (comma_group lparen rparen false (map argument_items (argument_trees l.arguments))) l.inner.level
      (comma_rest rparen false false (map argument_items (argument_trees (drop l.argument-index l.rest))));
}
