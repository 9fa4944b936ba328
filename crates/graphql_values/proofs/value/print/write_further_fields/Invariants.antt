use Rattle.std.proofs.Common.{◌≤◌, false, length}
use Rattle.graphql_text.specs.code.Groups.{comma_rest}
use Rattle.graphql_text.specs.code.Place.{breaks, mode_of}
use Rattle.graphql_text.specs.code.Writing.{WritesBeginning}
use Rattle.graphql_text.specs.lexical.Tokens.{rbrace}
use Rattle.graphql_values.specs.kinds.Values.{object_fields_shapes, object_fields_nesting}
use Rattle.graphql_values.specs.trees.ValueTrees.{object_field_trees}
use Rattle.graphql_values.proofs.value.print.write_further_fields.Given as goal

abbrev pub invariant-loop-field : goal.invariant-loop-field
invariant-loop-field g l = let b = breaks l.fn.here in record {
  nesting : object_fields_nesting (object_field_trees l.rest) ≤ object_fields_nesting (object_field_trees l.fields);
  written : WritesBeginning g.O.Target.wrote l.fn.out l.out (mode_of l.fn.here.prefix) l.fn.here.level
      (comma_rest rbrace b false (object_fields_shapes b (object_field_trees l.fields))) l.fn.here.level
      (comma_rest rbrace b false (object_fields_shapes b (object_field_trees l.rest)));
}

abbrev pub decreases-loop-field : goal.decreases-loop-field
decreases-loop-field g l = length l.rest
