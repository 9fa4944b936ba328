use Rattle.std.proofs.Common.{drop}
use Rattle.graphql_text.specs.parts.Greatest.{greatest}
use Rattle.graphql_text.specs.layout.Layout.{is_broken, is_front}
use Rattle.graphql_text.specs.code.Place.{mode_of}
use Rattle.graphql_text.specs.code.Writing.{WritesBeginning}
use Rattle.graphql_ast.specs.AstStacks.{CanWriteAst, definition_list_depth, selection_depth}
use Rattle.graphql_ast.specs.AstTrees.{definition_trees}
use Rattle.graphql_ast.specs.Definitions.{definition_kind}
use Rattle.graphql_ast.specs.Documents.{document_shape, more_definitions_shape}
use Rattle.graphql_ast.proofs.document.print.write_definitions.Given as goal

abbrev pub invariant-loop-definition : goal.invariant-loop-definition
invariant-loop-definition g l =
    let mode = mode_of l.place.prefix in
    let rest = definition_trees (drop l.definition-index l.rest) in
    record {
      ready : CanWriteAst l.place l.stacks (greatest definition_kind.nesting rest) (greatest definition_list_depth rest) (greatest selection_depth rest);
      written : WritesBeginning g.O.Target.wrote l.fn.out l.out mode l.place.level
          (document_shape (is_broken mode) (is_front mode l.place.level) (definition_trees l.definitions)) l.place.level
          (more_definitions_shape (is_broken mode) rest);
    }
