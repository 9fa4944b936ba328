use Rattle.std.proofs.Common.{[], ◌∷◌, ◌∙◌, Some, ap, refl, sym}
use Rattle.graphql_text.specs.layout.Layout.{Space}
use Rattle.graphql_text.proofs.code.WritingSteps.{writes_then}
use Rattle.graphql_values.specs.trees.LocationTrees.{operation_type_tree}
use Rattle.graphql_values.specs.kinds.OperationTypes.{operation_type_shape}
use Rattle.graphql_executable.specs.kinds.OperationDefinitions.{operation_shape}
use Rattle.graphql_executable.specs.kinds.VariableDefinitions.{wants_lines}
use Rattle.graphql_values.specs.lemmas.OperationTypes.{operation_type_fixed}
use Rattle.graphql_executable.proofs.operation_definition.print.OperationDefinitionWrittenExecutableStacks.write_at.Goals as goal

pub returns-clause-written : goal.returns-clause-written
unfolding operation_shape
returns-clause-written g c =
    let more = g.met.O.Target.more in
    let tree = operation_type_tree c.args.self.now.operation_type in
    let description = rw c.as_ref.ensures.value at c.write_leading_description.ensures in
    let type = c.write_words.ensures.items _ _ (operation_type_shape tree) (operation_type_fixed tree ∙ ap Some (sym c.name.ensures)) in
    let name = rw c.as_ref-2.ensures.value at c.write_operation_name.ensures _ _ in
    let wants = rw c.deref-2.ensures.value at c.some_variables_want_lines.ensures in
    let parameters = rw c.deref.ensures.value at c.write_parameters.ensures.written in
    let variables = parameters wants_lines wants in
    let set = rw c.deref-3.ensures.value at c.write_selection_set.ensures.written in
    let spaced = writes_then more {xs = Space ∷ []} (c.write_words-2.ensures.items _ _ _ refl) set in
    writes_then more description (writes_then more type
    (writes_then more name (writes_then more variables (writes_then more c.write_optional_directives.ensures.written spaced))))
