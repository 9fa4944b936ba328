use Rattle.std.proofs.Common.{refl}
use Rattle.std.proofs.Math.Utf8.{encode}
use Rattle.graphql_text.specs.layout.Layout.{text_of_items, each_after, flat}
use Rattle.graphql_values.specs.kinds.TypeReferences.{type_shape}
use Rattle.graphql_executable.specs.kinds.OperationDefinitions.{operation_shape}
use Rattle.graphql_executable.specs.kinds.SelectionHeads.{field_head_shape}
use Rattle.graphql_executable.specs.kinds.Selections.{selection_shape}
use Rattle.graphql_executable.proofs.laws.readings.worked_layouts.Goals as goal

pub returns-clause-described_variable_broken : goal.returns-clause-described_variable_broken
unfolding encode text_of_items each_after flat type_shape operation_shape field_head_shape selection_shape
returns-clause-described_variable_broken c = refl
