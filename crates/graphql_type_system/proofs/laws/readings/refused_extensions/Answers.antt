use Rattle.std.proofs.Common.{refl}
use Rattle.graphql_text.proofs.examples.TextReadings.{parts_refuse}
use Rattle.graphql_type_system.specs.lemmas.Kinds.{enum_type_extension_part, input_object_type_extension_part}
use Rattle.graphql_type_system.specs.lemmas.Kinds.{interface_type_extension_part, object_type_extension_part, scalar_type_extension_part}
use Rattle.graphql_type_system.specs.lemmas.Kinds.{schema_extension_part, union_type_extension_part}
use Rattle.graphql_type_system.proofs.examples.TypeSystemReadings.{found}
use Rattle.graphql_type_system.proofs.laws.readings.refused_extensions.Goals as goal

pub returns-clause-schema_extensions : goal.returns-clause-schema_extensions
unfolding found
returns-clause-schema_extensions c = parts_refuse schema_extension_part _ refl

pub returns-clause-scalar_type_extensions : goal.returns-clause-scalar_type_extensions
unfolding found
returns-clause-scalar_type_extensions c = parts_refuse scalar_type_extension_part _ refl

pub returns-clause-object_type_extensions : goal.returns-clause-object_type_extensions
unfolding found
returns-clause-object_type_extensions c = parts_refuse object_type_extension_part _ refl

pub returns-clause-interface_type_extensions : goal.returns-clause-interface_type_extensions
unfolding found
returns-clause-interface_type_extensions c = parts_refuse interface_type_extension_part _ refl

pub returns-clause-union_type_extensions : goal.returns-clause-union_type_extensions
unfolding found
returns-clause-union_type_extensions c = parts_refuse union_type_extension_part _ refl

pub returns-clause-enum_type_extensions : goal.returns-clause-enum_type_extensions
unfolding found
returns-clause-enum_type_extensions c = parts_refuse enum_type_extension_part _ refl

pub returns-clause-input_object_type_extensions : goal.returns-clause-input_object_type_extensions
unfolding found
returns-clause-input_object_type_extensions c = parts_refuse input_object_type_extension_part _ refl
