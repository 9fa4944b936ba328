use Rattle.std.proofs.Common.{refl}
use Rattle.graphql_text.proofs.examples.TextReadings.{parts_read}
use Rattle.graphql_type_system.specs.lemmas.Kinds.{enum_type_extension_part, input_object_type_extension_part}
use Rattle.graphql_type_system.specs.lemmas.Kinds.{interface_type_extension_part, object_type_extension_part, scalar_type_extension_part}
use Rattle.graphql_type_system.specs.lemmas.Kinds.{schema_extension_part, union_type_extension_part}
use Rattle.graphql_type_system.proofs.examples.TypeSystemReadings.{printed}
use Rattle.graphql_type_system.proofs.laws.readings.additions_are_read.Goals as goal

pub returns-clause-schema_extensions : goal.returns-clause-schema_extensions
unfolding printed
returns-clause-schema_extensions c = parts_read schema_extension_part _ refl

pub returns-clause-scalar_type_extensions : goal.returns-clause-scalar_type_extensions
unfolding printed
returns-clause-scalar_type_extensions c = parts_read scalar_type_extension_part _ refl

pub returns-clause-object_type_extensions : goal.returns-clause-object_type_extensions
unfolding printed
returns-clause-object_type_extensions c = parts_read object_type_extension_part _ refl

pub returns-clause-interface_type_extensions : goal.returns-clause-interface_type_extensions
unfolding printed
returns-clause-interface_type_extensions c = parts_read interface_type_extension_part _ refl

pub returns-clause-union_type_extensions : goal.returns-clause-union_type_extensions
unfolding printed
returns-clause-union_type_extensions c = parts_read union_type_extension_part _ refl

pub returns-clause-enum_type_extensions : goal.returns-clause-enum_type_extensions
unfolding printed
returns-clause-enum_type_extensions c = parts_read enum_type_extension_part _ refl

pub returns-clause-input_object_type_extensions : goal.returns-clause-input_object_type_extensions
unfolding printed
returns-clause-input_object_type_extensions c = parts_read input_object_type_extension_part _ refl
