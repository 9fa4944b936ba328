use Rattle.std.proofs.Common.{refl}
use Rattle.graphql_text.proofs.kinds.PrintedKinds.{printed_kind}
use Rattle.graphql_type_system.proofs.TypeSystemEquality as equality
use Rattle.graphql_type_system.specs.contracts.schema.SchemaDefinitionHash.TheImpl.Laws as schema_definition
use Rattle.graphql_type_system.specs.contracts.scalar_type.ScalarTypeDefinitionHash.TheImpl.Laws as scalar_type_definition
use Rattle.graphql_type_system.specs.contracts.object_type.ObjectTypeDefinitionHash.TheImpl.Laws as object_type_definition
use Rattle.graphql_type_system.specs.contracts.interface_type.InterfaceTypeDefinitionHash.TheImpl.Laws as interface_type_definition
use Rattle.graphql_type_system.specs.contracts.union_type.UnionTypeDefinitionHash.TheImpl.Laws as union_type_definition
use Rattle.graphql_type_system.specs.contracts.enum_type.EnumTypeDefinitionHash.TheImpl.Laws as enum_type_definition
use Rattle.graphql_type_system.specs.contracts.input_object_type.InputObjectTypeDefinitionHash.TheImpl.Laws as input_object_type_definition
use Rattle.graphql_type_system.specs.contracts.field_definition.FieldDefinitionHash.TheImpl.Laws as field_definition
use Rattle.graphql_type_system.specs.contracts.enum_value_definition.EnumValueDefinitionHash.TheImpl.Laws as enum_value_definition
use Rattle.graphql_type_system.specs.contracts.schema.SchemaExtensionHash.TheImpl.Laws as schema_extension
use Rattle.graphql_type_system.specs.contracts.scalar_type.ScalarTypeExtensionHash.TheImpl.Laws as scalar_type_extension
use Rattle.graphql_type_system.specs.contracts.object_type.ObjectTypeExtensionHash.TheImpl.Laws as object_type_extension
use Rattle.graphql_type_system.specs.contracts.interface_type.InterfaceTypeExtensionHash.TheImpl.Laws as interface_type_extension
use Rattle.graphql_type_system.specs.contracts.union_type.UnionTypeExtensionHash.TheImpl.Laws as union_type_extension
use Rattle.graphql_type_system.specs.contracts.enum_type.EnumTypeExtensionHash.TheImpl.Laws as enum_type_extension
use Rattle.graphql_type_system.specs.contracts.input_object_type.InputObjectTypeExtensionHash.TheImpl.Laws as input_object_type_extension
use Rattle.graphql_type_system.specs.lemmas.Bodies.{enum_value_definition_part, field_definition_part}
use Rattle.graphql_type_system.specs.lemmas.Kinds as kinds
use Rattle.graphql_type_system.proofs.laws.printed_kinds.Goals as goal

pub returns-clause-schema_definitions : goal.returns-clause-schema_definitions
returns-clause-schema_definitions c =
    printed_kind kinds.schema_definition_part
    (λ broken front tree. refl) kinds.schema_definition_laws equality.schema_definitions_decide schema_definition.respects_eq-law

pub returns-clause-scalar_type_definitions : goal.returns-clause-scalar_type_definitions
returns-clause-scalar_type_definitions c =
    printed_kind kinds.scalar_type_definition_part
    (λ broken front tree. refl) kinds.scalar_type_definition_laws equality.scalar_type_definitions_decide scalar_type_definition.respects_eq-law

pub returns-clause-object_type_definitions : goal.returns-clause-object_type_definitions
returns-clause-object_type_definitions c =
    printed_kind kinds.object_type_definition_part
    (λ broken front tree. refl) kinds.object_type_definition_laws equality.object_type_definitions_decide object_type_definition.respects_eq-law

pub returns-clause-interface_type_definitions : goal.returns-clause-interface_type_definitions
returns-clause-interface_type_definitions c =
    printed_kind kinds.interface_type_definition_part
    (λ broken front tree. refl) kinds.interface_type_definition_laws equality.interface_type_definitions_decide interface_type_definition.respects_eq-law

pub returns-clause-union_type_definitions : goal.returns-clause-union_type_definitions
returns-clause-union_type_definitions c =
    printed_kind kinds.union_type_definition_part
    (λ broken front tree. refl) kinds.union_type_definition_laws equality.union_type_definitions_decide union_type_definition.respects_eq-law

pub returns-clause-enum_type_definitions : goal.returns-clause-enum_type_definitions
returns-clause-enum_type_definitions c =
    printed_kind kinds.enum_type_definition_part
    (λ broken front tree. refl) kinds.enum_type_definition_laws equality.enum_type_definitions_decide enum_type_definition.respects_eq-law

pub returns-clause-input_object_type_definitions : goal.returns-clause-input_object_type_definitions
returns-clause-input_object_type_definitions c =
    printed_kind kinds.input_object_type_definition_part
    (λ broken front tree. refl) kinds.input_object_type_definition_laws equality.input_object_type_definitions_decide
    input_object_type_definition.respects_eq-law

pub returns-clause-field_definitions : goal.returns-clause-field_definitions
returns-clause-field_definitions c =
    printed_kind field_definition_part (λ broken front tree. refl)
    kinds.field_definition_laws equality.field_definitions_decide field_definition.respects_eq-law

pub returns-clause-enum_value_definitions : goal.returns-clause-enum_value_definitions
returns-clause-enum_value_definitions c =
    printed_kind enum_value_definition_part
    (λ broken front tree. refl) kinds.enum_value_definition_laws equality.enum_value_definitions_decide enum_value_definition.respects_eq-law

pub returns-clause-schema_extensions : goal.returns-clause-schema_extensions
returns-clause-schema_extensions c =
    printed_kind kinds.schema_extension_part (λ broken front tree. refl)
    kinds.schema_extension_laws equality.schema_extensions_decide schema_extension.respects_eq-law

pub returns-clause-scalar_type_extensions : goal.returns-clause-scalar_type_extensions
returns-clause-scalar_type_extensions c =
    printed_kind kinds.scalar_type_extension_part
    (λ broken front tree. refl) kinds.scalar_type_extension_laws equality.scalar_type_extensions_decide scalar_type_extension.respects_eq-law

pub returns-clause-object_type_extensions : goal.returns-clause-object_type_extensions
returns-clause-object_type_extensions c =
    printed_kind kinds.object_type_extension_part
    (λ broken front tree. refl) kinds.object_type_extension_laws equality.object_type_extensions_decide object_type_extension.respects_eq-law

pub returns-clause-interface_type_extensions : goal.returns-clause-interface_type_extensions
returns-clause-interface_type_extensions c =
    printed_kind kinds.interface_type_extension_part
    (λ broken front tree. refl) kinds.interface_type_extension_laws equality.interface_type_extensions_decide interface_type_extension.respects_eq-law

pub returns-clause-union_type_extensions : goal.returns-clause-union_type_extensions
returns-clause-union_type_extensions c =
    printed_kind kinds.union_type_extension_part
    (λ broken front tree. refl) kinds.union_type_extension_laws equality.union_type_extensions_decide union_type_extension.respects_eq-law

pub returns-clause-enum_type_extensions : goal.returns-clause-enum_type_extensions
returns-clause-enum_type_extensions c =
    printed_kind kinds.enum_type_extension_part
    (λ broken front tree. refl) kinds.enum_type_extension_laws equality.enum_type_extensions_decide enum_type_extension.respects_eq-law

pub returns-clause-input_object_type_extensions : goal.returns-clause-input_object_type_extensions
returns-clause-input_object_type_extensions c =
    printed_kind kinds.input_object_type_extension_part
    (λ broken front tree. refl) kinds.input_object_type_extension_laws equality.input_object_type_extensions_decide input_object_type_extension.respects_eq-law
