-- Trees that the laws speak of as examples.
use Rattle.std.specs.Prelude.{List, [], ◌∷◌, codes, refl, Option, Some, None}
use Rattle.graphql_text.specs.parts.Descriptions.{Described}
use Rattle.graphql_text.specs.lexical.Literals.{NameText}
use Rattle.graphql_values.specs.kinds.Directives.{DirectiveTree}
use Rattle.graphql_values.specs.examples.ValueExamples.{bare_directive, int, list, named}
use Rattle.graphql_values.specs.kinds.InputValueDefinitions.{input_value_definition_kind}
use Rattle.graphql_values.specs.kinds.OperationTypes.{OperationTypeTree, Query, Mutation, Subscription}
use Rattle.graphql_values.specs.kinds.TypeReferences.{TypeTree, named_type, non_null_named_type, list_type, non_null_list_type}
use Rattle.graphql_values.specs.kinds.Values.{ValueTree}
use Rattle.graphql_type_system.specs.kinds.EnumTypes.{enum_type_body}
use Rattle.graphql_type_system.specs.kinds.EnumValueDefinitions.{enum_value_definition_kind}
use Rattle.graphql_type_system.specs.kinds.FieldDefinitions.{field_definition_kind}
use Rattle.graphql_type_system.specs.kinds.ImplementingTypes.{ImplementingTypeTree}
use Rattle.graphql_type_system.specs.kinds.InputObjectTypes.{input_object_type_body}
use Rattle.graphql_type_system.specs.kinds.ScalarTypes.{ScalarTypeTree}
use Rattle.graphql_type_system.specs.kinds.Schemas.{RootOperationTree, SchemaTree}
use Rattle.graphql_type_system.specs.kinds.UnionTypes.{UnionTypeTree}

-- what has no description, and what has the description `d`
abbrev pub plain : {Body : Type 0} → Body → Described Body
plain body = record { description = None; body = body }

abbrev pub with_description : {Body : Type 0} → Body → Described Body
with_description body = record { description = Some (record { text = codes "d"; valid = refl }); body = body }

-- the directive `@d`, as a list, and the names `A` and `B`
abbrev directive_d : List DirectiveTree
directive_d = bare_directive (codes "d") refl ∷ []

abbrev only_a : List NameText
only_a = named (codes "A") refl ∷ []

abbrev a_and_b : List NameText
a_and_b = named (codes "A") refl ∷ named (codes "B") refl ∷ []

-- the type `Int`
abbrev type_int : TypeTree
type_int = named_type (named (codes "Int") refl)

-- SCALAR TYPES

-- `scalar S` and `scalar S @d`
abbrev pub bare_scalar : ScalarTypeTree
bare_scalar = record { name = named (codes "S") refl; directives = [] }

abbrev pub scalar_with_directive : ScalarTypeTree
scalar_with_directive = record { name = named (codes "S") refl; directives = directive_d }

-- FIELDS

-- an input value of type `Int`
abbrev int_input : NameText → Option ValueTree → input_value_definition_kind.Tree
int_input name default_value = plain (record { name = name; type = type_int; default_value = default_value; directives = [] })

-- `a: Int = 1`
abbrev pub default_one : input_value_definition_kind.Tree
default_one = int_input (named (codes "a") refl) (Some (int (codes "1") refl))

-- `f: Int`
abbrev pub int_field : field_definition_kind.Tree
int_field = plain (record { name = named (codes "f") refl; arguments = []; type = type_int; directives = [] })

-- `"d" f(a: Int = 1): [String!]! @e`
abbrev pub described_field : field_definition_kind.Tree
described_field = with_description (record {
  name = named (codes "f") refl;
  arguments = default_one ∷ [];
  type = non_null_list_type (non_null_named_type (named (codes "String") refl));
  directives = bare_directive (codes "e") refl ∷ [];
})

-- `f(a: [Int] = [1] @x): Int`
abbrev pub field_over_lines : field_definition_kind.Tree
field_over_lines = plain (record {
  name = named (codes "f") refl;
  arguments = plain (record {
    name = named (codes "a") refl;
    type = list_type type_int;
    default_value = Some (list (int (codes "1") refl ∷ []));
    directives = bare_directive (codes "x") refl ∷ [];
  }) ∷ [];
  type = type_int;
  directives = [];
})

-- OBJECT TYPES AND INTERFACE TYPES

abbrev implementing : List NameText → List DirectiveTree → List field_definition_kind.Tree → ImplementingTypeTree
implementing interfaces directives fields =
    record { name = named (codes "T") refl; interfaces = interfaces; directives = directives; fields = fields }

-- `T`, and with one thing: `T implements A & B`, `T @d`, `T { f: Int }`
abbrev pub bare_type : ImplementingTypeTree
bare_type = implementing [] [] []

abbrev pub type_with_interfaces : ImplementingTypeTree
type_with_interfaces = implementing a_and_b [] []

abbrev pub type_with_directive : ImplementingTypeTree
type_with_directive = implementing [] directive_d []

abbrev pub type_with_field : ImplementingTypeTree
type_with_field = implementing [] [] (int_field ∷ [])

-- `T implements A & B @d { "d" f(a: Int = 1): [String!]! @e }`
abbrev pub type_with_all : ImplementingTypeTree
type_with_all = implementing a_and_b directive_d (described_field ∷ [])

-- UNION TYPES

abbrev union_of : List DirectiveTree → List NameText → UnionTypeTree
union_of directives members = record { name = named (codes "U") refl; directives = directives; members = members }

-- `U`, `U @d`, `U = A`, `U @d = A | B`
abbrev pub bare_union : UnionTypeTree
bare_union = union_of [] []

abbrev pub union_with_directive : UnionTypeTree
union_with_directive = union_of directive_d []

abbrev pub union_with_member : UnionTypeTree
union_with_member = union_of [] only_a

abbrev pub union_with_both : UnionTypeTree
union_with_both = union_of directive_d a_and_b

-- ENUM TYPES

-- `A`, and `B @e`
abbrev pub bare_value : enum_value_definition_kind.Tree
bare_value = plain (record { value = named (codes "A") refl; directives = [] })

abbrev pub value_with_directive : enum_value_definition_kind.Tree
value_with_directive = plain (record { value = named (codes "B") refl; directives = bare_directive (codes "e") refl ∷ [] })

abbrev enum_of : List DirectiveTree → List enum_value_definition_kind.Tree → enum_type_body.Tree
enum_of directives values = record { name = named (codes "E") refl; directives = directives; members = values }

-- `E`, `E @d`, `E { A }`, `E @d { A B @e }`
abbrev pub bare_enum : enum_type_body.Tree
bare_enum = enum_of [] []

abbrev pub enum_with_directive : enum_type_body.Tree
enum_with_directive = enum_of directive_d []

abbrev pub enum_with_value : enum_type_body.Tree
enum_with_value = enum_of [] (bare_value ∷ [])

abbrev pub enum_with_all : enum_type_body.Tree
enum_with_all = enum_of directive_d (bare_value ∷ value_with_directive ∷ [])

-- INPUT OBJECT TYPES

abbrev input_of : List DirectiveTree → List input_value_definition_kind.Tree → input_object_type_body.Tree
input_of directives fields = record { name = named (codes "I") refl; directives = directives; members = fields }

-- `I`, `I @d`, `I { a: Int = 1 }`, `I @d { a: Int = 1 b: Int }`
abbrev pub bare_input : input_object_type_body.Tree
bare_input = input_of [] []

abbrev pub input_with_directive : input_object_type_body.Tree
input_with_directive = input_of directive_d []

abbrev pub input_with_field : input_object_type_body.Tree
input_with_field = input_of [] (default_one ∷ [])

abbrev pub input_with_all : input_object_type_body.Tree
input_with_all = input_of directive_d (default_one ∷ int_input (named (codes "b") refl) None ∷ [])

-- SCHEMAS

abbrev root : OperationTypeTree → NameText → RootOperationTree
root operation_type type = record { operation_type = operation_type; type = type }

-- a schema of nothing, `schema @d`, `schema { subscription: S }`, `schema @d { query: Q mutation: M }`
abbrev pub empty_schema : SchemaTree
empty_schema = record { directives = []; root_operations = [] }

abbrev pub schema_with_directive : SchemaTree
schema_with_directive = record { directives = directive_d; root_operations = [] }

abbrev pub schema_with_operation : SchemaTree
schema_with_operation = record { directives = []; root_operations = root Subscription (named (codes "S") refl) ∷ [] }

abbrev pub schema_with_all : SchemaTree
schema_with_all =
    record { directives = directive_d; root_operations = root Query (named (codes "Q") refl) ∷ root Mutation (named (codes "M") refl) ∷ [] }
