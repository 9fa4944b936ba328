-- Lemmas, no definitions of the product: each body as a part, put together of its parts.
use Rattle.std.proofs.Common.{ℕ, arith, refl, ◌≡◌, ap, Bool, true, false, ◌&&◌, List, [], ◌∷◌, codes}
use Rattle.std.specs.List.{list_all}
use Rattle.graphql_base.specs.Names.{is_name}
use Rattle.graphql_text.specs.lexical.Tokens.{amp, at, bang, bar, colon, equals, lbrace, lparen, Punctuation, Name}
use Rattle.graphql_text.specs.grammar.Forms.{TokenClass, a_punctuator, a_keyword, a_name, a_string_value}
use Rattle.graphql_text.specs.layout.Layout.{lowers, raises}
use Rattle.graphql_text.specs.kinds.Kinds.{Kind}
use Rattle.graphql_text.specs.parts.Members.{has_some}
use Rattle.graphql_text.proofs.parts.KindParts.{described_part}
use Rattle.graphql_text.proofs.parts.Parts.{part_balanced, KindPart, name_part, name_then, word_then, mark_then, space_then, part_then}
use Rattle.graphql_text.proofs.parts.Parts.{plain_then, restated, retold}
use Rattle.graphql_text.proofs.parts.RowParts.{members_part, required_members_part, joined_names_part, may_be_members}
use Rattle.graphql_values.specs.kinds.Directives.{directives_obey}
use Rattle.graphql_values.specs.kinds.InputValueDefinitions.{input_value_definition_kind}
use Rattle.graphql_values.specs.kinds.Values.{Const, not_enum_values}
use Rattle.graphql_values.specs.lemmas.Directives.{excluded_after_directives, directives_part}
use Rattle.graphql_values.specs.lemmas.InputValueDefinitions.{arguments_definition_part, input_value_definition_part}
use Rattle.graphql_values.specs.lemmas.OperationTypes.{operation_type_part, operation_type_words}
use Rattle.graphql_values.specs.lemmas.Types.{type_part}
use Rattle.graphql_type_system.specs.kinds.BracedTypes.{braced_type_shape, braced_type}
use Rattle.graphql_type_system.specs.kinds.EnumTypes.{enum_type_body}
use Rattle.graphql_type_system.specs.kinds.EnumValueDefinitions.{enum_value_definition_body, enum_value_definition_kind}
use Rattle.graphql_type_system.specs.kinds.FieldDefinitions.{field_definition_body, field_definition_kind}
use Rattle.graphql_type_system.specs.kinds.ImplementingTypes.{implementing_type}
use Rattle.graphql_type_system.specs.kinds.InputObjectTypes.{input_object_type_body}
use Rattle.graphql_type_system.specs.kinds.InterfaceTypes.{interface_type_body}
use Rattle.graphql_type_system.specs.kinds.Keywords.{after_keyword}
use Rattle.graphql_type_system.specs.kinds.ObjectTypes.{object_type_body}
use Rattle.graphql_type_system.specs.kinds.ScalarTypes.{scalar_type, scalar_type_body}
use Rattle.graphql_type_system.specs.kinds.Schemas.{root_operation_kind, schema_body, extended_schema_body}
use Rattle.graphql_type_system.specs.kinds.UnionTypes.{union_type, union_type_body}

-- the trees of a kind, each after a keyword
unfoldable pub after_keyword_part : (word : List ℕ) → is_name word ≡ true → (body : Kind) {F L S : List TokenClass} {b opens : Bool} →
    KindPart body F L b S opens →
    KindPart (after_keyword word body) F (a_keyword word ∷ []) false S false
after_keyword_part word is body p = word_then word is (space_then p)

-- SCALAR TYPES

unfoldable pub scalar_type_part : KindPart scalar_type excluded_after_directives (a_name [] ∷ []) false [] false
scalar_type_part = retold (λ x. record { name = x.0; directives = x.1 }) (λ scalar. (scalar.name, scalar.directives)) (λ scalar. refl)
    (name_then [] (directives_part Const))

unfoldable pub scalar_type_body_part : KindPart scalar_type_body excluded_after_directives (a_keyword (codes "scalar") ∷ []) false [] false
scalar_type_body_part = after_keyword_part (codes "scalar") refl scalar_type scalar_type_part

-- FIELD DEFINITIONS

abbrev pub excluded_after_field_definition : List TokenClass
excluded_after_field_definition = a_punctuator bang ∷ excluded_after_directives

unfoldable pub field_definition_body_part : KindPart field_definition_body excluded_after_field_definition (a_name [] ∷ []) false [] false
field_definition_body_part = retold
    (λ x. record { name = x.0; arguments = x.1.0; type = x.1.1.0; directives = x.1.1.1 })
    (λ field. (field.name, (field.arguments, (field.type, field.directives)))) (λ field. refl)
    (name_then [] (part_then arguments_definition_part (mark_then colon refl (space_then (plain_then type_part (directives_part Const) refl))) refl))

unfoldable pub field_definition_part : KindPart field_definition_kind excluded_after_field_definition (a_string_value ∷ a_name [] ∷ []) false [] false
field_definition_part = described_part field_definition_body field_definition_body_part refl

-- OBJECT TYPES AND INTERFACE TYPES

abbrev pub excluded_after_implementing_type : List TokenClass
excluded_after_implementing_type = a_keyword (codes "implements") ∷ a_punctuator amp ∷ excluded_after_directives

unfoldable pub implementing_type_part : KindPart implementing_type excluded_after_implementing_type (a_name [] ∷ []) false (a_punctuator lbrace ∷ []) false
implementing_type_part = retold
    (λ x. record { name = x.0; interfaces = x.1.0; directives = x.1.1.0; fields = x.1.1.1 })
    (λ type. (type.name, (type.interfaces, (type.directives, type.fields)))) (λ type. refl)
    (name_then [] (plain_then (joined_names_part (Name (codes "implements")) amp (a_keyword (codes "implements")) refl refl refl)
    (part_then (directives_part Const) (members_part field_definition_kind field_definition_part refl) refl) refl))

unfoldable pub object_type_body_part :
    KindPart object_type_body excluded_after_implementing_type (a_keyword (codes "type") ∷ []) false (a_punctuator lbrace ∷ []) false
object_type_body_part = after_keyword_part (codes "type") refl implementing_type implementing_type_part

unfoldable pub interface_type_body_part : KindPart interface_type_body excluded_after_implementing_type
    (a_keyword (codes "interface") ∷ []) false (a_punctuator lbrace ∷ []) false
interface_type_body_part = after_keyword_part (codes "interface") refl implementing_type implementing_type_part

-- UNION TYPES

pub and_true : (b : Bool) → (b && true) ≡ b
and_true true = refl
and_true false = refl

abbrev pub excluded_after_union_type : List TokenClass
excluded_after_union_type = a_punctuator at ∷ a_punctuator lparen ∷ a_punctuator equals ∷ a_punctuator bar ∷ []

unfoldable pub union_type_part : KindPart union_type excluded_after_union_type (a_name [] ∷ []) false [] false
union_type_part = restated (λ union. omega arith) (λ union. and_true (directives_obey Const union.directives))
    (retold (λ x. record { name = x.0; directives = x.1.0; members = x.1.1 }) (λ union. (union.name, (union.directives, union.members))) (λ union. refl)
    (name_then [] (part_then (directives_part Const) (joined_names_part (Punctuation equals) bar (a_punctuator equals) refl refl refl) refl)))

unfoldable pub union_type_body_part : KindPart union_type_body excluded_after_union_type (a_keyword (codes "union") ∷ []) false [] false
union_type_body_part = after_keyword_part (codes "union") refl union_type union_type_part

-- ENUM VALUE DEFINITIONS

unfoldable pub enum_value_definition_body_part : KindPart enum_value_definition_body excluded_after_directives (a_name not_enum_values ∷ []) false [] false
enum_value_definition_body_part =
    retold (λ x. record { value = x.0; directives = x.1 }) (λ definition. (definition.value, definition.directives)) (λ definition. refl)
    (name_then not_enum_values (directives_part Const))

unfoldable pub enum_value_definition_part :
    KindPart enum_value_definition_kind excluded_after_directives (a_string_value ∷ a_name not_enum_values ∷ []) false [] false
enum_value_definition_part = described_part enum_value_definition_body enum_value_definition_body_part refl

-- ENUM TYPES AND INPUT OBJECT TYPES

unfoldable pub braced_type_part : (member : Kind) {F L : List TokenClass} {opens : Bool} → KindPart member F L false [] opens → may_be_members F L ≡ true →
    KindPart (braced_type member) excluded_after_directives (a_name [] ∷ []) false (a_punctuator lbrace ∷ []) false
unfolding braced_type_shape
braced_type_part member p may =
    retold (λ x. record { name = x.0; directives = x.1.0; members = x.1.1 })
    (λ type. (type.name, (type.directives, type.members))) (λ type. refl)
    (name_then [] (part_then (directives_part Const) (members_part member p may) refl))

unfoldable pub enum_type_body_part : KindPart enum_type_body excluded_after_directives (a_keyword (codes "enum") ∷ []) false (a_punctuator lbrace ∷ []) false
enum_type_body_part =
    after_keyword_part (codes "enum") refl (braced_type enum_value_definition_kind)
    (braced_type_part enum_value_definition_kind enum_value_definition_part refl)

unfoldable pub input_object_type_body_part :
    KindPart input_object_type_body excluded_after_directives (a_keyword (codes "input") ∷ []) false (a_punctuator lbrace ∷ []) false
input_object_type_body_part =
    after_keyword_part (codes "input") refl (braced_type input_value_definition_kind)
    (braced_type_part input_value_definition_kind input_value_definition_part refl)

-- SCHEMAS

unfoldable pub root_operation_part : KindPart root_operation_kind [] operation_type_words false [] false
root_operation_part = retold (λ x. record { operation_type = x.0; type = x.1 }) (λ root. (root.operation_type, root.type)) (λ root. refl)
    (plain_then operation_type_part (mark_then colon refl (space_then name_part)) refl)

pub root_operation_balanced : (broken : Bool) (root : root_operation_kind.Tree) →
    raises (root_operation_kind.shape broken false root) ≡ lowers (root_operation_kind.shape broken false root)
root_operation_balanced = part_balanced root_operation_part

pub none_to_hold : {A : Type 0} (parts : List A) → list_all (λ (part : A). true) parts ≡ true
none_to_hold [] = refl
none_to_hold (part ∷ more) = none_to_hold more

unfoldable pub schema_body_part : KindPart schema_body [] (a_keyword (codes "schema") ∷ []) false [] false
schema_body_part =
    restated (λ schema. refl) (λ schema.
    ap (λ b. directives_obey Const schema.directives && b)
    (rw (none_to_hold schema.root_operations) (and_true (has_some schema.root_operations))))
    (retold (λ x. record { directives = x.0; root_operations = x.1 }) (λ schema. (schema.directives, schema.root_operations)) (λ schema. refl)
    (word_then (codes "schema") refl (part_then (directives_part Const) (required_members_part root_operation_kind root_operation_part refl) refl)))

unfoldable pub extended_schema_body_part :
    KindPart extended_schema_body excluded_after_directives (a_keyword (codes "schema") ∷ []) false (a_punctuator lbrace ∷ []) false
extended_schema_body_part = restated (λ schema. refl) (λ schema. rw (none_to_hold schema.root_operations) (and_true (directives_obey Const schema.directives)))
    (retold (λ x. record { directives = x.0; root_operations = x.1 }) (λ schema. (schema.directives, schema.root_operations)) (λ schema. refl)
    (word_then (codes "schema") refl (part_then (directives_part Const) (members_part root_operation_kind root_operation_part refl) refl)))
