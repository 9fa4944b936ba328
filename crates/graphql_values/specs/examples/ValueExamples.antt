-- Trees that the laws speak of as examples.
use Rattle.std.specs.Prelude.{◌≡◌, ℕ, List, [], ◌∷◌, codes, refl, true, false, Some, None}
use Rattle.std.specs.Str.{all_scalars}
use Rattle.graphql_base.specs.Names.{is_name}
use Rattle.graphql_text.specs.lexical.Literals.{NameText, is_int}
use Rattle.graphql_values.specs.kinds.DirectiveDefinitions.{directive_definition_kind}
use Rattle.graphql_values.specs.declared.directive_location.DirectiveLocation.TheVariants as location
use Rattle.graphql_values.specs.kinds.Directives.{DirectiveTree}
use Rattle.graphql_values.specs.kinds.InputValueDefinitions.{input_value_definition_kind}
use Rattle.graphql_values.specs.kinds.TypeReferences.{TypeTree, list_type, named_type, non_null_list_type, non_null_named_type}
use Rattle.graphql_values.specs.kinds.Values.{ValueTree, ValueTrees, ObjectFieldTrees, int_value, list_value, more_fields, more_values}
use Rattle.graphql_values.specs.kinds.Values.{no_fields, no_values, object_value, string_value, variable}

-- leaves, with the proof of their syntax
abbrev pub named : (text : List ℕ) → is_name text ≡ true → NameText
named text is = record { text = text; valid = is }

abbrev pub int : (text : List ℕ) → is_int text ≡ true → ValueTree
int text is = int_value (record { text = text; valid = is })

abbrev pub string : (text : List ℕ) → all_scalars text ≡ true → ValueTree
string text is = string_value (record { text = text; valid = is })

-- a list of values, and an object of fields
abbrev values : List ValueTree → ValueTrees
values [] = no_values
values (value ∷ more) = more_values value (values more)

abbrev pub list : List ValueTree → ValueTree
list items = list_value (values items)

abbrev fields : List (NameText × ValueTree) → ObjectFieldTrees
fields [] = no_fields
fields (field ∷ more) = more_fields field.0 field.1 (fields more)

abbrev pub object : List (NameText × ValueTree) → ValueTree
object items = object_value (fields items)

-- `$v`
abbrev pub variable_named : (text : List ℕ) → is_name text ≡ true → ValueTree
variable_named text is = variable (named text is)

-- `{a: 1}` and `{a: 1, a: 2}`
abbrev pub one_field : ValueTree
one_field = object ((named (codes "a") refl, int (codes "1") refl) ∷ [])

abbrev pub repeated_fields : ValueTree
repeated_fields = object ((named (codes "a") refl, int (codes "1") refl) ∷ (named (codes "a") refl, int (codes "2") refl) ∷ [])

-- `[Int!]!`
abbrev pub list_of_ints : TypeTree
list_of_ints = non_null_list_type (non_null_named_type (named (codes "Int") refl))

-- a directive without arguments, and `@a(x: $v)`
abbrev pub bare_directive : (text : List ℕ) → is_name text ≡ true → DirectiveTree
bare_directive text is = record { name = named text is; arguments = [] }

abbrev pub directive_with_variable : DirectiveTree
directive_with_variable = record {
  name = named (codes "a") refl;
  arguments = record { name = named (codes "x") refl; value = variable_named (codes "v") refl } ∷ [];
}

-- `"d" a: [Int!] = [1] @x`
abbrev pub described_input : input_value_definition_kind.Tree
described_input = record {
  description = Some (record { text = codes "d"; valid = refl });
  body = record {
    name = named (codes "a") refl;
    type = list_type (non_null_named_type (named (codes "Int") refl));
    default_value = Some (list (int (codes "1") refl ∷ []));
    directives = bare_directive (codes "x") refl ∷ [];
  };
}

-- an argument of type `Int`
abbrev int_argument : NameText → List DirectiveTree → input_value_definition_kind.Tree
int_argument name directives = record {
  description = None;
  body = record { name = name; type = named_type (named (codes "Int") refl); default_value = None; directives = directives };
}

-- `directive @d(a: Int @x, b: Int) repeatable on FIELD | QUERY`
abbrev pub repeatable_directive : directive_definition_kind.Tree
repeatable_directive = record {
  description = None;
  body = record {
    name = named (codes "d") refl;
    arguments = int_argument (named (codes "a") refl) (bare_directive (codes "x") refl ∷ []) ∷ int_argument (named (codes "b") refl) [] ∷ [];
    repeatable = true;
    locations = location.Field ∷ location.Query ∷ [];
  };
}

-- `directive @d`, on each location
abbrev pub directive_everywhere : directive_definition_kind.Tree
directive_everywhere = record {
  description = None;
  body = record {
    name = named (codes "d") refl;
    arguments = [];
    repeatable = false;
    locations =
        location.Query ∷ location.Mutation ∷ location.Subscription ∷ location.Field ∷ location.FragmentDefinition ∷ location.FragmentSpread
        ∷ location.InlineFragment ∷ location.VariableDefinition ∷ location.Schema ∷ location.Scalar ∷ location.Object ∷ location.FieldDefinition
        ∷ location.ArgumentDefinition ∷ location.Interface ∷ location.Union ∷ location.Enum ∷ location.EnumValue ∷ location.InputObject
        ∷ location.InputFieldDefinition ∷ [];
  };
}
