-- Trees that the laws speak of as examples.
use Rattle.std.specs.Prelude.{◌≡◌, ℕ, List, [], ◌∷◌, codes, refl, true, Option, Some, None}
use Rattle.std.specs.Str.{all_scalars}
use Rattle.graphql_text.specs.lexical.Literals.{NameText, StringText}
use Rattle.graphql_values.specs.kinds.Directives.{DirectiveTree}
use Rattle.graphql_values.specs.examples.ValueExamples.{bare_directive, directive_with_variable, int, list, named, variable_named}
use Rattle.graphql_values.specs.kinds.OperationTypes.{OperationTypeTree, Query}
use Rattle.graphql_values.specs.kinds.TypeReferences.{TypeTree, list_type, named_type}
use Rattle.graphql_values.specs.kinds.Values.{ValueTree, boolean_value}
use Rattle.graphql_executable.specs.kinds.FragmentDefinitions.{fragment_definition_kind}
use Rattle.graphql_executable.specs.kinds.OperationDefinitions.{operation_definition_kind}
use Rattle.graphql_executable.specs.kinds.Selections.{SelectionTree, SelectionTrees, field_selection, spread_selection, inline_selection}
use Rattle.graphql_executable.specs.kinds.Selections.{no_selections, more_selections}
use Rattle.graphql_executable.specs.kinds.VariableDefinitions.{variable_definition_kind}

abbrev pub description : (text : List ℕ) → all_scalars text ≡ true → Option StringText
description text is = Some (record { text = text; valid = is })

-- a set of selections, and a field that is a name alone
abbrev pub selections : List SelectionTree → SelectionTrees
selections [] = no_selections
selections (selection ∷ more) = more_selections selection (selections more)

abbrev pub plain_field : NameText → SelectionTree
plain_field name = field_selection (record { alias = None; name = name; arguments = []; directives = [] }) no_selections

-- `{ a }`
abbrev pub set_of_a : SelectionTrees
set_of_a = selections (plain_field (named (codes "a") refl) ∷ [])

-- an anonymous operation that selects `a`
abbrev pub operation_of_a : OperationTypeTree → Option StringText → List variable_definition_kind.Tree → List DirectiveTree → operation_definition_kind.Tree
operation_of_a type describes variables directives =
    record {
      description = describes;
      body = record { operation_type = type; name = None; variables = variables; directives = directives; selections = set_of_a };
    }

abbrev pub query_of_a : Option StringText → operation_definition_kind.Tree
query_of_a describes = operation_of_a Query describes [] []

abbrev variable_definition : Option StringText → NameText → TypeTree → Option ValueTree → List DirectiveTree → variable_definition_kind.Tree
variable_definition describes name type default directives =
    record { description = describes; body = record { name = name; type = type; default_value = default; directives = directives } }

abbrev int_type : TypeTree
int_type = named_type (named (codes "Int") refl)

-- `$v: [Int] = [1] @d`
abbrev pub variable_with_directive : variable_definition_kind.Tree
variable_with_directive =
    variable_definition None (named (codes "v") refl) (list_type int_type) (Some (list (int (codes "1") refl ∷ []))) (bare_directive (codes "d") refl ∷ [])

-- `"V" $v: Int`
abbrev pub described_variable : variable_definition_kind.Tree
described_variable = variable_definition (description (codes "V") refl) (named (codes "v") refl) int_type None []

-- `query N("A" $a: Int, $b: Int = 1) { a }`
abbrev pub query_with_described_variable : operation_definition_kind.Tree
query_with_described_variable = record {
  description = None;
  body = record {
    operation_type = Query;
    name = Some (named (codes "N") refl);
    variables =
        variable_definition (description (codes "A") refl) (named (codes "a") refl) int_type None []
        ∷ variable_definition None (named (codes "b") refl) int_type (Some (int (codes "1") refl)) [] ∷ [];
    directives = [];
    selections = set_of_a;
  };
}

-- `query N($v: Int = 1 @d) { r: s(a: $v) @include(if: true) { ...F ... on T { id } } }`
abbrev pub query_with_fragments : operation_definition_kind.Tree
query_with_fragments = record {
  description = None;
  body = record {
    operation_type = Query;
    name = Some (named (codes "N") refl);
    variables = variable_definition None (named (codes "v") refl) int_type (Some (int (codes "1") refl)) (bare_directive (codes "d") refl ∷ []) ∷ [];
    directives = [];
    selections = selections (
        field_selection
        (record {
          alias = Some (named (codes "r") refl);
          name = named (codes "s") refl;
          arguments = record { name = named (codes "a") refl; value = variable_named (codes "v") refl } ∷ [];
          directives =
              record {
                name = named (codes "include") refl;
                arguments = record { name = named (codes "if") refl; value = boolean_value true } ∷ [];
              } ∷ [];
        })
        (selections (
        spread_selection (record { name = named (codes "F") refl; directives = [] })
        ∷ inline_selection (record { type_condition = Some (named (codes "T") refl); directives = [] })
        (selections (plain_field (named (codes "id") refl) ∷ []))
        ∷ []
        ))
        ∷ []
        );
  };
}

-- `...F @a(x: $v)`
abbrev pub spread_with_directive : SelectionTree
spread_with_directive = spread_selection (record { name = named (codes "F") refl; directives = directive_with_variable ∷ [] })

-- `... @d { a }`
abbrev pub untyped_inline_fragment : SelectionTree
untyped_inline_fragment = inline_selection (record { type_condition = None; directives = bare_directive (codes "d") refl ∷ [] }) set_of_a

-- a fragment on a type that selects `a`, with some directives
abbrev pub fragment_of_a : Option StringText → NameText → List DirectiveTree → fragment_definition_kind.Tree
fragment_of_a describes type directives =
    record { description = describes; body = record { name = named (codes "F") refl; type_condition = type; directives = directives; selections = set_of_a } }
