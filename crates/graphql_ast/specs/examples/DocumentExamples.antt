-- Trees that the laws speak of as examples.
use Rattle.std.specs.Prelude.{List, [], ◌∷◌, codes, false, refl, Option, Some, None}
use Rattle.graphql_text.specs.lexical.Literals.{NameText, StringText}
use Rattle.graphql_values.specs.examples.ValueExamples.{bare_directive, named}
use Rattle.graphql_values.specs.kinds.OperationTypes.{Query}
use Rattle.graphql_values.specs.declared.directive_location.DirectiveLocation.TheVariants as location
use Rattle.graphql_values.specs.kinds.TypeReferences.{named_type}
use Rattle.graphql_executable.specs.examples.ExecutableExamples.{plain_field, query_of_a, selections, set_of_a}
use Rattle.graphql_executable.specs.kinds.Selections.{SelectionTree, SelectionTrees, field_selection, inline_selection, no_selections, spread_selection}
use Rattle.graphql_type_system.specs.examples.TypeSystemExamples.{bare_union, plain}
use Rattle.graphql_type_system.specs.kinds.FieldDefinitions.{field_definition_kind}
use Rattle.graphql_ast.specs.Definitions.{DefinitionName, OperationDefinition, DirectiveDefinition, ScalarTypeDefinition}
use Rattle.graphql_ast.specs.Definitions.{ObjectTypeDefinition, UnionTypeDefinition, kind_named, DefinitionTree}

-- a tree of the kind so named
abbrev pub a_definition : (name : DefinitionName) → (kind_named name).Tree → DefinitionTree
a_definition name tree = record { name = name; tree = tree }

-- `type A`
abbrev pub type_a : DefinitionTree
type_a = a_definition ObjectTypeDefinition (plain (record { name = named (codes "A") refl; interfaces = []; directives = []; fields = [] }))

-- a scalar type without directives
abbrev pub scalar_named : NameText → DefinitionTree
scalar_named name = a_definition ScalarTypeDefinition (plain (record { name = name; directives = [] }))

-- the anonymous query of `a`, with some description
abbrev pub query_described : Option StringText → DefinitionTree
query_described describes = a_definition OperationDefinition (query_of_a describes)

-- the anonymous query of `field`, with the directive `@dir`
abbrev pub query_of_field : DefinitionTree
query_of_field = a_definition OperationDefinition (record {
  description = None;
  body = record {
    operation_type = Query;
    name = None;
    variables = [];
    directives = bare_directive (codes "dir") refl ∷ [];
    selections = selections (plain_field (named (codes "field") refl) ∷ []);
  };
})

-- `type A` before the anonymous query of `a`, with some description
abbrev pub type_and_query : Option StringText → List DefinitionTree
type_and_query describes = type_a ∷ query_described describes ∷ []

-- `query` with some name, of a set of selections
abbrev query_of : Option NameText → SelectionTrees → DefinitionTree
query_of name set =
    a_definition OperationDefinition (record {
      description = None;
      body = record { operation_type = Query; name = name; variables = []; directives = []; selections = set };
    })

-- `query query { query }`
abbrev pub query_query : DefinitionTree
query_query = query_of (Some (named (codes "query") refl)) (selections (plain_field (named (codes "query") refl) ∷ []))

-- `{ a: b }`
abbrev pub set_of_alias : SelectionTrees
set_of_alias = selections (
    field_selection (record { alias = Some (named (codes "a") refl); name = named (codes "b") refl; arguments = []; directives = [] }) no_selections ∷ [])

abbrev pub query_of_alias : DefinitionTree
query_of_alias = query_of None set_of_alias

-- `...once` and `... on T { a }`
abbrev pub spread_of_once : SelectionTree
spread_of_once = spread_selection (record { name = named (codes "once") refl; directives = [] })

abbrev pub fragment_on_t : SelectionTree
fragment_on_t = inline_selection (record { type_condition = Some (named (codes "T") refl); directives = [] }) set_of_a

-- `union U`
abbrev pub union_u : DefinitionTree
union_u = a_definition UnionTypeDefinition (plain bare_union)

-- `a: b` as a field of a type, and `type A { a: b }`
abbrev pub field_a : field_definition_kind.Tree
field_a = plain (record { name = named (codes "a") refl; arguments = []; type = named_type (named (codes "b") refl); directives = [] })

abbrev pub type_with_a : DefinitionTree
type_with_a = a_definition ObjectTypeDefinition (plain (record { name = named (codes "A") refl; interfaces = []; directives = []; fields = field_a ∷ [] }))

-- `type A implements B & C`
abbrev pub type_of_b_and_c : DefinitionTree
type_of_b_and_c = a_definition ObjectTypeDefinition (plain (record {
  name = named (codes "A") refl;
  interfaces = named (codes "B") refl ∷ named (codes "C") refl ∷ [];
  directives = [];
  fields = [];
}))

-- `directive @d on FIELD`
abbrev pub directive_on_fields : DefinitionTree
directive_on_fields =
    a_definition DirectiveDefinition (plain (record { name = named (codes "d") refl; arguments = []; repeatable = false; locations = location.Field ∷ [] }))
