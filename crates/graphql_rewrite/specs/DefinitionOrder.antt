-- The order of definitions by kind and name.
use Rattle.std.specs.Prelude.{ℕ, List, [], ◌∷◌, Bool}
use Rattle.std.specs.Cmp.Lexicographic.{slice_cmp}
use Rattle.std.specs.Option.{option_map_or}
use Rattle.std.specs.Ordering.{is_lt, nat_cmp}
use Rattle.graphql_base.specs.Name.{name_text}
use Rattle.graphql_ast.specs.AstTrees.{definition_tree}
use Rattle.graphql_ast.specs.DefinitionQueries.{definition_name}
use Rattle.graphql_ast.specs.Definitions.{DefinitionName}
use Rattle.graphql_ast.specs.Definitions as name
use Rattle.graphql_ast.specs.declared.definition.Definition.{Definition}

-- the rank of a kind, in the order of the grammar: Definition, section 2.2, and sections 3 to 3.4.3
abbrev pub kind_rank : DefinitionName → ℕ
kind_rank name.OperationDefinition = 0
kind_rank name.FragmentDefinition = 1
kind_rank name.SchemaDefinition = 2
kind_rank name.ScalarTypeDefinition = 3
kind_rank name.ObjectTypeDefinition = 4
kind_rank name.InterfaceTypeDefinition = 5
kind_rank name.UnionTypeDefinition = 6
kind_rank name.EnumTypeDefinition = 7
kind_rank name.InputObjectTypeDefinition = 8
kind_rank name.DirectiveDefinition = 9
kind_rank name.SchemaExtension = 10
kind_rank name.ScalarTypeExtension = 11
kind_rank name.ObjectTypeExtension = 12
kind_rank name.InterfaceTypeExtension = 13
kind_rank name.UnionTypeExtension = 14
kind_rank name.EnumTypeExtension = 15
kind_rank name.InputObjectTypeExtension = 16

-- the rank of its kind, and then the bytes of its name, if it has one
abbrev pub sort_key : Definition → List ℕ
sort_key definition = kind_rank (definition_tree definition).name ∷ option_map_or name_text (definition_name definition) []

-- by kind, and within a kind by name
abbrev pub comes_before : Definition → Definition → Bool
comes_before one other = is_lt (slice_cmp nat_cmp (sort_key one) (sort_key other))
