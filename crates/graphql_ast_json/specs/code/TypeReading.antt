-- What a reader finds within a non-null type.
use Rattle.std.specs.Prelude.{codes}
use Rattle.serde_json.specs.Data.{Data}
use Rattle.graphql_values.specs.kinds.TypeReferences.{TypeTree, named_type, non_null_named_type, list_type, non_null_list_type}
use Rattle.ast_json_nodes.specs.declared.read.Unknown.{Unknown}
use Rattle.graphql_ast_json.specs.kinds.TypeJson.{IsNamedType, IsTypeAround, IsTypeReference}

-- the JSON is of the type that this non-null type is around
abbrev pub IsWithoutNull : Unknown → TypeTree → Data → Type 0
IsWithoutNull unknown (named_type name) json = ⊥
IsWithoutNull unknown (non_null_named_type name) json = IsNamedType unknown name json
IsWithoutNull unknown (list_type item) json = ⊥
IsWithoutNull unknown (non_null_list_type item) json = IsTypeAround unknown (codes "ListType") (IsTypeReference unknown item) json
