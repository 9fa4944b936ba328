-- Which JSON is of which type reference.
use Rattle.std.specs.Prelude.{ℕ, List, [], ◌∷◌, codes}
use Rattle.serde_json.specs.Data.{Data}
use Rattle.graphql_text.specs.lexical.Literals.{NameText}
use Rattle.graphql_values.specs.kinds.TypeReferences.{TypeTree, named_type, non_null_named_type, list_type, non_null_list_type}
use Rattle.ast_json_nodes.specs.declared.read.Unknown.{Unknown}
use Rattle.ast_json_nodes.specs.nodes.Nodes.{IsNode, IsName, Member}

abbrev pub IsNamedType : Unknown → NameText → Data → Type 0
IsNamedType unknown name json = IsNode unknown (codes "NamedType") (codes "name" ∷ []) json × Member (codes "name") json (IsName unknown name)

-- a node of this kind around a type
abbrev pub IsTypeAround : Unknown → List ℕ → (Data → Type 0) → Data → Type 0
IsTypeAround unknown kind Is json = IsNode unknown kind (codes "type" ∷ []) json × Member (codes "type") json Is

abbrev pub IsTypeReference : Unknown → TypeTree → Data → Type 0
IsTypeReference unknown (named_type name) json = IsNamedType unknown name json
IsTypeReference unknown (non_null_named_type name) json = IsTypeAround unknown (codes "NonNullType") (IsNamedType unknown name) json
IsTypeReference unknown (list_type ty) json = IsTypeAround unknown (codes "ListType") (IsTypeReference unknown ty) json
IsTypeReference unknown (non_null_list_type ty) json = IsTypeAround unknown (codes "NonNullType") (IsTypeAround unknown (codes "ListType")
    (IsTypeReference unknown ty)) json
