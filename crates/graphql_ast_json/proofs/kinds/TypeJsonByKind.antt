-- Where JSON is of one kind of types, and of none of that kind, it is of no type.
use Rattle.std.proofs.Common.{◌≡◌, ℕ, List, ◌∷◌, Option, Some, None, IsSomeAnd, codes, sym, ap, ◌∙◌, arith}
use Rattle.graphql_text.specs.lexical.Literals.{NameText}
use Rattle.graphql_values.specs.kinds.TypeReferences.{TypeTree, named_type, non_null_named_type, list_type, non_null_list_type}
use Rattle.serde_json.specs.Data.{Data, string}
use Rattle.ast_json_nodes.specs.nodes.Nodes.{member_of}
use Rattle.ast_json_nodes.specs.code.NodeReading.{TellsKind}
use Rattle.graphql_ast_json.specs.code.TypeReading.{IsWithoutNull}
use Rattle.graphql_ast_json.specs.kinds.TypeJson.{IsNamedType, IsTypeAround, IsTypeReference}
use Rattle.graphql_ast_json.proofs.nodes.KindTexts.{initial, text_of}
use Rattle.graphql_ast_json.specs.lemmas.Leaves.{IsOfKind}
use Rattle.graphql_ast_json.specs.lemmas.TypeNodes.{type_kind, type_node}
use Rattle.ast_json_nodes.specs.declared.read.Unknown.{Unknown}

clash : (unknown : Unknown) (tree : TypeTree) (json : Data) (kind : List ℕ) → IsOfKind kind json → IsTypeReference unknown tree json → type_kind tree ≡ kind
clash unknown tree json kind e is = ap text_of (sym (type_node unknown tree json is).is.0 ∙ e)

-- the second letter, which tells `NamedType` from `NonNullType`
abbrev second : List ℕ → ℕ
second (a ∷ b ∷ more) = b
second _ = 0

pub only_named : (unknown : Unknown) (json : Data) → IsOfKind (codes "NamedType") json → ((name : NameText) → IsNamedType unknown name json → ⊥) →
    (tree : TypeTree) →
    IsTypeReference unknown tree json → ⊥
only_named unknown json e none (named_type name) is = none name is
only_named unknown json e none tree is = let h : second (type_kind tree) ≡ 97 = ap second (clash unknown tree json _ e is) in absurd (omega arith)

pub only_list_type : (unknown : Unknown) (json : Data) → IsOfKind (codes "ListType") json →
    ((item : TypeTree) → IsTypeAround unknown (codes "ListType") (IsTypeReference unknown item) json → ⊥) → (tree : TypeTree) →
    IsTypeReference unknown tree json → ⊥
only_list_type unknown json e none (list_type item) is = none item is
only_list_type unknown json e none tree is = let h : initial (type_kind tree) ≡ 76 = ap initial (clash unknown tree json _ e is) in absurd (omega arith)

pub only_non_null : (unknown : Unknown) (json : Data) → IsOfKind (codes "NonNullType") json →
    ((tree : TypeTree) → IsTypeAround unknown (codes "NonNullType") (IsWithoutNull unknown tree) json → ⊥) → (tree : TypeTree) →
    IsTypeReference unknown tree json → ⊥
only_non_null unknown json e none (non_null_named_type name) is = none (non_null_named_type name) is
only_non_null unknown json e none (non_null_list_type item) is = none (non_null_list_type item) is
only_non_null unknown json e none tree is = let h : second (type_kind tree) ≡ 111 = ap second (clash unknown tree json _ e is) in absurd (omega arith)

pub no_kind : (unknown : Unknown) (json : Data) → ((text : List ℕ) → member_of (codes "kind") json ≡ Some (string text) → ⊥) → (tree : TypeTree) →
    IsTypeReference unknown tree json → ⊥
no_kind unknown json none tree is = none (type_kind tree) (type_node unknown tree json is).is.0

pub other_kind : (unknown : Unknown) (json : Data) (kind : List ℕ) → IsOfKind kind json → (kind ≡ codes "NamedType" → ⊥) → (kind ≡ codes "ListType" → ⊥) →
    (kind ≡ codes "NonNullType" → ⊥) → (tree : TypeTree) → IsTypeReference unknown tree json → ⊥
other_kind unknown json kind e p q r (named_type name) is = p (sym (clash unknown (named_type name) json kind e is))
other_kind unknown json kind e p q r (non_null_named_type name) is = r (sym (clash unknown (non_null_named_type name) json kind e is))
other_kind unknown json kind e p q r (list_type item) is = q (sym (clash unknown (list_type item) json kind e is))
other_kind unknown json kind e p q r (non_null_list_type item) is = r (sym (clash unknown (non_null_list_type item) json kind e is))

-- a type tells its kind
pub type_tells : (unknown : Unknown) (tree : TypeTree) (json : Data) → IsTypeReference unknown tree json → TellsKind unknown json
type_tells unknown tree json is = let node = (type_node unknown tree json is).is in (node.2, (type_kind tree, node.0))

-- so does one within a non-null type
pub without_null_tells : (unknown : Unknown) (tree : TypeTree) (json : Data) → IsWithoutNull unknown tree json → TellsKind unknown json
without_null_tells unknown (named_type name) json is = absurd is
without_null_tells unknown (non_null_named_type name) json is = (is.0.2, (codes "NamedType", is.0.0))
without_null_tells unknown (list_type item) json is = absurd is
without_null_tells unknown (non_null_list_type item) json is = (is.0.2, (codes "ListType", is.0.0))

also : (found : Option Data) (Is Other : Data → Type 0) → ((inner : Data) → Is inner → Other inner) → IsSomeAnd found Is → IsSomeAnd found Other
also None Is Other more is = is
also (Some inner) Is Other more is = more inner is

-- what stands around such a type stands around what each of these is
pub around_also : (unknown : Unknown) (kind : List ℕ) (Is Other : Data → Type 0) (json : Data) → ((inner : Data) → Is inner → Other inner) →
    IsTypeAround unknown kind Is json → IsTypeAround unknown kind Other json
around_also unknown kind Is Other json more is = (is.0, also (member_of (codes "type") json) Is Other more is.1)
