-- Lemmas, no definitions of the product: the JSON of a type is a node, of a kind that tells the kind of the type, and of one type.
use Rattle.std.proofs.Common.{◌≡◌, ℕ, List, [], ◌∷◌, codes, nat_eq, refl, ap, false}
use Rattle.std.specs.Cmp.Lexicographic.{pointwise}
use Rattle.graphql_text.specs.lexical.Literals.{NameText}
use Rattle.graphql_values.specs.kinds.TypeReferences.{TypeTree, named_type, non_null_named_type, list_type, non_null_list_type}
use Rattle.serde_json.specs.Data.{Data}
use Rattle.ast_json_nodes.specs.nodes.Nodes.{IsName, member_of}
use Rattle.ast_json_nodes.specs.nodes.OneTree.{IsNodeOf, NodeLaws}
use Rattle.graphql_ast_json.specs.kinds.TypeJson.{IsNamedType, IsTypeAround, IsTypeReference}
use Rattle.graphql_ast_json.specs.lemmas.Leaves.{both_some, different, same_name}
use Rattle.ast_json_nodes.specs.declared.read.Unknown.{Unknown}

abbrev pub type_kind : TypeTree → List ℕ
type_kind (named_type _) = codes "NamedType"
type_kind (non_null_named_type _) = codes "NonNullType"
type_kind (list_type _) = codes "ListType"
type_kind (non_null_list_type _) = codes "NonNullType"

pub type_node : (unknown : Unknown) (ty : TypeTree) (json : Data) → IsTypeReference unknown ty json → IsNodeOf unknown (type_kind ty) json
type_node unknown (named_type _) json is = record { names = codes "name" ∷ []; is = is.0 }
type_node unknown (non_null_named_type _) json is = record { names = codes "type" ∷ []; is = is.0 }
type_node unknown (list_type _) json is = record { names = codes "type" ∷ []; is = is.0 }
type_node unknown (non_null_list_type _) json is = record { names = codes "type" ∷ []; is = is.0 }

pub same_named_type : (unknown : Unknown) (n m : NameText) (json : Data) → IsNamedType unknown n json → IsNamedType unknown m json → n ≡ m
same_named_type unknown n m json p q = both_some (member_of (codes "name") json) (IsName unknown n) (IsName unknown m) p.1 q.1 (same_name unknown n m)

other_type : (unknown : Unknown) (a b : TypeTree) (json : Data) → IsTypeReference unknown a json → IsTypeReference unknown b json →
    pointwise nat_eq (type_kind a) (type_kind b) ≡ false → a ≡ b
other_type unknown a b json p q apart = absurd (different (type_kind a) (type_kind b) json (type_node unknown a json p).is.0
    (type_node unknown b json q).is.0 apart)

-- what is non-null isn't both a name and a list
name_or_list : (unknown : Unknown) (n : NameText) (ty : TypeTree) (json : Data) → IsNamedType unknown n json →
    IsTypeAround unknown (codes "ListType") (IsTypeReference unknown ty) json → ⊥
name_or_list unknown n ty json p q = different (codes "NamedType") (codes "ListType") json p.0.0 q.0.0 refl

pub same_type : (unknown : Unknown) (a b : TypeTree) (json : Data) → IsTypeReference unknown a json → IsTypeReference unknown b json → a ≡ b
same_type unknown (named_type n) (named_type m) json p q = ap named_type (same_named_type unknown n m json p q)
same_type unknown (non_null_named_type n) (non_null_named_type m) json p q =
    ap non_null_named_type (both_some (member_of (codes "type") json) (IsNamedType unknown n) (IsNamedType unknown m) p.1 q.1 (same_named_type unknown n m))
same_type unknown (list_type a) (list_type b) json p q =
    ap list_type (both_some (member_of (codes "type") json) (IsTypeReference unknown a) (IsTypeReference unknown b) p.1 q.1 (same_type unknown a b))
same_type unknown (non_null_list_type a) (non_null_list_type b) json p q =
    ap non_null_list_type (both_some (member_of (codes "type") json) (IsTypeAround unknown (codes "ListType") (IsTypeReference unknown a))
    (IsTypeAround unknown (codes "ListType") (IsTypeReference unknown b)) p.1 q.1
    (λ inner p' q'. both_some (member_of (codes "type") inner) (IsTypeReference unknown a) (IsTypeReference unknown b) p'.1 q'.1 (same_type unknown a b)))
same_type unknown (non_null_named_type n) (non_null_list_type b) json p q =
    absurd (both_some (member_of (codes "type") json) (IsNamedType unknown n) (IsTypeAround unknown (codes "ListType") (IsTypeReference unknown b)) p.1 q.1
    (name_or_list unknown n b))
same_type unknown (non_null_list_type a) (non_null_named_type m) json p q =
    absurd (both_some (member_of (codes "type") json) (IsNamedType unknown m) (IsTypeAround unknown (codes "ListType") (IsTypeReference unknown a)) q.1 p.1
    (name_or_list unknown m a))
same_type unknown (named_type n) b json p q = other_type unknown (named_type n) b json p q refl
same_type unknown (list_type a) b json p q = other_type unknown (list_type a) b json p q refl
same_type unknown (non_null_named_type n) (named_type m) json p q = other_type unknown (non_null_named_type n) (named_type m) json p q refl
same_type unknown (non_null_named_type n) (list_type b) json p q = other_type unknown (non_null_named_type n) (list_type b) json p q refl
same_type unknown (non_null_list_type a) (named_type m) json p q = other_type unknown (non_null_list_type a) (named_type m) json p q refl
same_type unknown (non_null_list_type a) (list_type b) json p q = other_type unknown (non_null_list_type a) (list_type b) json p q refl

pub type_laws : NodeLaws IsTypeReference
type_laws = record { one_tree = same_type; node = λ unknown ty json is. record { kind = type_kind ty; node = type_node unknown ty json is } }

pub named_type_laws : NodeLaws IsNamedType
named_type_laws = record {
  one_tree = same_named_type;
  node = λ unknown tree json is. record { kind = codes "NamedType"; node = record { names = codes "name" ∷ []; is = is.0 } };
}
