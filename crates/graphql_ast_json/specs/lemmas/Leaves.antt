-- Lemmas, no definitions of the product: of JSON and nodes of any kind, of names and of strings.
use Rattle.std.proofs.Common.{◌≡◌, ℕ, Bool, false, List, [], ◌∷◌, Option, Some, None, IsSomeAnd, codes, nat_eq, refl, sym, ap, ◌∙◌, true≢false}
use Rattle.std.proofs.lemmas.Slice.Eq.{bytes_eq-Decides}
use Rattle.std.proofs.lemmas.Str.{encodes_same}
use Rattle.std.specs.Cmp.Lexicographic.{pointwise}
use Rattle.graphql_text.proofs.lexical.CheckedTexts.{same_text}
use Rattle.serde_json.specs.Data.{Data, null, boolean, number, string, array, object, Items, no_items, item}
use Rattle.ast_json_nodes.specs.nodes.Nodes.{Each, IsFlag, IsName, IsOptional, IsStringValue, member_of, present}
use Rattle.ast_json_nodes.specs.nodes.OneTree.{IsNeverNull, IsOfOneTree, JsonLaws, NodeLaws}
use Rattle.ast_json_nodes.specs.declared.read.Unknown.{Unknown}

-- JSON

some_string : (a b : List ℕ) → Some (string a) ≡ Some (string b) → a ≡ b
some_string a b same = cc

pub same_string : (name : List ℕ) (json : Data) (a b : List ℕ) → member_of name json ≡ Some (string a) → member_of name json ≡ Some (string b) → a ≡ b
same_string name json a b p q = some_string a b (sym p ∙ q)

some_boolean : (a b : Bool) → Some (boolean a) ≡ Some (boolean b) → a ≡ b
some_boolean a b same = cc

pub same_boolean : (name : List ℕ) (json : Data) (a b : Bool) → member_of name json ≡ Some (boolean a) → member_of name json ≡ Some (boolean b) → a ≡ b
same_boolean name json a b p q = some_boolean a b (sym p ∙ q)

pub both_some : {A R : Type 0} (o : Option A) (P Q : A → Type 0) → IsSomeAnd o P → IsSomeAnd o Q → ((x : A) → P x → Q x → R) → R
both_some None P Q p q then = absurd p
both_some (Some x) P Q p q then = then x p q

-- what is never null is present
pub there : {Tree : Type 0} (Is : Tree → Data → Type 0) → IsNeverNull Is → (tree : Tree) (json : Data) → Is tree json → present json ≡ Some json
there Is never tree null is = absurd (never tree is)
there Is never tree (boolean b) is = refl
there Is never tree (number n) is = refl
there Is never tree (string s) is = refl
there Is never tree (array items) is = refl
there Is never tree (object content) is = refl

-- what is of one tree each is so as a list and as an optional member
pub same_each : {A : Type 0} (Is : A → Data → Type 0) → IsOfOneTree Is → (xs ys : List A) (jsons : Items) → Each Is xs jsons → Each Is ys jsons → xs ≡ ys
same_each Is same [] [] no_items p q = refl
same_each Is same (x ∷ xs) (y ∷ ys) (item json rest) p q =
    let first = same x y json p.0 q.0 in
    let others = same_each Is same xs ys rest p.1 q.1 in
    λ i. first i ∷ others i
same_each Is same [] ys (item json rest) p q = absurd p
same_each Is same [] (y ∷ ys) no_items p q = absurd q
same_each Is same (x ∷ xs) ys no_items p q = absurd p
same_each Is same (x ∷ xs) [] (item json rest) p q = absurd q

pub same_optional : {A : Type 0} (Is : A → Data → Type 0) → IsOfOneTree Is → (x y : Option A) (json : Option Data) → IsOptional Is x json →
    IsOptional Is y json → x ≡ y
same_optional Is same None None None p q = refl
same_optional Is same (Some a) (Some b) (Some json) p q = ap Some (same a b json p q)
same_optional Is same None y (Some json) p q = absurd p
same_optional Is same None (Some b) None p q = absurd q
same_optional Is same (Some a) y None p q = absurd p
same_optional Is same (Some a) None (Some json) p q = absurd q

-- NODES

abbrev pub IsOfKind : List ℕ → Data → Type 0
IsOfKind kind json = member_of (codes "kind") json ≡ Some (string kind)

-- a node is of one kind
pub different : (a b : List ℕ) (json : Data) → IsOfKind a json → IsOfKind b json → pointwise nat_eq a b ≡ false → ⊥
different a b json p q apart = true≢false (sym ((bytes_eq-Decides a b).1 (same_string (codes "kind") json a b p q)) ∙ apart)

-- null is of no kind
pub no_null : (kind : List ℕ) → IsOfKind kind null → ⊥
no_null kind is = cc

-- a node is not null
pub never_null_of : {Tree : Type 0} {Is : Unknown → Tree → Data → Type 0} → NodeLaws Is → (unknown : Unknown) → IsNeverNull (Is unknown)
never_null_of laws unknown tree is = let found = laws.node unknown tree null is in no_null found.kind found.node.is.0

pub json_laws : {Tree : Type 0} {Is : Unknown → Tree → Data → Type 0} → NodeLaws Is → JsonLaws Is
json_laws laws = record { one_tree = laws.one_tree; never_null = never_null_of laws }

-- a flag is one or the other
pub same_flag : (a b : Bool) (found : Option Data) → IsFlag a found → IsFlag b found → a ≡ b
same_flag a b None p q = p ∙ sym q
same_flag a b (Some json) p q = cc

-- NAMES AND STRINGS

pub same_name : (unknown : Unknown) → IsOfOneTree (IsName unknown)
same_name unknown a b json p q = same_text a b (same_string (codes "value") json a.text b.text p.1 q.1)

pub same_string_value : (unknown : Unknown) → IsOfOneTree (IsStringValue unknown)
same_string_value unknown a b json p q = same_text a b (encodes_same a.text b.text (some_string _ _ (sym p.1 ∙ q.1)))

pub name_laws : NodeLaws IsName
name_laws = record {
  one_tree = same_name;
  node = λ unknown name json is. record { kind = codes "Name"; node = record { names = codes "value" ∷ []; is = is.0 } };
}

pub string_laws : NodeLaws IsStringValue
string_laws = record {
  one_tree = same_string_value;
  node = λ unknown text json is. record { kind = codes "StringValue"; node = record { names = codes "value" ∷ codes "block" ∷ []; is = is.0 } };
}
