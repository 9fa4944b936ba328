-- What stands inside of JSON nests less deep than the JSON.
use Rattle.std.proofs.Common.{◌≡◌, ℕ, zero, suc, ◌<◌, ◌≤◌, List, [], ◌∷◌, length, get_or, Option, Some, None, IfSome, sym, ap, arith}
use Rattle.std.proofs.Common.{Ordering, Less, Equal, Greater}
use Rattle.std.specs.Ordering.{match_ordering}
use Rattle.serde_json.specs.Data.{Data, null, boolean, number, string, array, object, Items, Members, no_members, member, depth, items_depth, members_depth}
use Rattle.serde_json.specs.Find.{as_array, get, get_member}
use Rattle.serde_json.specs.View.{items_of}

abbrev Within : ℕ → Option Data → Type 0
Within n found = IfSome found (λ json. depth json ≤ n)

choose : (o : Ordering) (a b : Option Data) (n : ℕ) → Within n a → Within n b → Within n (match_ordering o a b a)
choose Less a b n p q = p
choose Equal a b n p q = q
choose Greater a b n p q = p

wider : (found : Option Data) (m n : ℕ) → m ≤ n → Within m found → Within n found
wider None m n le h = tt
wider (Some json) m n le h = omega arith

get_member-depth : (name : List ℕ) (members : Members) → Within (members_depth members) (get_member name members)
get_member-depth name no_members = tt
get_member-depth name (member other json more) =
    choose _ (get_member name more) (Some json) _ (wider (get_member name more) (members_depth more) _ (omega arith) (get_member-depth name more)) (omega arith)

less : (found : Option Data) (n : ℕ) → Within n found → IfSome found (λ json. depth json < suc n)
less None n h = tt
less (Some json) n h = omega arith

-- a member is less deep than the object
pub get-depth : (name : List ℕ) (json : Data) → IfSome (get name json) (λ inner. depth inner < depth json)
get-depth name null = tt
get-depth name (boolean b) = tt
get-depth name (number n) = tt
get-depth name (string s) = tt
get-depth name (array items) = tt
get-depth name (object members) = less (get_member name members) _ (get_member-depth name members)

-- an item is no deeper than the items
pub item-depth : (items : List Data) (i : ℕ) (other : Data) → i < length items → depth (get_or items i other) ≤ items_depth (items_of items)
item-depth [] i other h = absurd (omega arith)
item-depth (first ∷ more) zero other h = omega arith
item-depth (first ∷ more) (suc i) other h = omega (arith, item-depth more i other (omega arith))

-- an array is one deeper than its items
pub array-depth : (json : Data) (items : Items) → Some items ≡ as_array json → depth json ≡ suc (items_depth items)
array-depth (array more) items is = let same : items ≡ more = cc in ap (λ them. suc (items_depth them)) (sym same)
array-depth null items is = cc
array-depth (boolean b) items is = cc
array-depth (number n) items is = cc
array-depth (string s) items is = cc
array-depth (object them) items is = cc
