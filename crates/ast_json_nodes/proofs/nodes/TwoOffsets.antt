-- Of Nodes: a location of `serde_json` whose members are `end` and `start` alone.
use Rattle.std.proofs.Common.{◌≡◌, ℕ, ◌-◌, List, [], ◌∷◌, Option, Some, length, slice_get, option_and_then, codes, refl}
use Rattle.std.specs.Prelude.{String, string_bytes}
use Rattle.std.specs.declared.alloc.Global.{Global}
use Rattle.serde_json.specs.Data.{Data, null, boolean, number, string, array, object, unsigned, negative, float}
use Rattle.serde_json.specs.Find.{as_number, as_u64}
use Rattle.serde_json.specs.View.{members_view, view}
use Rattle.serde_json.specs.declared.value.Value.{Value}
use Rattle.parsed_json.specs.AnyJson.{two_numbers}

-- data that is an integer from 0 on
counted : (d : Data) (n : ℕ) → Some n ≡ option_and_then as_u64 (as_number d) → d ≡ number (unsigned n)
counted null n is = cc
counted (boolean b) n is = cc
counted (number (unsigned m)) n is = cc
counted (number (negative z)) n is = cc
counted (number (float x)) n is = cc
counted (string s) n is = cc
counted (array ds) n is = cc
counted (object ms) n is = cc

-- a list of two
pair : {A : Type 0} (xs : List A) (a b : A) → length xs ≡ 2 → slice_get xs 0 ≡ Some a → slice_get xs (length xs - 1) ≡ Some b → xs ≡ a ∷ b ∷ []
pair [] a b two first last = cc
pair (x ∷ []) a b two first last = cc
pair (x ∷ y ∷ []) a b two first last = cc
pair (x ∷ y ∷ z ∷ zs) a b two first last = cc

-- an object with the members `end` and `start` alone, which are integers from 0 on
pub are_offsets : (es : List (String Global × Value)) (k l : String Global) (v w : Value) (m n : ℕ) →
    length es ≡ 2 → slice_get es 0 ≡ Some (k, v) → slice_get es (length es - 1) ≡ Some (l, w) →
    string_bytes k ≡ codes "end" → string_bytes l ≡ codes "start" →
    Some n ≡ option_and_then as_u64 (as_number (view v)) → Some m ≡ option_and_then as_u64 (as_number (view w)) →
    object (members_view es) ≡ two_numbers (codes "start") m (codes "end") n
are_offsets es k l v w m n two first last end start ends starts =
    rw (pair es (k, v) (l, w) two first last) rw end rw start rw (counted (view v) n ends) rw (counted (view w) m starts) refl
