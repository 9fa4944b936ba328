-- How the types of the code are compared, hashed and cloned.
use Rattle.std.specs.Prelude.{◌≡◌, ◌↔◌, Bool, IsTrue}

-- Two are equal exactly if their trees are the same.
abbrev pub IsComparedBy : {T X : Type 0} → (T → T → Bool) → (T → X) → Type 0
IsComparedBy {T} eq tree = (a b : T) → IsTrue (eq a b) ↔ (tree a ≡ tree b)

-- What is equal is hashed alike.
abbrev pub IsHashedAlike : {T X : Type 0} → (T → T → Bool) → (T → X) → Type 0
IsHashedAlike {T} eq hash_input = (a b : T) → IsTrue (eq a b) → hash_input a ≡ hash_input b

infixr 30 ◌&◌
-- two things that are taken of a value
abbrev pub ◌&◌ : {X Y : Type 0} → X → Y → X × Y
◌&◌ one other = (one, other)

-- Clones keep what is taken of a value.
abbrev pub ClonesKeep : {T X : Type 0} → (T → T → Type 0) → (T → X) → Type 0
ClonesKeep {T} is_clone taken = (value copy : T) → is_clone value copy → taken copy ≡ taken value
