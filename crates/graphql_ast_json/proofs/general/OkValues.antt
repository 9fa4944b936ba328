-- What two clauses say of the value of an `Ok`, taken together.
use Rattle.std.proofs.Common.{Result, Ok, Err, IfOk}

pub both_then : {A E : Type 0} (result : Result A E) {P Q R : A → Type 0} → IfOk result P → IfOk result Q → ((x : A) → P x → Q x → R x) → IfOk result R
both_then (Ok x) p q then = then x p q
both_then (Err e) p q then = tt

pub one_then : {A E : Type 0} (result : Result A E) {P Q : A → Type 0} → IfOk result P → ((x : A) → P x → Q x) → IfOk result Q
one_then (Ok x) p then = then x p
one_then (Err e) p then = tt

pub three_then : {A E : Type 0} (result : Result A E) {P Q R S : A → Type 0} → IfOk result P → IfOk result Q → IfOk result R →
    ((x : A) → P x → Q x → R x → S x) → IfOk result S
three_then (Ok x) p q r then = then x p q r
three_then (Err e) p q r then = tt
