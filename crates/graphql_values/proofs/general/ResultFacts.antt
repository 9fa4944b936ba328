-- Facts about results.
use Rattle.std.proofs.Common.{Result, Ok, Err}
use Rattle.std.specs.Result.{OkIff}

-- a premise that holds may be left out
pub without_premise : {T E : Type 0} (N F : Type 0) (r : Result T E) (x : T) → N → OkIff r (N × F) x → OkIff r F x
without_premise N F (Ok y) x n h = (h.0.1, h.1)
without_premise N F (Err e) x n h = λ f. h (n, f)
