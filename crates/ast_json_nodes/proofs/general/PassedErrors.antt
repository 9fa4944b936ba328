-- An error that is passed up by `?`, and a result that is passed on.
use Rattle.std.proofs.Common.{◌≡◌, Result, Ok, Err, sym, subst}
use Rattle.std.specs.Result.{IfErr, IsErrAnd}

pub passed : {T E : Type 0} (result : Result T E) (inner : E) (P : E → Type 0) → P inner → IsErrAnd result (λ e. e ≡ inner) → IfErr result P
passed (Ok value) inner P p is = tt
passed (Err error) inner P p is = subst P (sym is) p

-- an error that is passed up as it is says more
pub turned : {T E : Type 0} (result : Result T E) (P Q : E → Type 0) → ((error : E) → P error → Q error) → IfErr result P → IfErr result Q
turned (Ok value) P Q more is = tt
turned (Err error) P Q more is = more error is

-- an error that is told from further out says what the inner one said
pub told : {T E : Type 0} (result read : Result T E) (IsSilent : E → Type 0) (None : Type 0) →
    IfErr result (λ error. ¬ IsSilent error → IsErrAnd read (λ inner. ¬ IsSilent inner)) →
    IfErr read (λ inner. ¬ IsSilent inner → None) → IfErr result (λ error. ¬ IsSilent error → None)
told (Ok value) read IsSilent None from none = tt
told (Err error) (Ok value) IsSilent None from none = λ m. absurd (from m)
told (Err error) (Err inner) IsSilent None from none = λ m. none (from m)
