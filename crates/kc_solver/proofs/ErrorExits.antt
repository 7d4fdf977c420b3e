-- What holds where a `?` returns an error.
use Rattle.std.proofs.Common.{◌≡◌, Result, Ok, Err, OnOk, IfOk}
use Rattle.std.specs.Result.{IsErrAnd}

-- what is said of success holds of an error
pub no_success : {T E : Type 0} (r : Result T E) (e : E) (P : Type 0) → IsErrAnd r (λ y. y ≡ e) → OnOk r P
no_success (Ok x) e P h = absurd h
no_success (Err y) e P h = tt

-- what is said of a value holds of an error
pub no_value : {T E : Type 0} (r : Result T E) (e : E) (P : T → Type 0) → IsErrAnd r (λ y. y ≡ e) → IfOk r P
no_value (Ok x) e P h = absurd h
no_value (Err y) e P h = tt
