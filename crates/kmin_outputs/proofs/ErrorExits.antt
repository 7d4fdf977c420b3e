-- What holds where a `?` returns an error.
use Rattle.std.proofs.Common.{◌≡◌, Result, Ok, Err}
use Rattle.std.specs.Result.{IsErrAnd}
pub use Rattle.kmin_trees.proofs.ErrorExits.{with_error}

-- a value is no error
pub value_is_no_error : {T E : Type 0} (x : T) (e : E) → Ok x ≡ Err e → ⊥
value_is_no_error x e h = cc

-- the error of a result is the one that it is known to have
pub error_is : {T E : Type 0} (r : Result T E) (e b : E) → IsErrAnd r (λ y. y ≡ e) → r ≡ Err b → e ≡ b
error_is (Ok x) e b h k = absurd h
error_is (Err y) e b h k = cc
