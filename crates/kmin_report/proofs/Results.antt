-- Facts about results.
use Rattle.std.proofs.Common.{◌≡◌, ap, Result, Ok, Err, IfOk, IfErr, OnOk}
use Rattle.std.specs.Result.{IsErr, IsErrAnd}
use Rattle.kmin_report.specs.declared.run_error.RunError.{RunError}
use Rattle.kmin_report.specs.declared.run_error.RunError.TheVariants.{Memory}
use Rattle.kmin_report.specs.between.RunErrors.{status_of}

-- the error of a result that is known to be `Err e` has every property that e has
pub if_err : {T E : Type 0} (r : Result T E) (e : E) (P : E → Type 0) → r ≡ Err e → P e → IfErr r P
if_err r e P same h = rw same h

-- if the value of a result has a property P, and P implies Q, it has Q
pub if_ok_map : {T E : Type 0} (r : Result T E) (P Q : T → Type 0) → ((x : T) → P x → Q x) → IfOk r P → IfOk r Q
if_ok_map (Ok x) P Q f h = f x h
if_ok_map (Err e) P Q f h = tt

pub if_err_map : {T E : Type 0} (r : Result T E) (P Q : E → Type 0) → ((e : E) → P e → Q e) → IfErr r P → IfErr r Q
if_err_map (Ok x) P Q f h = tt
if_err_map (Err e) P Q f h = f e h

-- if a fact holds where a call succeeded, so does another one that follows from it
pub on_ok_map : {T E : Type 0} (r : Result T E) (P Q : Type 0) → (P → Q) → OnOk r P → OnOk r Q
on_ok_map (Ok x) P Q f h = f h
on_ok_map (Err e) P Q f h = tt

-- the error of a result that failed for lack of memory has every property that all errors of the exit status 6 have
pub memory_err : {T : Type 0} (r : Result T RunError) (P : RunError → Type 0) → IsErr r × IsErrAnd r (λ stop. stop ≡ Memory)
    → ((stop : RunError) → status_of stop ≡ 6 → P stop) → IfErr r P
memory_err (Ok x) P h f = tt
memory_err (Err stop) P h f = f stop (ap status_of h.1)
