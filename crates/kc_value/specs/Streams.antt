-- How reads and writes change the count of failures.
use Rattle.std.specs.Prelude.{ℕ, ◌+◌, ◌-◌, ◌^◌, min, Result, Ok, Err, List, zero, suc, [], ◌∷◌}

-- a count of failures plus one, up to 2^64 - 1
abbrev pub one_failure_more : ℕ → ℕ
one_failure_more n = min (n + 1) (2 ^ 64 - 1)

-- the count of a reader's failures after a read, by the count before and the read's result
abbrev pub failures_after_read : {T E : Type 0} → ℕ → Result T E → ℕ
failures_after_read n (Ok taken) = n
failures_after_read n (Err e) = one_failure_more n

-- the count of a writer's failures after a write of bytes, by the count before and the write's result; to take none of one or
-- more bytes is a failure too
abbrev pub failures_after_write : {E : Type 0} → ℕ → Result ℕ E → List ℕ → ℕ
failures_after_write n (Ok taken) [] = n
failures_after_write n (Ok zero) (b ∷ bs) = one_failure_more n
failures_after_write n (Ok (suc taken)) (b ∷ bs) = n
failures_after_write n (Err e) bytes = one_failure_more n
