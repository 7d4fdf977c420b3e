-- The bytes that a script has left after a read.
use Rattle.std.proofs.Common.{◌≡◌, ℕ, ◌+◌, List, ◌++◌, take, drop, sym, drop-drop}
use Rattle.std.proofs.lemmas.List.{take-append-drop}
use Rattle.std.specs.Io.KnownBytes.{Consumes}
use Rattle.kmin_fakes.specs.declared.test_streams.Then.{Then}
use Rattle.kmin_fakes.specs.declared.test_streams.Then.TheVariants.{End, Fail, FailOnce, Again}
use Rattle.kmin_fakes.specs.TestScripts.{script_bytes_left}

pub consumes : (t : Then) (xs ys bs : List ℕ) → xs ≡ bs ++ ys → Consumes (script_bytes_left t xs) (script_bytes_left t ys) bs
consumes End xs ys bs e = e
consumes Fail xs ys bs e = e
consumes FailOnce xs ys bs e = e
consumes Again xs ys bs e = tt

pub parted : (xs : List ℕ) (at n : ℕ) → drop at xs ≡ take n (drop at xs) ++ drop (at + n) xs
parted xs at n = rw (← drop-drop n at xs) (sym (take-append-drop n (drop at xs)))
