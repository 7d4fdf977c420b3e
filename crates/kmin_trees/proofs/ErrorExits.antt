-- What holds where a `?` returns an error.
use Rattle.kmin_trees.proofs.Common.{◌≡◌, ℕ, List, Result, Ok, Err, IfErr, refl, arith, ErrorLine, SpelledBytes, TakesLines, RunError, status_of, Settings, Surroundings, TreeTexts, AreTextsOfJob, StopsAtTree, memory_err}
use Rattle.std.specs.Result.{IsErr, IsErrAnd}
use Rattle.kc_files.specs.TreeContents.{HasRisen}
use Rattle.kmin_report.specs.declared.run_error.RunError.TheVariants.{Memory}
use Rattle.kmin_trees.specs.Stops.{for_memory}

-- what holds of an error is said of the result that has it
pub with_error : {T E : Type 0} (r : Result T E) (e : E) (P : E → Type 0) → IsErrAnd r (λ y. y ≡ e) → P e → IfErr r P
with_error (Ok x) e P h k = absurd h
with_error (Err y) e P h k = rw h k

-- memory that runs out isn't a failed call
pub memory_unfailed : {T : Type 0} (r : Result T RunError) (counted counted_after : ℕ) → IsErr r × IsErrAnd r (λ stop. stop ≡ Memory)
    → IfErr r (λ stop. status_of stop ≡ 5 → HasRisen counted counted_after)
memory_unfailed r counted counted_after h = memory_err r _ h (λ stop status. λ five. absurd (omega arith))

-- a run for which memory runs out after the texts of its tree ends at the tree, with their lines
pub memory_stops : {T : Type 0} (r : Result T RunError) (known : Surroundings) (counted counted_after : ℕ) (settings : Settings) (t : TreeTexts)
    (taken taken_after : SpelledBytes) (failed failed_after : ℕ) → IsErr r × IsErrAnd r (λ stop. stop ≡ Memory) → AreTextsOfJob known settings t
    → TakesLines taken failed t.lines taken_after failed_after
    → IfErr r (λ stop. (lines : List ErrorLine) × StopsAtTree known counted counted_after settings (status_of stop) lines × TakesLines taken failed lines taken_after failed_after)
memory_stops r known counted counted_after settings t taken taken_after failed failed_after h are takes =
    memory_err r _ h (λ stop status. (t.lines, for_memory t are status refl, takes))
