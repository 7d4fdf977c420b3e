-- The status of a run, one file after another.
use Rattle.std.proofs.Common.{max}
use Rattle.kmin_tidy.specs.Runs.{status_of, status_with}
use Rattle.kmin_tidy.specs.checker.Statuses.{status_by}
use Rattle.kmin_tidy.proofs.Common.{◌≡◌, ℕ, ◌<◌, ◌≤◌, List, [], ◌∷◌, ◌++◌, refl, ap, ◌∙◌, arith, DoneFile, status_after, FileOutcome, Minimal, NotMinimal, Refused, Failed}
use Rattle.std.proofs.lemmas.Bool.Decides.{nat_tests}

first_status : (outcome : FileOutcome) → status_with outcome 0 ≡ status_after 0 outcome
first_status Minimal = refl
first_status NotMinimal = refl
first_status Refused = refl
first_status Failed = refl

max_one : (n : ℕ) (outcome : FileOutcome) → max 1 (status_after n outcome) ≡ status_after (max 1 n) outcome
max_one n Minimal = grind (arith, nat_tests)
max_one n NotMinimal = grind (arith, nat_tests)
max_one n Refused = grind (arith, nat_tests)
max_one n Failed = grind (arith, nat_tests)

with_last : (first : FileOutcome) (rest after : ℕ) (last : FileOutcome) → after ≡ status_after rest last
    → status_with first after ≡ status_after (status_with first rest) last
with_last Minimal rest after last e = e
with_last NotMinimal rest after last e = ap (max 1) e ∙ max_one rest last
with_last Refused rest after last e = refl
with_last Failed rest after last e = refl

-- the status of a run with one file more follows from the status before it and the outcome of that file
pub status_last : (files : List DoneFile) (last : DoneFile) → status_of (files ++ last ∷ []) ≡ status_after (status_of files) last.1
status_last [] last = first_status last.1
status_last (first ∷ files) last = with_last first.1 (status_of files) (status_of (files ++ last ∷ [])) last.1 (status_last files last)

-- a status of 4 or more stays, whatever the outcome of the next file
pub high_status : (status : ℕ) (outcome : FileOutcome) → 4 ≤ status → status ≡ status_after status outcome
high_status status outcome h = grind (arith, nat_tests)

-- for a status below 4, the status after one file more is the one that `status_by` gives
pub low_status : (status : ℕ) (outcome : FileOutcome) → status < 4 → status_by status outcome ≡ status_after status outcome
low_status status outcome h = grind (arith, nat_tests)
