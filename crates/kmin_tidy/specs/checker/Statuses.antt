-- The status of a run, one file after another.
use Rattle.std.specs.Prelude.{ℕ, nat_le, max, if◌then◌else◌}
use Rattle.kmin_tidy.specs.declared.outcome.FileOutcome.{FileOutcome}
use Rattle.kmin_tidy.specs.declared.outcome.FileOutcome.TheVariants.{Minimal, NotMinimal, Refused, Failed}

-- the status of a run after one file more, where the status before it is below 4: no file was refused or failed
abbrev pub status_by : ℕ → FileOutcome → ℕ
status_by status Minimal = status
status_by status NotMinimal = max status 1
status_by status Refused = 4
status_by status Failed = 5

-- the status of a run after one file more, by the status before it and the outcome of that file; a status of 4 or more stays
abbrev pub status_after : ℕ → FileOutcome → ℕ
status_after status outcome = if nat_le 4 status then status else status_by status outcome
