-- Runs that end with the status of a failure had one.
use Rattle.kmin_run.proofs.Common.{◌≡◌, ℕ, ◌⊎◌, List, arith, HasRisen, ErrorLine, BundleEnds, Input, Outputs}
use Rattle.kmin_run.specs.Runs.{HelpEnds}
use Rattle.kmin_run.specs.Runs as runs

-- a run on a bundle that ends with the status of a failure had one
pub bundle_rises : (input input_after : Input) (old new : Outputs) (lines : List ErrorLine) (status : ℕ) → BundleEnds input input_after old new lines status
    → status ≡ 5 → HasRisen input.failures input_after.failures ⊎ HasRisen old.failures new.failures
bundle_rises input input_after old new lines status (runs.done bundle text s r w a t i n d) five = absurd (omega arith)
bundle_rises input input_after old new lines status (runs.stopped own s i w h d l) five = h five

-- a help that ends with the status of a failure had one
pub help_rises : (text : List ℕ) (old new : Outputs) (lines : List ErrorLine) (status : ℕ) → HelpEnds text old new lines status → status ≡ 5
    → HasRisen old.failures new.failures
help_rises text old new lines status (runs.done s a n d l) five = absurd (omega arith)
help_rises text old new lines status (runs.stopped written w s a h d l) five = h
