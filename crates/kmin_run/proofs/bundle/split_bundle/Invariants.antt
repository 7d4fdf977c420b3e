use Rattle.kmin_run.proofs.Common.{◌≡◌, ◌++◌, ◌⊎◌, List, [], ℕ, IsTrue, length, HasWholeLines, has_no_marker}
use Rattle.kmin_run.proofs.bundle.split_bundle.Given as goal

-- the bundle is `rest` after lines none of which is `%%`
abbrev pub invariant-loop-line : goal.invariant-loop-line
invariant-loop-line l = (front : List ℕ) × IsTrue (has_no_marker front) × (HasWholeLines front ⊎ (l.rest ≡ [])) × (l.fn.bundle ≡ front ++ l.rest)

abbrev pub decreases-loop-line : goal.decreases-loop-line
decreases-loop-line l = length l.rest
