-- A disk after a file of it was opened, read and closed.
use Rattle.kmin_tidy.proofs.Common.{◌≡◌, ℕ, ◌⊎◌, inl, inr, ap, ◌∙◌, one_failure_more, Disk, FailsOnce, MayFailOnce}
use Rattle.kmin_disk.specs.Failures.{failures_after_close}

-- a disk with the same state and the same count of failed calls is the same
pub same_disk : (a b : Disk) → b.state ≡ a.state → b.failures ≡ a.failures → b ≡ a
same_disk a b same count = ap (λ s. record { state = s; failures = b.failures }) same ∙ ap (λ n. record { state = a.state; failures = n }) count

-- a file of which no read had failed was read and closed
module _ (a b : Disk) (before after : ℕ) (none : before ≡ 0) (same : b.state ≡ a.state) (count : b.failures ≡ failures_after_close a.failures after) where
  pub closed_unfailed : after ≡ before → b ≡ a
  closed_unfailed is = same_disk a b same (count ∙ ap (failures_after_close a.failures) (is ∙ none))

  pub closed_failed : after ≡ one_failure_more before → FailsOnce a b
  closed_failed is = record { same = same; failures = count ∙ ap (failures_after_close a.failures) (is ∙ ap one_failure_more none) }

  pub closed_once : (after ≡ before) ⊎ (after ≡ one_failure_more before) → MayFailOnce a b
  closed_once (inl is) = inl (closed_unfailed is)
  closed_once (inr is) = inr (closed_failed is)
