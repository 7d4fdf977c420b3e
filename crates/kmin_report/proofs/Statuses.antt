-- Exit statuses: what follows from what a run gives.
use Rattle.std.proofs.Common.{◌≡◌, ◌≢◌, ◌≤◌, ◌⊎◌, ℕ, inl, inr, arith}
use Rattle.kmin_report.specs.between.RunErrors.{status_of}
use Rattle.kmin_report.specs.declared.run_error.RunError.{RunError}
use Rattle.kmin_report.specs.declared.run_error.RunError.TheVariants.{Tree, Configuration, Failed, Memory}

-- the status of an error that ends a run is one of a fault
pub of_fault : (stop : RunError) (status : ℕ) → status ≡ status_of stop → (status ≢ 0) × (status ≢ 1) × (status ≢ 2)
of_fault Tree status is = (λ e. omega arith, λ e. omega arith, λ e. omega arith)
of_fault Configuration status is = (λ e. omega arith, λ e. omega arith, λ e. omega arith)
of_fault Failed status is = (λ e. omega arith, λ e. omega arith, λ e. omega arith)
of_fault Memory status is = (λ e. omega arith, λ e. omega arith, λ e. omega arith)

-- the status of an output, 0 or 1
module _ (status : ℕ) (small : status ≤ 1) where
  pub output_at_most_six : status ≤ 6
  output_at_most_six = omega arith

  pub output_not_two : status ≢ 2
  output_not_two two = omega arith

  pub output_not_five : {P : Type 0} → status ≡ 5 → P
  output_not_five five = absurd (omega arith)

  pub output_no_other : {P : Type 0} → status ≢ 0 → status ≢ 1 → P
  output_no_other zero one = absurd (omega arith)

-- the status of a failed write, 5
module _ (status : ℕ) (five : status ≡ 5) where
  pub failed_at_most_six : status ≤ 6
  failed_at_most_six = omega arith

  pub failed_not_two : status ≢ 2
  failed_not_two two = omega arith

  pub failed_not_done : {P : Type 0} → (status ≡ 0) ⊎ (status ≡ 1) → P
  failed_not_done (inl zero) = absurd (omega arith)
  failed_not_done (inr one) = absurd (omega arith)

-- the status of an error that ends a run
pub fault_at_most_six : (stop : RunError) (status : ℕ) → status ≡ status_of stop → status ≤ 6
fault_at_most_six Tree status is = omega arith
fault_at_most_six Configuration status is = omega arith
fault_at_most_six Failed status is = omega arith
fault_at_most_six Memory status is = omega arith

pub fault_not_done : {P : Type 0} (status : ℕ) → (status ≢ 0) × (status ≢ 1) × (status ≢ 2) → (status ≡ 0) ⊎ (status ≡ 1) → P
fault_not_done status fault (inl zero) = absurd (fault.0 zero)
fault_not_done status fault (inr one) = absurd (fault.1 one)
