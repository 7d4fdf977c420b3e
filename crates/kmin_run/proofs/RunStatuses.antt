-- Exit statuses: what follows from what a run gives.
use Rattle.kmin_run.proofs.Common.{◌≡◌, ◌≢◌, ◌≤◌, ◌⊎◌, ℕ, inl, inr, arith}

-- what holds on every status but 0 and 5 holds on 4
pub on_four : {P : Type 0} (status : ℕ) → status ≡ 4 → (status ≢ 0 → status ≢ 5 → P) → P
on_four status four h = h (λ zero. omega arith) (λ five. omega arith)

-- the status of words or a list that are refused, 2
pub two_at_most_six : (status : ℕ) → status ≡ 2 → status ≤ 6
two_at_most_six status two = omega arith

-- the status of a help, 0 or 5
module _ (status : ℕ) (help : (status ≡ 0) ⊎ (status ≡ 5)) where
  pub help_at_most_six : status ≤ 6
  help_at_most_six = elim help [ inl zero ↦ omega arith | inr five ↦ omega arith ]

  pub help_no_other : {P : Type 0} → status ≢ 0 → status ≢ 5 → P
  help_no_other zero five = absurd (elim help [ inl e ↦ zero e | inr e ↦ five e ])
