-- Runs that keep within what they may do.
use Rattle.kmin_run.proofs.Common.{◌≡◌, ◌≢◌, ◌≤◌, ◌⊎◌, ℕ, inl, inr, ap, subst, arith, Disk, Outputs, RunState, HasRisen}
use Rattle.kmin_run.specs.Runs.{HasFailed}
use Rattle.kmin_run.specs.between.StateRuns.{KeepsWithin}

-- a run that may do less than another keeps within what that one may do
pub keeps_by : {Tidies MayChange Tidying Changing : Type 0} (before after : RunState) (status : ℕ) → (Tidies → Tidying) → (MayChange → Changing)
    → KeepsWithin before after status Tidies MayChange → KeepsWithin before after status Tidying Changing
keeps_by before after status tidies changes keeps = record {
  bounded = keeps.bounded;
  unasked = elim keeps.unasked [ inl same ↦ inl same | inr may ↦ inr (changes may) ];
  refused = λ four. elim (keeps.refused four) [ inl same ↦ inl same | inr is ↦ inr (tidies is) ];
  unwritten = keeps.unwritten;
  failed = λ five. elim (keeps.failed five) [
    | inl rose ↦ inl rose
    | inr other ↦ inr (elim other [ inl is ↦ inl (tidies is) | inr may ↦ inr (changes may) ])
  ];
}

module _ {Tidies MayChange : Type 0} (before after : RunState) (status : ℕ) where
  -- a run keeps within the same since before a step that changed no output, and of which nothing failed
  pub keeps_since : (middle : RunState) → middle.counted ≡ before.counted → middle.input.failures ≡ before.input.failures → middle.outputs ≡ before.outputs
      → KeepsWithin middle after status Tidies MayChange → KeepsWithin before after status Tidies MayChange
  keeps_since middle counted failures outputs keeps = record {
    bounded = keeps.bounded;
    unasked = subst (λ (o : Outputs). (after.outputs.disk.state ≡ o.disk.state) ⊎ MayChange) outputs keeps.unasked;
    refused = subst (λ (o : Outputs). status ≡ 4 → (after.outputs.taken ≡ o.taken) ⊎ Tidies) outputs keeps.refused;
    unwritten = subst (λ (o : Outputs). status ≢ 0 → status ≢ 1 → status ≢ 4 → status ≢ 5 → after.outputs.taken ≡ o.taken) outputs keeps.unwritten;
    failed = λ five. elim (keeps.failed five) [
      | inl (inl rose) ↦ inl (inl (subst (λ n. HasRisen n after.counted) counted rose))
      | inl (inr (inl rose)) ↦ inl (inr (inl (subst (λ n. HasRisen n after.input.failures) failures rose)))
      | inl (inr (inr rose)) ↦ inl (inr (inr (subst (λ (o : Outputs). HasRisen o.failures after.outputs.failures) outputs rose)))
      | inr other ↦ inr other
    ];
  }

  -- a run that changed no output keeps within anything
  pub keeps_unchanged : after.outputs ≡ before.outputs → status ≤ 6 → (status ≡ 5 → HasFailed before after) → KeepsWithin before after status Tidies MayChange
  keeps_unchanged same bounded failed = record {
    bounded = bounded;
    unasked = inl (ap (λ (o : Outputs). o.disk.state) same);
    refused = λ four. inl (ap (λ (o : Outputs). o.taken) same);
    unwritten = λ zero one four five. ap (λ (o : Outputs). o.taken) same;
    failed = λ five. inl (failed five);
  }

  -- a run that ended since words or a list were refused, with status 2, and changed no output
  pub keeps_refused : after.outputs ≡ before.outputs → status ≡ 2 → KeepsWithin before after status Tidies MayChange
  keeps_refused same two = keeps_unchanged same (omega arith) (λ five. absurd (omega arith))

  -- a run that ended since memory ran out, with status 6, and changed no output
  pub keeps_forgotten : after.outputs ≡ before.outputs → status ≡ 6 → KeepsWithin before after status Tidies MayChange
  keeps_forgotten same six = keeps_unchanged same (omega arith) (λ five. absurd (omega arith))

  -- a run that wrote an output at most, and on status 5 failed at a file or at that
  pub keeps_of_output : after.outputs.disk ≡ before.outputs.disk → status ≤ 6
      → (status ≢ 0 → status ≢ 1 → status ≢ 5 → after.outputs.taken ≡ before.outputs.taken)
      → (status ≡ 5 → HasRisen before.counted after.counted ⊎ HasRisen before.outputs.failures after.outputs.failures)
      → KeepsWithin before after status Tidies MayChange
  keeps_of_output same bounded unwritten failed = record {
    bounded = bounded;
    unasked = inl (ap (λ (disk : Disk). disk.state) same);
    refused = λ four. inl (unwritten (λ zero. omega arith) (λ one. omega arith) (λ five. omega arith));
    unwritten = λ zero one four five. unwritten zero one five;
    failed = λ five. inl (elim (failed five) [ inl files ↦ inl files | inr out ↦ inr (inr out) ]);
  }
