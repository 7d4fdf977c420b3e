-- The disk after one file of a run.
use Rattle.kmin_tidy.proofs.Common.{◌≡◌, ◌≢◌, ℕ, true, false, List, [], Option, Some, None, inl, inr, sym, ap, ◌∙◌, subst, Content, nothing, file, unfinished, special, Disk, DiskState, MayFailOnce, content_at, Stays-refl, same_place_or_other, TidySettings, Notices, refuses_notices, IsReadAs, HasMinimalFile}
use Rattle.kmin_tidy.proofs.Common.{Step, noticed, minimal, shown, replaced, unwritten, unsynced, call_failed, names_taken, not_regular, IsMinimised, IsKept, IsTidy, HoldsMinimalFile, FileOutcome, Minimal, NotMinimal, Refused, Failed, IsNotAccepted, ErrorLine}
use Rattle.kmin_disk.specs.Disks.{IsUnchanged, Replaces}
use Rattle.kmin_tidy.specs.MinimalFiles.{IsNotMinimal}
use Rattle.kmin_tidy.specs.Steps.{refused, IsUnwritten}
use Rattle.kmin_tidy.specs.Refusals as refusals
use Rattle.kmin_tidy.proofs.KeptPlaces.{minimal_not, written_minimal, holds_read, holds_written}

same_state : (a b : Disk) → b ≡ a → b.state ≡ a.state
same_state a b e = ap (λ (d : Disk). d.state) e

-- a call that failed and changes no file leaves the state of the disk as it was
pub once_same : (a b : Disk) → MayFailOnce a b → b.state ≡ a.state
once_same a b (inl e) = same_state a b e
once_same a b (inr h) = h.same

module _ (s : TidySettings) (a b : Disk) (path : List ℕ) where
  -- a file that is refused leaves the state of the disk as it was
  refused_same : (line : ErrorLine) (outcome : FileOutcome) → IsNotAccepted s a b path outcome line → b.state ≡ a.state
  refused_same line outcome (refusals.faulty bytes kind number r first h o l) = once_same a b h
  refused_same line outcome (refusals.unread front rest number r first h o l) = h.same
  refused_same line outcome (refusals.unopened may opens h o l) = h.same
  refused_same line outcome (refusals.not_regular w k e o l) = same_state a b e

  -- on a disk whose state is unchanged, each place is as it was
  pub same_kept : b.state ≡ a.state → (place : List ℕ) → IsKept s (a.state.history place) (b.state.history place)
  same_kept e place = inl (Stays-refl (a.state.history place) (b.state.history place) (ap (λ (d : DiskState). d.history place) e))

  pub unchanged_kept : IsUnchanged a.state b.state → (place : List ℕ) → IsKept s (a.state.history place) (b.state.history place)
  unchanged_kept u place = inl (u.histories place)

  -- replacing the file at a path by its minimal file changes the place of that path alone, as `IsKept` allows
  pub replaced_kept : (bytes minimal_bytes : List ℕ) (notices : Notices) → IsNotMinimal s a.state path bytes minimal_bytes notices → Replaces a.state b.state path minimal_bytes
      → (place : List ℕ) → IsKept s (a.state.history place) (b.state.history place)
  replaced_kept bytes minimal_bytes notices d r place =
      elim (same_place_or_other place (a.state.place path)) [
        | inl is ↦ inr (subst (λ p. IsMinimised s (a.state.history p) (b.state.history p)) (sym is) (record {
          bytes = bytes;
          minimal_bytes = minimal_bytes;
          notices = notices;
          read = d.minimises.read.bytes_are;
          minimal = d.minimises.minimal;
          differs = d.differs;
          replaced = r.target;
        }))
        | inr other ↦ inl (r.others place other)
      ]

  unwritten_kept : IsUnwritten a b path → (place : List ℕ) → IsKept s (a.state.history place) (b.state.history place)
  unwritten_kept (call_failed u f) place = unchanged_kept u place
  unwritten_kept (names_taken u t f) place = unchanged_kept u place
  unwritten_kept (not_regular u k f) place = unchanged_kept u place

  -- after one file of a run, each place is as before, or its file was replaced by its minimal file
  pub step_kept : (line : List ℕ) (reports : List ErrorLine) (outcome : FileOutcome) → Step s a b path line reports outcome
      → (place : List ℕ) → IsKept s (a.state.history place) (b.state.history place)
  step_kept line reports outcome (refused report r l k) place = same_kept (refused_same report outcome r) place
  step_kept line reports outcome (noticed bytes notices r h some asked e l k o) place = same_kept (same_state a b e) place
  step_kept line reports outcome (minimal bytes notices m e l k o) place = same_kept (same_state a b e) place
  step_kept line reports outcome (shown bytes minimal_bytes notices d w e l k o) place = same_kept (same_state a b e) place
  step_kept line reports outcome (replaced bytes minimal_bytes notices d w r f l k o) place = replaced_kept bytes minimal_bytes notices d r place
  step_kept line reports outcome (unwritten bytes minimal_bytes notices d w u l k o) place = unwritten_kept u place
  step_kept line reports outcome (unsynced bytes minimal_bytes notices d w u l k o) place = replaced_kept bytes minimal_bytes notices d u.replaced place

  same_places : b.state ≡ a.state → (any : List ℕ) → b.state.place any ≡ a.state.place any
  same_places e any = ap (λ (d : DiskState). d.place any) e

  unwritten_places : IsUnwritten a b path → (any : List ℕ) → b.state.place any ≡ a.state.place any
  unwritten_places (call_failed u f) any = u.places any
  unwritten_places (names_taken u t f) any = u.places any
  unwritten_places (not_regular u k f) any = u.places any

  -- each path leads to the same place before and after one file of a run
  pub step_places : (line : List ℕ) (reports : List ErrorLine) (outcome : FileOutcome) → Step s a b path line reports outcome
      → (any : List ℕ) → b.state.place any ≡ a.state.place any
  step_places line reports outcome (refused report r l k) any = same_places (refused_same report outcome r) any
  step_places line reports outcome (noticed bytes notices r h some asked e l k o) any = same_places (same_state a b e) any
  step_places line reports outcome (minimal bytes notices m e l k o) any = same_places (same_state a b e) any
  step_places line reports outcome (shown bytes minimal_bytes notices d w e l k o) any = same_places (same_state a b e) any
  step_places line reports outcome (replaced bytes minimal_bytes notices d w r f l k o) any = r.places any
  step_places line reports outcome (unwritten bytes minimal_bytes notices d w u l k o) any = unwritten_places u any
  step_places line reports outcome (unsynced bytes minimal_bytes notices d w u l k o) any = u.replaced.places any

  -- without `write`, one file of a run leaves the state of the disk unchanged
  pub step_unasked : (line : List ℕ) (reports : List ErrorLine) (outcome : FileOutcome) → Step s a b path line reports outcome
      → s.options.write ≡ false → b.state ≡ a.state
  step_unasked line reports outcome (refused report r l k) unasked = refused_same report outcome r
  step_unasked line reports outcome (noticed bytes notices r h some asked e l k o) unasked = same_state a b e
  step_unasked line reports outcome (minimal bytes notices m e l k o) unasked = same_state a b e
  step_unasked line reports outcome (shown bytes minimal_bytes notices d w e l k o) unasked = same_state a b e
  step_unasked line reports outcome (replaced bytes minimal_bytes notices d w r f l k o) unasked = let z : true ≡ false = sym w ∙ unasked in (cc)
  step_unasked line reports outcome (unwritten bytes minimal_bytes notices d w u l k o) unasked = let z : true ≡ false = sym w ∙ unasked in (cc)
  step_unasked line reports outcome (unsynced bytes minimal_bytes notices d w u l k o) unasked = let z : true ≡ false = sym w ∙ unasked in (cc)

  refused_not_minimal : (line : ErrorLine) (outcome : FileOutcome) → IsNotAccepted s a b path outcome line → outcome ≡ Minimal → ⊥
  refused_not_minimal line outcome (refusals.faulty bytes kind number r first h o l) m = let z : Refused ≡ Minimal = sym o ∙ m in (cc)
  refused_not_minimal line outcome (refusals.unread front rest number r first h o l) m = let z : Failed ≡ Minimal = sym o ∙ m in (cc)
  refused_not_minimal line outcome (refusals.unopened may opens h o l) m = let z : Failed ≡ Minimal = sym o ∙ m in (cc)
  refused_not_minimal line outcome (refusals.not_regular w k e o l) m = let z : Failed ≡ Minimal = sym o ∙ m in (cc)

  -- after one file of a run with the outcome `Minimal`, its path leads to a minimal file
  pub step_minimal : (line : List ℕ) (reports : List ErrorLine) (outcome : FileOutcome) → Step s a b path line reports outcome
      → outcome ≡ Minimal → HoldsMinimalFile s (b.state.history (b.state.place path))
  step_minimal line reports outcome (refused report r l k) m = absurd (refused_not_minimal report outcome r m)
  step_minimal line reports outcome (noticed bytes notices r h some asked e l k o) m = let z : Refused ≡ Minimal = sym o ∙ m in (cc)
  step_minimal line reports outcome (minimal bytes notices h e l k o) m =
      subst (λ (d : Disk). HoldsMinimalFile s (d.state.history (d.state.place path))) (sym e)
      (holds_read s (a.state.history (a.state.place path)) bytes h.read.bytes_are (written_minimal s bytes bytes notices h.minimal))
  step_minimal line reports outcome (shown bytes minimal_bytes notices d w e l k o) m = let z : NotMinimal ≡ Minimal = sym o ∙ m in (cc)
  step_minimal line reports outcome (replaced bytes minimal_bytes notices d w r f l k o) m =
      subst (λ p. HoldsMinimalFile s (b.state.history p)) (sym (r.places path))
      (subst (HoldsMinimalFile s) (sym r.target) (holds_written s (a.state.history (a.state.place path)) minimal_bytes
      (written_minimal s bytes minimal_bytes notices d.minimises.minimal)))
  step_minimal line reports outcome (unwritten bytes minimal_bytes notices d w u l k o) m = let z : Failed ≡ Minimal = sym o ∙ m in (cc)
  step_minimal line reports outcome (unsynced bytes minimal_bytes notices d w u l k o) m = let z : Failed ≡ Minimal = sym o ∙ m in (cc)

-- a file of a tidy content has no minimal file of other bytes, and isn't accepted unless it is minimal
tidy_content : (s : TidySettings) (content : Option Content) (bytes minimal_bytes : List ℕ) (notices : Notices) → IsTidy s content → IsReadAs content bytes
    → HasMinimalFile s bytes minimal_bytes notices → (refuses_notices s.options ≡ true → notices ≡ []) → minimal_bytes ≢ bytes → ⊥
tidy_content s None bytes minimal_bytes notices t r m allowed other = t
tidy_content s (Some nothing) bytes minimal_bytes notices t r m allowed other = r
tidy_content s (Some (file known)) bytes minimal_bytes notices (inl own) r m allowed other = minimal_not s known bytes minimal_bytes notices r own m other
tidy_content s (Some (file known)) bytes minimal_bytes notices (inr refuses) r m allowed other =
    let f = refuses minimal_bytes notices (subst (λ x. HasMinimalFile s x minimal_bytes notices) r m) in f.1 (allowed f.0)
tidy_content s (Some unfinished) bytes minimal_bytes notices t r m allowed other = t
tidy_content s (Some special) bytes minimal_bytes notices t r m allowed other = t

-- a path that leads to no file, or to a minimal or refused one, has no minimal file of other bytes
pub tidy_same : (s : TidySettings) (disk : DiskState) (path bytes minimal_bytes : List ℕ) (notices : Notices) → IsTidy s (content_at disk path)
    → IsNotMinimal s disk path bytes minimal_bytes notices → ⊥
tidy_same s disk path bytes minimal_bytes notices t d =
    tidy_content s (content_at disk path) bytes minimal_bytes notices t d.minimises.read.bytes_are d.minimises.minimal d.minimises.allowed d.differs

-- a path that leads to no file, or to a minimal or refused one, has no line of standard output, and leaves the state of the disk
-- unchanged
pub step_tidy : (s : TidySettings) (a b : Disk) (path line : List ℕ) (reports : List ErrorLine) (outcome : FileOutcome) → Step s a b path line reports outcome
    → IsTidy s (content_at a.state path) → (b.state ≡ a.state) × (line ≡ [])
step_tidy s a b path line reports outcome (refused report r l k) t = (refused_same s a b path report outcome r, l)
step_tidy s a b path line reports outcome (noticed bytes notices r h some asked e l k o) t = (same_state a b e, l)
step_tidy s a b path line reports outcome (minimal bytes notices m e l k o) t = (same_state a b e, l)
step_tidy s a b path line reports outcome (shown bytes minimal_bytes notices d w e l k o) t = absurd (tidy_same s a.state path bytes minimal_bytes notices t d)
step_tidy s a b path line reports outcome (replaced bytes minimal_bytes notices d w r f l k o) t = absurd (tidy_same s a.state path bytes minimal_bytes notices t d)
step_tidy s a b path line reports outcome (unwritten bytes minimal_bytes notices d w u l k o) t = absurd (tidy_same s a.state path bytes minimal_bytes notices t d)
step_tidy s a b path line reports outcome (unsynced bytes minimal_bytes notices d w u l k o) t = absurd (tidy_same s a.state path bytes minimal_bytes notices t d)
