-- Runs, one file after another.
use Rattle.kmin_tidy.proofs.Common.{◌≡◌, ℕ, false, List, [], ◌∷◌, ◌++◌, inl, refl, sym, ap, ◌∙◌, subst, map, Disk, DiskState, newest, content_at, Stays-refl, TidySettings, IsKept, IsTidy, AreTidy, DoneFile, Run, one_more, HoldsMinimalFile, Minimal, ErrorLine}
use Rattle.std.specs.List.{AllByRecursion}
use Rattle.kmin_tidy.specs.Runs.{path_of, none, AreMinimal}
use Rattle.kmin_tidy.proofs.KeptPlaces.{kept_after, minimal_kept}
use Rattle.kmin_tidy.proofs.StepLemmas.{step_kept, step_places, step_unasked, step_minimal, step_tidy}

-- a property of all elements of a list is one of all elements of its front
pub all_front : {A : Type 0} (P : A → Type 0) (xs ys : List A) → AllByRecursion P (xs ++ ys) → AllByRecursion P xs
all_front P [] ys h = tt
all_front P (x ∷ xs) ys h = (h.0, all_front P xs ys h.1)

pub all_next : {A : Type 0} (P : A → Type 0) (xs : List A) (y : A) (ys : List A) → AllByRecursion P (xs ++ y ∷ ys) → P y
all_next P [] y ys h = h.0
all_next P (x ∷ xs) y ys h = all_next P xs y ys h.1

all_more : {A : Type 0} (P : A → Type 0) (xs : List A) (y : A) → AllByRecursion P xs → P y → AllByRecursion P (xs ++ y ∷ [])
all_more P [] y h k = (k, tt)
all_more P (x ∷ xs) y h k = (h.0, all_more P xs y h.1 k)

all_weaker : {A : Type 0} (P Q : A → Type 0) (xs : List A) → ((x : A) → P x → Q x) → AllByRecursion P xs → AllByRecursion Q xs
all_weaker P Q [] f h = tt
all_weaker P Q (x ∷ xs) f h = (f x h.0, all_weaker P Q xs f h.1)

pub map_last : (front : List DoneFile) (last : DoneFile) → map path_of (front ++ last ∷ []) ≡ map path_of front ++ last.0 ∷ []
map_last [] last = refl
map_last (x ∷ front) last = ap (λ z. x.0 ∷ z) (map_last front last)

-- after a run, each place is as before, or its file was replaced by its minimal file
pub run_kept : (s : TidySettings) (a b : Disk) (files : List DoneFile) (text : List ℕ) (reports : List ErrorLine) → Run s a b files text reports
    → (place : List ℕ) → IsKept s (a.state.history place) (b.state.history place)
run_kept s a b files text reports none place = inl (Stays-refl (a.state.history place) (a.state.history place) refl)
run_kept s a b files text reports (one_more between new front all path before line whole earlier own every outcome run step e w r) place =
    kept_after s (a.state.history place) (between.state.history place) (new.state.history place) (run_kept s a between front before earlier run place)
    (step_kept s between new path line own outcome step place)

-- a run without `write` leaves the state of the disk unchanged
pub run_unasked : (s : TidySettings) (a b : Disk) (files : List DoneFile) (text : List ℕ) (reports : List ErrorLine) → Run s a b files text reports
    → s.options.write ≡ false → b.state ≡ a.state
run_unasked s a b files text reports none unasked = refl
run_unasked s a b files text reports (one_more between new front all path before line whole earlier own every outcome run step e w r) unasked =
    step_unasked s between new path line own outcome step unasked ∙ run_unasked s a between front before earlier run unasked

-- a run over files that are all minimal or refused already leaves the state of the disk unchanged, and has no line of standard output
pub run_tidy : (s : TidySettings) (a b : Disk) (files : List DoneFile) (text : List ℕ) (reports : List ErrorLine) → Run s a b files text reports
    → AreTidy s a.state (map path_of files) → (b.state ≡ a.state) × (text ≡ [])
run_tidy s a b files text reports none t = (refl, refl)
run_tidy s a b files text reports (one_more between new front all path before line whole earlier own every outcome run step e w r) t =
    let P : List ℕ → Type 0 = λ p. IsTidy s (newest (a.state.history (a.state.place p))) in
    let here : AllByRecursion P (map path_of front ++ path ∷ []) = subst (AllByRecursion P) (ap (map path_of) e ∙ map_last front (path, outcome)) t in
    let before_it : (between.state ≡ a.state) × (before ≡ []) = run_tidy s a between front before earlier run (all_front P (map path_of front) (path ∷ []) here) in
    let last : IsTidy s (content_at between.state path) =
    subst (λ (d : DiskState). IsTidy s (content_at d path)) (sym before_it.0) (all_next P (map path_of front) path [] here) in
    let it : (new.state ≡ between.state) × (line ≡ []) = step_tidy s between new path line own outcome step last in
    (it.0 ∙ before_it.0, w ∙ (ap (λ z. z ++ line) before_it.1 ∙ it.1))

-- each file of a run with the outcome `Minimal` is a minimal file at the end of the run
pub run_minimal : (s : TidySettings) (a b : Disk) (files : List DoneFile) (text : List ℕ) (reports : List ErrorLine) → Run s a b files text reports
    → AreMinimal s b.state files
run_minimal s a b files text reports none = tt
run_minimal s a b files text reports (one_more between new front all path before line whole earlier own every outcome run step e w r) =
    let P : DiskState → DoneFile → Type 0 = λ d done. done.1 ≡ Minimal → HoldsMinimalFile s (d.history (d.place done.0)) in
    let before_it : AllByRecursion (P between.state) front = run_minimal s a between front before earlier run in
    let kept : AllByRecursion (P new.state) front = all_weaker (P between.state) (P new.state) front (λ done h z.
    subst (λ (p : List ℕ). HoldsMinimalFile s (new.state.history p)) (sym (step_places s between new path line own outcome step done.0))
    (minimal_kept s (between.state.history (between.state.place done.0)) (new.state.history (between.state.place done.0))
    (step_kept s between new path line own outcome step (between.state.place done.0)) (h z))) before_it in
    subst (AllByRecursion (P new.state)) (sym e) (all_more (P new.state) front (path, outcome) kept (step_minimal s between new path line own outcome step))
