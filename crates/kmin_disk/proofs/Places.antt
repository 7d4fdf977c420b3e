-- Every place of a disk after the steps of a replacing.
use Rattle.std.proofs.Common.{◌≡◌, ◌≢◌, ℕ, true, false, List, [], ◌∷◌, Option, Some, None, ◌⊎◌, inl, inr, refl, ap, sym, ◌∙◌, subst}
use Rattle.std.specs.Bool.{Decides}
use Rattle.std.specs.Str.{bytes_eq}
use Rattle.std.proofs.lemmas.Slice.Eq.{bytes_eq-Decides}
use Rattle.kmin_disk.specs.Contents.{nothing, file, unfinished}
use Rattle.kmin_disk.specs.Disks.{DiskState, History, Stays, IsUnchanged, Replaces, with_newest, newest}
use Rattle.kmin_disk.specs.NewFiles.{Draft, Creates, Renames, Removes, IsSameDraft, Takes, and_then, after_rename}

-- two places are equal or different
pub same_place_or_other : (p q : List ℕ) → (p ≡ q) ⊎ (p ≢ q)
same_place_or_other p q =
    elim (bytes_eq p q) as (λ b. Decides b (p ≡ q) → (p ≡ q) ⊎ (p ≢ q)) [
      | true ↦ λ d. inl (d.0 refl)
      | false ↦ λ d. inr (λ e. let h : false ≡ true = d.1 e in cc)
    ] (bytes_eq-Decides p q)

pub Stays-refl : (old new : History) → new ≡ old → Stays old new
Stays-refl old new same = record { same_content = ap newest same; same_history = λ some. same }

-- a place that held nothing is as it was after a new file was created at it and removed
pub Stays-passed : (old : History) → (newest old ≢ None → newest old ≡ Some nothing) → Stays old (with_newest nothing (with_newest unfinished old))
Stays-passed [] free = record { same_content = refl; same_history = λ some. refl }
Stays-passed (content ∷ before) free =
    let is : Some content ≡ Some nothing = free (λ e. let z : Some content ≡ None = e in cc) in
    record { same_content = sym is; same_history = λ some. absurd (some is) }

-- the place of a new file is as it was after the file was created and removed
pub own_place_stays : (a b c : DiskState) (path new_path : List ℕ) (draft last : Draft) → Creates a b path new_path draft → last.own ≡ draft.own
    → c.history last.own ≡ with_newest nothing (b.history last.own) → (place : List ℕ) → place ≡ draft.own → Stays (a.history place) (c.history place)
own_place_stays a b c path new_path draft last made own gone place is =
    let now : c.history draft.own ≡ with_newest nothing (with_newest unfinished (a.history draft.own)) =
    ap c.history (sym own) ∙ (gone ∙ (ap (λ o. with_newest nothing (b.history o)) own ∙ ap (with_newest nothing) made.made)) in
    subst (λ p. Stays (a.history p) (c.history p)) (sym is) (subst (Stays (a.history draft.own)) (sym now) (Stays-passed (a.history draft.own) made.free))

-- a disk is unchanged after a new file was created and removed
pub unchanged_by_removal : (a b c : DiskState) (path new_path : List ℕ) (draft last : Draft) → Creates a b path new_path draft → IsSameDraft draft last
    → Removes b c last → IsUnchanged a c
unchanged_by_removal a b c path new_path draft last made same gone = record {
  places = λ any. gone.places any ∙ made.places any;
  histories = λ place. elim (same_place_or_other place draft.own) [
    | inl is ↦ own_place_stays a b c path new_path draft last made same.own gone.gone place is
    | inr other ↦ Stays-refl (a.history place) (c.history place) (gone.others place (λ e. other (e ∙ same.own)) ∙ made.others place other)
  ];
}

pub after_rename-begun : (begun : Option (List ℕ)) (bytes : List ℕ) (history : History) → (newest history ≢ None → begun ≡ Some [])
    → after_rename (and_then begun bytes) history ≡ with_newest (file bytes) history
after_rename-begun None bytes [] empty = refl
after_rename-begun (Some begun) bytes [] empty = refl
after_rename-begun begun bytes (content ∷ before) empty =
    let is : begun ≡ Some [] = empty (λ e. let z : Some content ≡ None = e in cc) in
    ap (λ some. after_rename (and_then some bytes) (content ∷ before)) is

-- a new file that was created, took all bytes and was renamed to its target has replaced the file at the target's path
pub replaces_by_rename : (a b c : DiskState) (path new_path bytes : List ℕ) (draft last : Draft) → Creates a b path new_path draft → Takes draft last bytes
    → Renames b c last → Replaces a c path bytes
replaces_by_rename a b c path new_path bytes draft last made took renamed =
    let own : last.own ≡ draft.own = took.own in
    let target : last.target ≡ draft.target = took.target in
    let before : b.history draft.target ≡ a.history draft.target = made.others draft.target (λ e. made.apart (sym e)) in
    let now : c.history draft.target ≡ with_newest (file bytes) (a.history draft.target) =
    ap c.history (sym target) ∙ (renamed.target ∙ (ap (λ t. after_rename last.bytes (b.history t)) target
    ∙ (ap (after_rename last.bytes) before ∙ (ap (λ some. after_rename some (a.history draft.target)) took.bytes
    ∙ after_rename-begun draft.bytes bytes (a.history draft.target) made.empty)))) in
    record {
      places = λ any. renamed.places any ∙ made.places any;
      target = subst (λ p. c.history p ≡ with_newest (file bytes) (a.history p)) made.target now;
      others = λ place other. elim (same_place_or_other place draft.own) [
        | inl is ↦ own_place_stays a b c path new_path draft last made own renamed.gone place is
        | inr apart ↦ Stays-refl (a.history place) (c.history place) (renamed.others place (λ e. apart (e ∙ own)) (λ e. other (e ∙ (target ∙ made.target)))
            ∙ made.others place apart)
      ];
    }
