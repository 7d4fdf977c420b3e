-- What holds of the disk and the output when a run over files ends.
use Rattle.std.proofs.Common.{string_bytes}
use Rattle.std.specs.Io.KnownBytes.{Appends}
use Rattle.std.proofs.KnownBytes.{Appends-nil}
use Rattle.kmin_tidy.proofs.Common.{◌≡◌, ◌≢◌, ℕ, true, false, List, [], ◌∷◌, ◌++◌, Option, Some, None, inl, inr, refl, sym, ap, ◌∙◌, subst, length, arith, append-nil, nothing, unfinished, Disk, DiskState, History, newest, with_newest, content_at, Stays-refl, same_place_or_other, TidySettings, Tidies, IsKept}
use Rattle.kmin_tidy.proofs.Common.{IsTidy, AreTidy, StopsRun, TidyStop, Memory, ErrorLine, Result, Ok, Err, IfOk, IfErr, TakesLines, lines_append}
use Rattle.kmin_report.specs.StandardError.{SpelledBytes}
use Rattle.kmin_tidy.specs.Ends.{Ends, whole, part, stopped, Stops, before_write, at_write, at_left, IsToBeReplaced, LeavesNewFile}
use Rattle.kmin_tidy.specs.Promises.{IsKeptOrLeft}
use Rattle.kmin_tidy.specs.checker.Endings.{status_of_stop, IsWrittenOut}
use Rattle.kmin_tidy.specs.checker.Endings as written
use Rattle.kmin_tidy.specs.checker.FileResults as results
use Rattle.kmin_tidy.specs.checker.ReportLines.{stop_line}
use Rattle.kmin_tidy.specs.declared.stop.TidyStop.TheVariants.{Left}
use Rattle.kmin_tidy.specs.declared.whole_run.RunResult.{RunResult}
use Rattle.kmin_tidy.proofs.KeptPlaces.{kept_after, newest_written}
use Rattle.kmin_tidy.proofs.StepLemmas.{once_same, tidy_same}
use Rattle.kmin_tidy.proofs.RunLemmas.{all_front, all_next, run_kept, run_unasked, run_tidy}

module _ (s : TidySettings) (a : Disk) where
  tidies_kept : (b : Disk) (paths : List (List ℕ)) (text : List ℕ) (reports : List ErrorLine) (status : ℕ) → Tidies s a b paths text reports status
      → (place : List ℕ) → IsKept s (a.state.history place) (b.state.history place)
  tidies_kept b paths text reports status t place = run_kept s a b t.files text reports t.run place

  tidies_unasked : (b : Disk) (paths : List (List ℕ)) (text : List ℕ) (reports : List ErrorLine) (status : ℕ) → Tidies s a b paths text reports status
      → s.options.write ≡ false → b.state ≡ a.state
  tidies_unasked b paths text reports status t unasked = run_unasked s a b t.files text reports t.run unasked

  tidies_tidy : (b : Disk) (paths : List (List ℕ)) (text : List ℕ) (reports : List ErrorLine) (status : ℕ) → Tidies s a b paths text reports status
      → AreTidy s a.state paths → (b.state ≡ a.state) × (text ≡ [])
  tidies_tidy b paths text reports status t tidy =
      run_tidy s a b t.files text reports t.run (subst (AreTidy s a.state) (sym t.paths_are) tidy)

  -- a place that held nothing, and at which a new file is left, has changed as `IsKeptOrLeft` allows
  new_place : (before between after : History) → IsKept s before between → after ≡ with_newest unfinished between
      → (newest between ≢ None → newest between ≡ Some nothing)
      → IsKeptOrLeft s before after
  new_place before [] after k left free = inl (subst (IsKept s before) (sym left) k)
  new_place before (content ∷ rest) after (inl stays) left free =
      let is : Some content ≡ Some nothing = free (λ e. let z : Some content ≡ None = e in (cc)) in
      inr (sym stays.same_content ∙ is, ap newest left)
  new_place before (content ∷ rest) after (inr m) left free =
      let is : Some content ≡ Some nothing = free (λ e. let z : Some content ≡ None = e in (cc)) in
      absurd (newest_written m.minimal_bytes before (ap newest (sym m.replaced) ∙ is))

  left_became : (between b : Disk) (path new_path place : List ℕ) → LeavesNewFile between b path new_path
      → IsKept s (a.state.history place) (between.state.history place) → IsKeptOrLeft s (a.state.history place) (b.state.history place)
  left_became between b path new_path place l k =
      elim (same_place_or_other place (between.state.place new_path)) [
        | inl is ↦ (let kept : IsKept s (a.state.history (between.state.place new_path)) (between.state.history (between.state.place new_path)) =
            subst (λ p. IsKept s (a.state.history p) (between.state.history p)) is k in
            subst (λ p. IsKeptOrLeft s (a.state.history p) (b.state.history p)) (sym is)
            (new_place (a.state.history (between.state.place new_path)) (between.state.history (between.state.place new_path))
            (b.state.history (between.state.place new_path))
            kept l.leaves.left l.leaves.free))
        | inr other ↦ inl (kept_after s (a.state.history place) (between.state.history place) (b.state.history place) k
            (inl (Stays-refl (between.state.history place) (b.state.history place) (l.leaves.others place other))))
      ]

  stops_became : (b : Disk) (paths : List (List ℕ)) (reports : List ErrorLine) (status : ℕ) → Stops s a b paths reports status
      → (place : List ℕ) → IsKeptOrLeft s (a.state.history place) (b.state.history place)
  stops_became b paths reports status (before_write between front back text earlier made e t same r n) place =
      inl (subst (λ (d : DiskState). IsKept s (a.state.history place) (d.history place)) (sym (once_same between b same))
      (tidies_kept between front text earlier made t place))
  stops_became b paths reports status (at_write between front back path text earlier made e t asked u r n) place =
      inl (kept_after s (a.state.history place) (between.state.history place) (b.state.history place) (tidies_kept between front text earlier made t place)
      (inl (u.histories place)))
  stops_became b paths reports status (at_left between front back path new_path text earlier made e t asked l r n) place =
      left_became between b path new_path place l (tidies_kept between front text earlier made t place)

  -- after a run, each place is as before, has its minimal file as its newest content, or has an unfinished new file
  pub ends_became : (b : Disk) (paths : List (List ℕ)) (reports : List ErrorLine) (taken after : Option (List ℕ)) (failed failed_after status : ℕ)
      → Ends s a b paths taken after failed failed_after reports status → (place : List ℕ) → IsKeptOrLeft s (a.state.history place) (b.state.history place)
  ends_became b paths reports taken after failed failed_after status (whole text t w f) place = inl (tidies_kept b paths text reports status t place)
  ends_became b paths reports taken after failed failed_after status (part text earlier made count t l w f r n) place =
      inl (tidies_kept b paths text earlier made t place)
  ends_became b paths reports taken after failed failed_after status (stopped h same f) place = stops_became b paths reports status h place

  asked_not : (d : Disk) (path : List ℕ) → IsToBeReplaced s d path → s.options.write ≡ false → ⊥
  asked_not d path asked unasked = let z : true ≡ false = sym asked.asked ∙ unasked in (cc)

  stops_unasked : (b : Disk) (paths : List (List ℕ)) (reports : List ErrorLine) (status : ℕ) → Stops s a b paths reports status → s.options.write ≡ false → b.state ≡ a.state
  stops_unasked b paths reports status (before_write between front back text earlier made e t same r n) unasked =
      once_same between b same ∙ tidies_unasked between front text earlier made t unasked
  stops_unasked b paths reports status (at_write between front back path text earlier made e t asked u r n) unasked =
      absurd (asked_not between path asked unasked)
  stops_unasked b paths reports status (at_left between front back path new_path text earlier made e t asked l r n) unasked =
      absurd (asked_not between path asked unasked)

  -- a run without `write` leaves the state of the disk unchanged
  pub ends_unasked : (b : Disk) (paths : List (List ℕ)) (reports : List ErrorLine) (taken after : Option (List ℕ)) (failed failed_after status : ℕ)
      → Ends s a b paths taken after failed failed_after reports status → s.options.write ≡ false → b.state ≡ a.state
  ends_unasked b paths reports taken after failed failed_after status (whole text t w f) unasked = tidies_unasked b paths text reports status t unasked
  ends_unasked b paths reports taken after failed failed_after status (part text earlier made count t l w f r n) unasked =
      tidies_unasked b paths text earlier made t unasked
  ends_unasked b paths reports taken after failed failed_after status (stopped h same f) unasked = stops_unasked b paths reports status h unasked

  tidy_parts : (paths front back : List (List ℕ)) → paths ≡ front ++ back → AreTidy s a.state paths → AreTidy s a.state (front ++ back)
  tidy_parts paths front back e tidy = subst (AreTidy s a.state) e tidy

  to_be_replaced_not : (between : Disk) (paths front back : List (List ℕ)) (path : List ℕ) → between.state ≡ a.state → paths ≡ front ++ path ∷ back
      → AreTidy s a.state paths
      → IsToBeReplaced s between path → ⊥
  to_be_replaced_not between paths front back path same e tidy asked =
      let P : List ℕ → Type 0 = λ p. IsTidy s (newest (a.state.history (a.state.place p))) in
      let here : IsTidy s (content_at between.state path) =
      subst (λ (d : DiskState). IsTidy s (content_at d path)) (sym same) (all_next P front path back (tidy_parts paths front (path ∷ back) e tidy)) in
      tidy_same s between.state path asked.bytes asked.minimal_bytes asked.notices here asked.differs

  tidies_front : (b : Disk) (paths front back : List (List ℕ)) (text : List ℕ) (reports : List ErrorLine) (status : ℕ) → paths ≡ front ++ back
      → Tidies s a b front text reports status → AreTidy s a.state paths → (b.state ≡ a.state) × (text ≡ [])
  tidies_front b paths front back text reports status e t tidy =
      let P : List ℕ → Type 0 = λ p. IsTidy s (newest (a.state.history (a.state.place p))) in
      tidies_tidy b front text reports status t (all_front P front back (tidy_parts paths front back e tidy))

  stops_again : (b : Disk) (paths : List (List ℕ)) (reports : List ErrorLine) (status : ℕ) → Stops s a b paths reports status → AreTidy s a.state paths → b.state ≡ a.state
  stops_again b paths reports status (before_write between front back text earlier made e t same r n) tidy =
      once_same between b same ∙ (tidies_front between paths front back text earlier made e t tidy).0
  stops_again b paths reports status (at_write between front back path text earlier made e t asked u r n) tidy =
      absurd (to_be_replaced_not between paths front back path (tidies_front between paths front (path ∷ back) text earlier made e t tidy).0 e tidy asked)
  stops_again b paths reports status (at_left between front back path new_path text earlier made e t asked l r n) tidy =
      absurd (to_be_replaced_not between paths front back path (tidies_front between paths front (path ∷ back) text earlier made e t tidy).0 e tidy asked)

  -- a run over files that are all minimal or refused already leaves the state of the disk unchanged
  pub ends_again : (b : Disk) (paths : List (List ℕ)) (reports : List ErrorLine) (taken after : Option (List ℕ)) (failed failed_after status : ℕ)
      → Ends s a b paths taken after failed failed_after reports status → AreTidy s a.state paths → b.state ≡ a.state
  ends_again b paths reports taken after failed failed_after status (whole text t w f) tidy = (tidies_tidy b paths text reports status t tidy).0
  ends_again b paths reports taken after failed failed_after status (part text earlier made count t l w f r n) tidy =
      (tidies_tidy b paths text earlier made t tidy).0
  ends_again b paths reports taken after failed failed_after status (stopped h same f) tidy = stops_again b paths reports status h tidy

  -- a run over files that are all minimal or refused already writes nothing to standard output
  pub ends_silent : (b : Disk) (paths : List (List ℕ)) (reports : List ErrorLine) (taken after : Option (List ℕ)) (failed failed_after status : ℕ)
      → Ends s a b paths taken after failed failed_after reports status → AreTidy s a.state paths → Appends taken after []
  ends_silent b paths reports taken after failed failed_after status (whole text t w f) tidy =
      subst (Appends taken after) (tidies_tidy b paths text reports status t tidy).1 w
  ends_silent b paths reports taken after failed failed_after status (part text earlier made count t l w f r n) tidy =
      let none : length text ≡ 0 = ap length (tidies_tidy b paths text earlier made t tidy).1 in absurd (omega arith)
  ends_silent b paths reports taken after failed failed_after status (stopped h same f) tidy =
      subst (λ later. Appends taken later []) (sym same) (Appends-nil taken)

-- a run that went over all its files, and whose text was then written whole or in part, ends as `Ends` says
pub ends_written : (s : TidySettings) (a b : Disk) (paths : List (List ℕ)) (tidied : RunResult) (earlier own : List ErrorLine) (taken after : Option (List ℕ))
    (failed failed_after status : ℕ)
    → Tidies s a b paths tidied.text.items earlier tidied.status → IsWrittenOut tidied taken after failed failed_after own status
    → Ends s a b paths taken after failed failed_after (earlier ++ own) status
ends_written s a b paths tidied earlier own taken after failed failed_after status t (written.whole w f r n) =
    whole tidied.text.items
    (subst (λ m. Tidies s a b paths tidied.text.items (earlier ++ own) m) (sym n)
    (subst (λ rs. Tidies s a b paths tidied.text.items rs tidied.status) (sym (ap (λ rs. earlier ++ rs) r ∙ append-nil earlier)) t)) w f
ends_written s a b paths tidied earlier own taken after failed failed_after status t (written.part count l w f r n) =
    part tidied.text.items earlier tidied.status count t l w f (ap (λ rs. earlier ++ rs) r) n

-- a run that ended early, and then wrote the line of the reason to standard error, ends as `Ends` says
pub ends_early : (s : TidySettings) (a b : Disk) (paths : List (List ℕ)) (earlier : List ErrorLine) (stop : TidyStop) (taken : Option (List ℕ)) (failed status : ℕ)
    → StopsRun s a b paths earlier stop → status ≡ status_of_stop stop → Ends s a b paths taken taken failed failed (earlier ++ stop_line stop ∷ []) status
ends_early s a b paths earlier Memory taken failed status (results.before_write between front back text made e t same is) n =
    stopped (before_write between front back text earlier made e t same refl n) refl refl
ends_early s a b paths earlier Memory taken failed status (results.at_write between front back path text made e t asked u) n =
    stopped (at_write between front back path text earlier made e t asked u refl n) refl refl
ends_early s a b paths earlier (Left new_path) taken failed status (results.before_write between front back text made e t same is) n = (cc (is))
ends_early s a b paths earlier (Left new_path) taken failed status (results.at_write between front back path text made e t asked l) n =
    stopped (at_left between front back path (string_bytes new_path) text earlier made e t asked l refl n) refl refl

-- a run that ended, and then wrote its text, or the line of the reason why it ended early, ends as `Ends` says
pub ends_by : (s : TidySettings) (a b : Disk) (paths : List (List ℕ)) (ended : Result RunResult TidyStop) (taken after : Option (List ℕ)) (failed failed_after status : ℕ)
    (err err_between err_after : SpelledBytes) (unwritten unwritten_between unwritten_after : ℕ)
    → IfOk ended (λ tidied. (reports : List ErrorLine) × Tidies s a b paths tidied.text.items reports tidied.status × TakesLines err unwritten reports err_between unwritten_between)
    → IfErr ended (λ stop. (reports : List ErrorLine) × StopsRun s a b paths reports stop × TakesLines err unwritten reports err_between unwritten_between)
    → IfOk ended (λ tidied. (reports : List ErrorLine) × IsWrittenOut tidied taken after failed failed_after reports status × TakesLines err_between unwritten_between reports err_after unwritten_after)
    → IfErr ended (λ stop. (status ≡ status_of_stop stop) × (after ≡ taken) × (failed_after ≡ failed) × TakesLines err_between unwritten_between (stop_line stop ∷ []) err_after unwritten_after)
    → (reports : List ErrorLine) × Ends s a b paths taken after failed failed_after reports status × TakesLines err unwritten reports err_after unwritten_after
ends_by s a b paths (Ok tidied) taken after failed failed_after status err err_between err_after unwritten unwritten_between unwritten_after run stops written early =
    (_, ends_written s a b paths tidied run.0 written.0 taken after failed failed_after status run.1 written.1, lines_append _ _ _ _ run.0 written.0 _ _ run.2 written.2)
ends_by s a b paths (Err stop) taken after failed failed_after status err err_between err_after unwritten unwritten_between unwritten_after run stops written early = (
  _,
  subst (λ t. Ends s a b paths taken t failed failed_after (stops.0 ++ stop_line stop ∷ []) status) (sym early.1)
      (subst (λ n. Ends s a b paths taken taken failed n (stops.0 ++ stop_line stop ∷ []) status) (sym early.2)
      (ends_early s a b paths stops.0 stop taken failed status stops.1 early.0)),
  lines_append _ _ _ _ stops.0 _ _ _ stops.2 early.3,
)
