-- The outputs of commands.
use Rattle.std.proofs.Common.{Vec}
use Rattle.std.specs.declared.alloc.AllocError.{AllocError}
use Rattle.std.specs.declared.alloc.Global.{Global}
use Rattle.kmin_outputs.proofs.Common.{◌≡◌, ℕ, Bool, true, false, suc, ◌≤◌, inl, inr, append-nil, List, [], ◌∷◌, ◌++◌, Option, Result, Ok, Err, IfOk, IfErr, refl, sym, ap, ◌∙◌, subst, map, arith, flat_map, Tree, tree_of_settled, FileFormat, empty_assignment, UnitValue, IsSolved, tree_in}
use Rattle.kmin_outputs.proofs.Common.{differences, FileContent, UserValue, RunError, ErrorLine, notice_lines, choice_notice_lines, ChoiceLine, choice_lines_from, AllowsNotices, SpelledBytes, TakesLines, FilesMean, difference_line, AreLoaded, AreRead, lists_of, StopsNoticing}
use Rattle.kmin_outputs.proofs.Common.{StopsProducingOutput, at_the_choices, producing_output, StopsComparing, at_left, at_right, comparing_output, ReadFiles, if_ok_map, status_of, lines_append}
use Rattle.kc_tree_model.specs.TreeFiles.{Files}
use Rattle.kc_rules_model.specs.Reports.{unmet}
use Rattle.kc_rules_model.specs.declared.profile.Profile.{Profile}
use Rattle.kc_rules.specs.declared.rules.Settled.{Settled}
use Rattle.kc_rules.specs.between.SettledViews.{profile_of}
use Rattle.kc_dotconfig_model.specs.ConfigFiles.{files_assignment}
use Rattle.kc_dotconfig_model.specs.MissedAssignments.{missed}
use Rattle.kc_config.specs.ConfigStates.{Configured}
use Rattle.kmin_options.specs.Jobs.{Settings, Task, over, compare}
use Rattle.kmin_options.specs.declared.job.Verb.{Verb}
use Rattle.kmin_options.specs.declared.job.Verb.TheVariants.{Min, Full, Missed, Check}
use Rattle.kc_minimal_model.specs.CanonicalText.{IsCanonicalText}
use Rattle.kmin_outputs.specs.declared.verb_texts.JobOutput.{JobOutput}
use Rattle.kmin_inputs.specs.FileContents.{Surroundings}
use Rattle.kmin_expansions.specs.JobTexts.{TreeTexts, AreTextsOfJob}
use Rattle.kc_dotconfig_model.specs.OtherChoices.{placed_from, other_choices_of, other_choices}
use Rattle.kmin_outputs.specs.Strictness.{RefusesNotices}
use Rattle.kmin_trees.specs.AcceptedTrees.{AreAccepted}
use Rattle.kmin_outputs.proofs.Sequences.{mean_append, notices_append}
use Rattle.kmin_outputs.specs.Outputs.{Resolve, HasOutput, of_files, of_comparison, IsTextOfVerb}
use Rattle.kmin_outputs.specs.Statuses.{status_of_list, status_of_verb}
use Rattle.kmin_outputs.specs.Stops.{StopsBefore, among_files, at_choices, NoticesOnChoices}
use Rattle.kmin_outputs.specs.Stops as stops
use Rattle.kmin_outputs.specs.between.LoadStops.{StopsOverTree}
use Rattle.kmin_outputs.specs.between.Comparisons.{AreBothRead, AreNoticed, AreBothNoticed}
use Rattle.kmin_outputs.specs.between.LoadStops as noticing

-- a configuration that was loaded from files has the one solution of the assignment of these files
pub resolved : (content_of : List ℕ → FileContent) (settings : Settings) (config : Configured) (settled : Settled) (paths : List (List ℕ))
    (taken taken_after : SpelledBytes) (failed failed_after : ℕ)
    → config.system ≡ settled → profile_of settled ≡ settings.profile → IsSolved config
    → (l : AreLoaded content_of settings.format settings.strict (tree_of_settled settled) paths (empty_assignment (tree_of_settled settled)) config.users
    taken failed
    taken_after failed_after)
    → Resolve content_of settings (tree_of_settled settled) paths l.meanings config.values
resolved content_of settings config settled paths taken taken_after failed failed_after e p s l =
    let gives = rw e at s.gives in
    record { mean = l.mean; gives = rw (← p, ← l.users_are) gives }

-- the places that are found for a configuration are those by its tree and values, and by the lists of its files
pub places_by : (config : Configured) (settled : Settled) (values : List UnitValue) (slice lines : List (ℕ × ChoiceLine)) (files chosen : List (Vec ChoiceLine Global))
    (places : List (ℕ × ℕ)) → settled ≡ config.system → values ≡ config.values → slice ≡ lines → lines ≡ placed_from 0 (lists_of files) → files ≡ chosen
    → places ≡ other_choices_of (tree_of_settled settled) values slice
    → places ≡ other_choices_of (tree_in config) config.values (placed_from 0 (lists_of chosen))
places_by config settled values slice lines files chosen places s v l made f p =
    p ∙ ap (λ (sys : Settled). other_choices_of (tree_of_settled sys) values slice) s
    ∙ ap (λ (vs : List UnitValue). other_choices_of (tree_in config) vs slice) v
    ∙ ap (other_choices_of (tree_in config) config.values) (l ∙ made ∙ ap (λ (fs : List (Vec ChoiceLine Global)). placed_from 0 (lists_of fs)) f)

-- the places of the notices on choices, from the lists of the lines of members in the files
module _ (content_of : List ℕ → FileContent) (settings : Settings) (config : Configured) (settled : Settled) (paths : List (List ℕ))
    (lists : List (List ChoiceLine)) (taken taken_after : SpelledBytes) (failed failed_after : ℕ) (same : config.system ≡ settled)
    (l : AreRead content_of settings.format settings.strict (tree_of_settled settled) paths (empty_assignment (tree_of_settled settled)) config.users
    [] lists taken failed taken_after failed_after) where
  pub places_are : other_choices_of (tree_in config) config.values (placed_from 0 lists) ≡ other_choices (tree_of_settled settled) config.values l.loaded.meanings
  places_are =
      ap (λ (ls : List (List ChoiceLine)). other_choices_of (tree_in config) config.values (placed_from 0 ls)) l.chosen_are
      ∙ ap (λ (sys : Settled). other_choices_of (tree_of_settled sys) config.values (placed_from 0 (map (choice_lines_from 1) l.loaded.meanings))) same

  pub allowed_are : AllowsNotices settings.strict (other_choices_of (tree_in config) config.values (placed_from 0 lists))
      → AllowsNotices settings.strict (other_choices (tree_of_settled settled) config.values l.loaded.meanings)
  allowed_are a e = sym places_are ∙ a e

  pub refused_are : RefusesNotices settings.strict (other_choices_of (tree_in config) config.values (placed_from 0 lists))
      → RefusesNotices settings.strict (other_choices (tree_of_settled settled) config.values l.loaded.meanings)
  refused_are a = (a.0, λ e. a.1 (places_are ∙ e))

  pub noticed_are : (from to : SpelledBytes) (failed_from failed_to : ℕ)
      → TakesLines from failed_from (choice_notice_lines paths (other_choices_of (tree_in config) config.values (placed_from 0 lists))) to failed_to
      → TakesLines from failed_from (choice_notice_lines paths (other_choices (tree_of_settled settled) config.values l.loaded.meanings)) to failed_to
  noticed_are from to failed_from failed_to t = subst (λ ps. TakesLines from failed_from (choice_notice_lines paths ps) to failed_to) places_are t

pub files_have_output : (content_of : List ℕ → FileContent) (settings : Settings) (verb : Verb) (config : Configured) (settled : Settled)
    (paths : List (List ℕ)) (lists : List (List ChoiceLine)) (text : List ℕ) (status : ℕ) (taken middle taken_after : SpelledBytes)
    (failed failed_middle failed_after : ℕ)
    → config.system ≡ settled → profile_of settled ≡ settings.profile → IsSolved config
    → AreRead content_of settings.format settings.strict (tree_of_settled settled) paths (empty_assignment (tree_of_settled settled)) config.users
    [] lists taken failed middle failed_middle
    → AllowsNotices settings.strict (other_choices_of (tree_in config) config.values (placed_from 0 lists))
    → TakesLines middle failed_middle (choice_notice_lines paths (other_choices_of (tree_in config) config.values (placed_from 0 lists))) taken_after failed_after
    → IsTextOfVerb settings (tree_in config) config.users config.values verb text
    → status ≡ status_of_verb (tree_in config) config.users config.values verb
    → (notices : List ErrorLine) × ((texts : Files) → AreAccepted texts settings.tree (tree_of_settled settled)
    → HasOutput content_of settings texts (over verb paths) text status notices)
    × TakesLines taken failed notices taken_after failed_after
files_have_output content_of settings verb config settled paths lists text status taken middle taken_after failed failed_middle failed_after e p s l a k t n =
    let loaded = l.loaded in
    let same : IsTextOfVerb settings (tree_of_settled settled) (files_assignment (tree_of_settled settled) loaded.meanings) config.values verb text =
    rw (← loaded.users_are, ← e) t in
    let number : status ≡ status_of_verb (tree_of_settled settled) (files_assignment (tree_of_settled settled) loaded.meanings) config.values verb =
    rw (← loaded.users_are, ← e) n in (
      notice_lines (tree_of_settled settled) paths loaded.meanings ++ choice_notice_lines paths (other_choices (tree_of_settled settled) config.values loaded.meanings),
      (λ texts accepted. of_files (tree_of_settled settled) verb paths loaded.meanings config.values refl accepted
          (resolved content_of settings config settled paths taken middle failed failed_middle e p s loaded) same number
          (allowed_are content_of settings config settled paths lists taken middle failed failed_middle e l a) refl),
      lines_append taken middle failed failed_middle _ _ taken_after failed_after loaded.reported
          (noticed_are content_of settings config settled paths lists taken middle failed failed_middle e l middle taken_after failed_middle failed_after k),
    )

-- the output of the verb `min`, if memory sufficed for it, is the canonical file of the values
pub canonical_text : (format : FileFormat) (profile : Profile) (tree : Tree) (users : List (Option UserValue)) (values : List UnitValue) (verb : Verb)
    (r : Result (Vec ℕ Global) AllocError) (a : Result JobOutput AllocError)
    → verb ≡ Min
    → IfOk r (λ text. IsCanonicalText format profile tree values text.items)
    → IfOk a (λ output. r ≡ Ok output.text)
    → IfOk a (λ output. (settings : Settings) → settings.format ≡ format → settings.profile ≡ profile
    → IsTextOfVerb settings tree users values verb output.text.items)
canonical_text format profile tree users values verb r (Err e) m h k = tt
canonical_text format profile tree users values verb r (Ok output) m h k =
    let made : IsCanonicalText format profile tree values output.text.items = rw k at h in λ settings p q. rw (m, p, q) made

-- the exit status of a command that lists something is at most 1
pub status_at_most_one : {A : Type 0} (says_so : Bool) (listed : List A) → status_of_list says_so listed ≤ 1
status_at_most_one false listed = omega arith
status_at_most_one true [] = omega arith
status_at_most_one true (x ∷ xs) = omega arith

-- the exit status of a verb is at most 1
pub status_of_verb_at_most_one : (tree : Tree) (users : List (Option UserValue)) (values : List UnitValue) (verb : Verb)
    → status_of_verb tree users values verb ≤ 1
status_of_verb_at_most_one tree users values Min = omega arith
status_of_verb_at_most_one tree users values Full = omega arith
status_of_verb_at_most_one tree users values (Missed exit_code) = status_at_most_one exit_code (missed tree users values)
status_of_verb_at_most_one tree users values (Check exit_code) = status_at_most_one exit_code (unmet tree values)

-- two configurations of one file each, which are read one after the other, with the notices on their choices
module _ (content_of : List ℕ → FileContent) (settings : Settings) (left right : Configured) (settled : Settled) (a b : List ℕ)
    (left_lists right_lists : List (List ChoiceLine)) (taken between middle : SpelledBytes) (failed failed_between failed_middle : ℕ)
    (same_left : left.system ≡ settled) (same_right : right.system ≡ settled) (p : profile_of settled ≡ settings.profile)
    (sl : IsSolved left) (sr : IsSolved right)
    (hl : AreRead content_of settings.format settings.strict (tree_of_settled settled) (a ∷ []) (empty_assignment (tree_of_settled settled)) left.users
    [] left_lists taken failed between failed_between)
    (hr : AreRead content_of settings.format settings.strict (tree_of_settled settled) (b ∷ []) (empty_assignment (tree_of_settled settled)) right.users
    [] right_lists between failed_between middle failed_middle) where
  abbrev tree : Tree
  tree = tree_of_settled settled

  abbrev left_choices : List (ℕ × ℕ)
  left_choices = other_choices tree left.values hl.loaded.meanings

  abbrev right_choices : List (ℕ × ℕ)
  right_choices = other_choices tree right.values hr.loaded.meanings

  abbrev of_lines : List ErrorLine
  of_lines = notice_lines tree (a ∷ []) hl.loaded.meanings ++ notice_lines tree (b ∷ []) hr.loaded.meanings

  lines_read : TakesLines taken failed of_lines middle failed_middle
  lines_read = lines_append taken between failed failed_between _ _ middle failed_middle hl.loaded.reported hr.loaded.reported

  -- both files mean what they mean alone
  both_mean : FilesMean content_of settings.format settings.strict tree (a ∷ b ∷ []) (hl.loaded.meanings ++ hr.loaded.meanings)
  both_mean = mean_append content_of settings.format settings.strict tree (b ∷ []) hr.loaded.meanings (a ∷ []) hl.loaded.meanings hr.loaded.mean hl.loaded.mean

  both_noticed : notice_lines tree (a ∷ b ∷ []) (hl.loaded.meanings ++ hr.loaded.meanings) ≡ of_lines
  both_noticed = notices_append content_of settings.format settings.strict tree (b ∷ []) hr.loaded.meanings (a ∷ []) hl.loaded.meanings hl.loaded.mean

  left_resolved : Resolve content_of settings tree (a ∷ []) hl.loaded.meanings left.values
  left_resolved = resolved content_of settings left settled (a ∷ []) taken between failed failed_between same_left p sl hl.loaded

  right_resolved : Resolve content_of settings tree (b ∷ []) hr.loaded.meanings right.values
  right_resolved = resolved content_of settings right settled (b ∷ []) between middle failed_between failed_middle same_right p sr hr.loaded

  -- the first configuration is refused for the notices on its choices, or memory runs out
  pub stopped_left : (status : ℕ) (after : SpelledBytes) (failed_after : ℕ)
      → StopsNoticing (tree_in left) left.values settings.strict (a ∷ []) left_lists status middle failed_middle after failed_after
      → (lines : List ErrorLine) × StopsOverTree content_of settings tree (compare a b) status lines × TakesLines taken failed lines after failed_after
  stopped_left status after failed_after (noticing.refused given s t) = (
    of_lines ++ choice_notice_lines (a ∷ []) left_choices,
    inr (stops.refused (hl.loaded.meanings ++ hr.loaded.meanings) [] ((b ∷ []) ∷ []) [] (a ∷ []) hl.loaded.meanings left.values both_mean refl stops.none
        left_resolved (refused_are content_of settings left settled (a ∷ []) left_lists taken between failed failed_between same_left hl given) s
        (ap (λ ls. ls ++ choice_notice_lines (a ∷ []) left_choices) (sym both_noticed))),
    lines_append taken middle failed failed_middle _ _ after failed_after lines_read
        (noticed_are content_of settings left settled (a ∷ []) left_lists taken between failed failed_between same_left hl middle after failed_middle failed_after t),
  )
  stopped_left status after failed_after (noticing.for_memory s t) = (
    of_lines ++ [],
    inr (stops.for_memory (hl.loaded.meanings ++ hr.loaded.meanings) [] ((a ∷ []) ∷ (b ∷ []) ∷ []) [] both_mean refl stops.none s
        (ap (λ ls. ls ++ []) (sym both_noticed))),
    lines_append taken middle failed failed_middle _ _ after failed_after lines_read t,
  )

  module _ (later : SpelledBytes) (failed_later : ℕ)
      (allowed : AllowsNotices settings.strict (other_choices_of (tree_in left) left.values (placed_from 0 left_lists)))
      (noted : TakesLines middle failed_middle (choice_notice_lines (a ∷ []) (other_choices_of (tree_in left) left.values (placed_from 0 left_lists))) later failed_later) where
    left_allowed : AllowsNotices settings.strict left_choices
    left_allowed = allowed_are content_of settings left settled (a ∷ []) left_lists taken between failed failed_between same_left hl allowed

    left_noted : TakesLines middle failed_middle (choice_notice_lines (a ∷ []) left_choices) later failed_later
    left_noted = noticed_are content_of settings left settled (a ∷ []) left_lists taken between failed failed_between same_left hl middle later failed_middle failed_later noted

    earlier : NoticesOnChoices content_of settings tree ((a ∷ []) ∷ []) (choice_notice_lines (a ∷ []) left_choices ++ [])
    earlier = stops.more (a ∷ []) hl.loaded.meanings left.values [] [] left_resolved left_allowed stops.none

    -- the second configuration is refused for the notices on its choices, or memory runs out
    pub stopped_right : (status : ℕ) (after : SpelledBytes) (failed_after : ℕ)
        → StopsNoticing (tree_in right) right.values settings.strict (b ∷ []) right_lists status later failed_later after failed_after
        → (lines : List ErrorLine) × StopsOverTree content_of settings tree (compare a b) status lines × TakesLines taken failed lines after failed_after
    stopped_right status after failed_after (noticing.refused given s t) = (
      of_lines ++ (choice_notice_lines (a ∷ []) left_choices ++ choice_notice_lines (b ∷ []) right_choices),
      inr (stops.refused (hl.loaded.meanings ++ hr.loaded.meanings) ((a ∷ []) ∷ []) [] (choice_notice_lines (a ∷ []) left_choices ++ []) (b ∷ [])
          hr.loaded.meanings right.values both_mean refl earlier right_resolved
          (refused_are content_of settings right settled (b ∷ []) right_lists between middle failed_between failed_middle same_right hr given) s
          (ap (λ ls. ls ++ (choice_notice_lines (a ∷ []) left_choices ++ choice_notice_lines (b ∷ []) right_choices)) (sym both_noticed)
          ∙ ap (λ ls. notice_lines tree (a ∷ b ∷ []) (hl.loaded.meanings ++ hr.loaded.meanings) ++ (ls ++ choice_notice_lines (b ∷ []) right_choices))
          (sym (append-nil (choice_notice_lines (a ∷ []) left_choices))))),
      lines_append taken middle failed failed_middle _ _ after failed_after lines_read
          (lines_append middle later failed_middle failed_later _ _ after failed_after left_noted
          (noticed_are content_of settings right settled (b ∷ []) right_lists between middle failed_between failed_middle same_right hr later after failed_later failed_after t)),
    )
    stopped_right status after failed_after (noticing.for_memory s t) = (
      of_lines ++ (choice_notice_lines (a ∷ []) left_choices ++ []),
      inr (stops.for_memory (hl.loaded.meanings ++ hr.loaded.meanings) ((a ∷ []) ∷ []) ((b ∷ []) ∷ []) (choice_notice_lines (a ∷ []) left_choices ++ [])
          both_mean refl earlier s (ap (λ ls. ls ++ (choice_notice_lines (a ∷ []) left_choices ++ [])) (sym both_noticed))),
      lines_append taken middle failed failed_middle _ _ after failed_after lines_read
          (lines_append middle later failed_middle failed_later _ _ after failed_after left_noted t),
    )

    module _ (after : SpelledBytes) (failed_after : ℕ)
        (right_allowed : AllowsNotices settings.strict (other_choices_of (tree_in right) right.values (placed_from 0 right_lists)))
        (right_noted : TakesLines later failed_later (choice_notice_lines (b ∷ []) (other_choices_of (tree_in right) right.values (placed_from 0 right_lists))) after failed_after) where
      both_allowed : AllowsNotices settings.strict right_choices
      both_allowed = allowed_are content_of settings right settled (b ∷ []) right_lists between middle failed_between failed_middle same_right hr right_allowed

      all_noted : TakesLines taken failed (of_lines ++ (choice_notice_lines (a ∷ []) left_choices ++ choice_notice_lines (b ∷ []) right_choices)) after failed_after
      all_noted =
          lines_append taken middle failed failed_middle _ _ after failed_after lines_read
          (lines_append middle later failed_middle failed_later _ _ after failed_after left_noted
          (noticed_are content_of settings right settled (b ∷ []) right_lists between middle failed_between failed_middle same_right hr later after failed_later failed_after right_noted))

      -- memory runs out for the output
      pub stopped_output : (status : ℕ) → status ≡ 6
          → (lines : List ErrorLine) × StopsOverTree content_of settings tree (compare a b) status lines × TakesLines taken failed lines after failed_after
      stopped_output status s = (
        of_lines ++ (choice_notice_lines (a ∷ []) left_choices ++ choice_notice_lines (b ∷ []) right_choices),
        inr (stops.for_memory (hl.loaded.meanings ++ hr.loaded.meanings) ((a ∷ []) ∷ (b ∷ []) ∷ []) []
            (choice_notice_lines (a ∷ []) left_choices ++ (choice_notice_lines (b ∷ []) right_choices ++ [])) both_mean refl
            (stops.more (a ∷ []) hl.loaded.meanings left.values ((b ∷ []) ∷ []) (choice_notice_lines (b ∷ []) right_choices ++ []) left_resolved left_allowed
            (stops.more (b ∷ []) hr.loaded.meanings right.values [] [] right_resolved both_allowed stops.none)) s
            (ap (λ ls. ls ++ (choice_notice_lines (a ∷ []) left_choices ++ choice_notice_lines (b ∷ []) right_choices)) (sym both_noticed)
            ∙ ap (λ ls. notice_lines tree (a ∷ b ∷ []) (hl.loaded.meanings ++ hr.loaded.meanings) ++ (choice_notice_lines (a ∷ []) left_choices ++ ls))
            (sym (append-nil (choice_notice_lines (b ∷ []) right_choices))))),
        all_noted,
      )

      pub comparison_has_output : (text : List ℕ) (status : ℕ)
          → text ≡ flat_map (difference_line settings.output_form settings.format.strings (tree_in left)) (differences (tree_in left) left.values right.values)
          → status ≡ status_of_list true (differences (tree_in left) left.values right.values)
          → (notices : List ErrorLine) × ((texts : Files) → AreAccepted texts settings.tree tree → HasOutput content_of settings texts (compare a b) text status notices)
          × TakesLines taken failed notices after failed_after
      comparison_has_output text status t s = (
        of_lines ++ (choice_notice_lines (a ∷ []) left_choices ++ choice_notice_lines (b ∷ []) right_choices),
        (λ texts accepted. of_comparison tree a b hl.loaded.meanings hr.loaded.meanings left.values right.values refl accepted
            left_resolved right_resolved (rw (← same_left) t) (rw (← same_left) s) left_allowed both_allowed refl),
        all_noted,
      )

-- a configuration of all files of a command, with the notices on its choices
module _ (content_of : List ℕ → FileContent) (settings : Settings) (verb : Verb) (config : Configured) (settled : Settled) (paths : List (List ℕ))
    (lists : List (List ChoiceLine)) (taken middle : SpelledBytes) (failed failed_middle : ℕ)
    (same : config.system ≡ settled) (p : profile_of settled ≡ settings.profile) (s : IsSolved config)
    (l : AreRead content_of settings.format settings.strict (tree_of_settled settled) paths (empty_assignment (tree_of_settled settled)) config.users
    [] lists taken failed middle failed_middle) where
  -- the configuration is refused for them, or memory runs out
  pub stopped_noticing : (status : ℕ) (after : SpelledBytes) (failed_after : ℕ)
      → StopsNoticing (tree_in config) config.values settings.strict paths lists status middle failed_middle after failed_after
      → (lines : List ErrorLine) × StopsOverTree content_of settings (tree_of_settled settled) (over verb paths) status lines × TakesLines taken failed lines after failed_after
  stopped_noticing status after failed_after (noticing.refused given e t) = (
    notice_lines (tree_of_settled settled) paths l.loaded.meanings ++ choice_notice_lines paths (other_choices (tree_of_settled settled) config.values l.loaded.meanings),
    inr (stops.refused l.loaded.meanings [] [] [] paths l.loaded.meanings config.values l.loaded.mean refl stops.none
        (resolved content_of settings config settled paths taken middle failed failed_middle same p s l.loaded)
        (refused_are content_of settings config settled paths lists taken middle failed failed_middle same l given) e refl),
    lines_append taken middle failed failed_middle _ _ after failed_after l.loaded.reported
        (noticed_are content_of settings config settled paths lists taken middle failed failed_middle same l middle after failed_middle failed_after t),
  )
  stopped_noticing status after failed_after (noticing.for_memory e t) = (
    notice_lines (tree_of_settled settled) paths l.loaded.meanings ++ [],
    inr (stops.for_memory l.loaded.meanings [] (paths ∷ []) [] l.loaded.mean refl stops.none e refl),
    lines_append taken middle failed failed_middle _ _ after failed_after l.loaded.reported t,
  )

  -- memory runs out for the output
  pub stopped_after : (status : ℕ) (after : SpelledBytes) (failed_after : ℕ) → status ≡ 6
      → AllowsNotices settings.strict (other_choices_of (tree_in config) config.values (placed_from 0 lists))
      → TakesLines middle failed_middle (choice_notice_lines paths (other_choices_of (tree_in config) config.values (placed_from 0 lists))) after failed_after
      → (lines : List ErrorLine) × StopsOverTree content_of settings (tree_of_settled settled) (over verb paths) status lines × TakesLines taken failed lines after failed_after
  stopped_after status after failed_after e allowed t =
      let own = choice_notice_lines paths (other_choices (tree_of_settled settled) config.values l.loaded.meanings) in (
        notice_lines (tree_of_settled settled) paths l.loaded.meanings ++ own,
        inr (stops.for_memory l.loaded.meanings (paths ∷ []) [] (own ++ []) l.loaded.mean refl
            (stops.more paths l.loaded.meanings config.values [] [] (resolved content_of settings config settled paths taken middle failed failed_middle same p s l.loaded)
            (allowed_are content_of settings config settled paths lists taken middle failed failed_middle same l allowed) stops.none) e
            (ap (λ ls. notice_lines (tree_of_settled settled) paths l.loaded.meanings ++ ls) (sym (append-nil own)))),
        lines_append taken middle failed failed_middle _ _ after failed_after l.loaded.reported
            (noticed_are content_of settings config settled paths lists taken middle failed failed_middle same l middle after failed_middle failed_after t),
      )

-- the output of a verb over a configuration of all files of a command, or its end, once the files are read
module _ (content_of : List ℕ → FileContent) (settings : Settings) (verb : Verb) (read : ReadFiles) (settled : Settled) (paths : List (List ℕ))
    (taken middle after : SpelledBytes) (failed failed_middle failed_after : ℕ)
    (same : read.config.system ≡ settled) (p : profile_of settled ≡ settings.profile) (s : IsSolved read.config)
    (l : AreRead content_of settings.format settings.strict (tree_of_settled settled) paths (empty_assignment (tree_of_settled settled)) read.config.users
    [] (lists_of read.chosen.items) taken failed middle failed_middle) where
  pub verb_outputs : (r : Result JobOutput RunError)
      → IfOk r (λ output. (given : Settings) → given.format ≡ settings.format → given.profile ≡ profile_of read.config.system
      → IsTextOfVerb given (tree_in read.config) read.config.users read.config.values verb output.text.items)
      → IfOk r (λ output. output.status ≡ status_of_verb (tree_in read.config) read.config.users read.config.values verb)
      → IfOk r (λ output. AreNoticed settings.strict paths read middle failed_middle after failed_after)
      → IfOk r (λ output. (notices : List ErrorLine) × ((texts : Files) → AreAccepted texts settings.tree (tree_of_settled settled)
      → HasOutput content_of settings texts (over verb paths) output.text.items output.status notices) × TakesLines taken failed notices after failed_after)
  verb_outputs (Err stop) t n k = tt
  verb_outputs (Ok output) t n k =
      files_have_output content_of settings verb read.config settled paths (lists_of read.chosen.items) output.text.items output.status taken middle after failed
      failed_middle failed_after same p s l k.allowed k.noticed (t settings refl (sym (ap profile_of same ∙ p))) n

  producing_stops : (status : ℕ) → StopsProducingOutput settings.strict paths read status middle failed_middle after failed_after
      → (lines : List ErrorLine) × StopsOverTree content_of settings (tree_of_settled settled) (over verb paths) status lines × TakesLines taken failed lines after failed_after
  producing_stops status (at_the_choices n) =
      stopped_noticing content_of settings verb read.config settled paths (lists_of read.chosen.items) taken middle failed failed_middle same p s l status after
      failed_after n
  producing_stops status (producing_output n e) =
      stopped_after content_of settings verb read.config settled paths (lists_of read.chosen.items) taken middle failed failed_middle same p s l status after
      failed_after e n.allowed n.noticed

  pub verb_stops : (r : Result JobOutput RunError)
      → IfErr r (λ stop. StopsProducingOutput settings.strict paths read (status_of stop) middle failed_middle after failed_after)
      → IfErr r (λ stop. (lines : List ErrorLine) × StopsOverTree content_of settings (tree_of_settled settled) (over verb paths) (status_of stop) lines
      × TakesLines taken failed lines after failed_after)
  verb_stops (Ok output) h = tt
  verb_stops (Err stop) h = producing_stops (status_of stop) h

-- the output of a comparison of two configurations of one file each, or its end, once the files are read
module _ (content_of : List ℕ → FileContent) (settings : Settings) (before after : ReadFiles) (settled : Settled) (a b : List ℕ)
    (taken middle taken_after : SpelledBytes) (failed failed_middle failed_after : ℕ)
    (same : (before.config.system ≡ settled) × (after.config.system ≡ settled)) (p : profile_of settled ≡ settings.profile)
    (s : IsSolved before.config × IsSolved after.config)
    (l : AreBothRead content_of settings.format settings.strict (tree_of_settled settled) a b before after taken failed middle failed_middle) where
  pub comparison_outputs : (r : Result JobOutput RunError)
      → IfOk r (λ output. output.text.items ≡ flat_map (difference_line settings.output_form settings.format.strings (tree_in before.config)) (differences (tree_in before.config) before.config.values after.config.values))
      → IfOk r (λ output. output.status ≡ status_of_list true (differences (tree_in before.config) before.config.values after.config.values))
      → IfOk r (λ output. AreBothNoticed settings.strict a b before after middle failed_middle taken_after failed_after)
      → IfOk r (λ output. (notices : List ErrorLine) × ((texts : Files) → AreAccepted texts settings.tree (tree_of_settled settled)
      → HasOutput content_of settings texts (compare a b) output.text.items output.status notices) × TakesLines taken failed notices taken_after failed_after)
  comparison_outputs (Err stop) t n k = tt
  comparison_outputs (Ok output) t n k =
      comparison_has_output content_of settings before.config after.config settled a b _ _ taken l.between middle failed l.failed_between failed_middle
      same.0 same.1 p s.0 s.1 l.left_read l.right_read k.between k.failed_between k.left_noticed.allowed k.left_noticed.noticed taken_after failed_after
      k.right_noticed.allowed k.right_noticed.noticed output.text.items output.status t n

  comparing_stops : (status : ℕ) → StopsComparing settings.strict a b before after status middle failed_middle taken_after failed_after
      → (lines : List ErrorLine) × StopsOverTree content_of settings (tree_of_settled settled) (compare a b) status lines
      × TakesLines taken failed lines taken_after failed_after
  comparing_stops status (at_left n) =
      stopped_left content_of settings before.config after.config settled a b _ _ taken l.between middle failed l.failed_between failed_middle
      same.0 same.1 p s.0 s.1 l.left_read l.right_read status taken_after failed_after n
  comparing_stops status (at_right between failed_between k n) =
      stopped_right content_of settings before.config after.config settled a b _ _ taken l.between middle failed l.failed_between failed_middle
      same.0 same.1 p s.0 s.1 l.left_read l.right_read between failed_between k.allowed k.noticed status taken_after failed_after n
  comparing_stops status (comparing_output k e) =
      stopped_output content_of settings before.config after.config settled a b _ _ taken l.between middle failed l.failed_between failed_middle
      same.0 same.1 p s.0 s.1 l.left_read l.right_read k.between k.failed_between k.left_noticed.allowed k.left_noticed.noticed taken_after failed_after
      k.right_noticed.allowed k.right_noticed.noticed status e

  pub comparison_stops : (r : Result JobOutput RunError)
      → IfErr r (λ stop. StopsComparing settings.strict a b before after (status_of stop) middle failed_middle taken_after failed_after)
      → IfErr r (λ stop. (lines : List ErrorLine) × StopsOverTree content_of settings (tree_of_settled settled) (compare a b) (status_of stop) lines
      × TakesLines taken failed lines taken_after failed_after)
  comparison_stops (Ok output) h = tt
  comparison_stops (Err stop) h = comparing_stops (status_of stop) h

-- the status of a result that is that of a list, or of a verb, is at most 1
pub list_status_small : {A : Type 0} (r : Result JobOutput RunError) (listed : List A) → IfOk r (λ output. output.status ≡ status_of_list true listed)
    → IfOk r (λ output. output.status ≤ 1)
list_status_small r listed h =
    if_ok_map r (λ output. output.status ≡ status_of_list true listed) (λ output. output.status ≤ 1)
    (λ output e. subst (λ n. n ≤ 1) (sym e) (status_at_most_one true listed)) h

pub verb_status_small : (r : Result JobOutput RunError) (tree : Tree) (users : List (Option UserValue)) (values : List UnitValue) (verb : Verb)
    → IfOk r (λ output. output.status ≡ status_of_verb tree users values verb) → IfOk r (λ output. output.status ≤ 1)
verb_status_small r tree users values verb h =
    if_ok_map r (λ output. output.status ≡ status_of_verb tree users values verb) (λ output. output.status ≤ 1)
    (λ output e. subst (λ n. n ≤ 1) (sym e) (status_of_verb_at_most_one tree users values verb)) h

-- the output of a command, or its end, over the texts of its tree
module _ (known : Surroundings) (settings : Settings) (task : Task) (tree : Tree) (t : TreeTexts)
    (are : AreTextsOfJob known settings t) (accepted : AreAccepted t.texts settings.tree tree)
    (taken middle taken_after : SpelledBytes) (failed failed_middle failed_after : ℕ) (before : TakesLines taken failed t.lines middle failed_middle) where
  pub job_outputs : (r : Result JobOutput RunError)
      → IfOk r (λ output. (notices : List ErrorLine) × ((texts : Files) → AreAccepted texts settings.tree tree
      → HasOutput known.content settings texts task output.text.items output.status notices) × TakesLines middle failed_middle notices taken_after failed_after)
      → IfOk r (λ output. (t : TreeTexts) × (notices : List ErrorLine) × AreTextsOfJob known settings t × HasOutput known.content settings t.texts task
      output.text.items output.status notices × TakesLines taken failed (t.lines ++ notices) taken_after failed_after)
  job_outputs (Err stop) h = tt
  job_outputs (Ok output) h = (
    t,
    h.0,
    are,
    h.1 t.texts accepted,
    lines_append taken middle failed failed_middle t.lines h.0 taken_after failed_after before h.2,
  )

  pub job_stops : (counted counted_after : ℕ) (r : Result JobOutput RunError)
      → IfErr r (λ stop. (lines : List ErrorLine) × StopsOverTree known.content settings tree task (status_of stop) lines
      × TakesLines middle failed_middle lines taken_after failed_after)
      → IfErr r (λ stop. (lines : List ErrorLine) × StopsBefore known counted counted_after settings task (status_of stop) lines × TakesLines taken failed lines taken_after
      failed_after)
  job_stops counted counted_after (Ok output) h = tt
  job_stops counted counted_after (Err stop) h = (
    t.lines ++ h.0,
    either h.1,
    lines_append taken middle failed failed_middle t.lines h.0 taken_after failed_after before h.2,
  ) where
    either : StopsOverTree known.content settings tree task (status_of stop) h.0 → StopsBefore known counted counted_after settings task (status_of stop) (t.lines ++ h.0)
    either (inl k) = among_files t tree h.0 are accepted k refl
    either (inr k) = at_choices t tree h.0 are accepted k refl

-- a writer that took some lines, and then nothing, took these lines
pub lines_kept : (before middle after : SpelledBytes) (failed failed_middle failed_after : ℕ) (lines : List ErrorLine)
    → TakesLines before failed lines middle failed_middle → TakesLines middle failed_middle [] after failed_after
    → TakesLines before failed lines after failed_after
lines_kept before middle after failed failed_middle failed_after lines h k =
    subst (λ all. TakesLines before failed all after failed_after) (append-nil lines)
    (lines_append before middle failed failed_middle lines [] after failed_after h k)
