-- The tree of a job, as it is or expanded: what its texts are, and where a run ends at it.
use Rattle.std.proofs.Common.{IfOk, append-nil}
use Rattle.kmin_trees.proofs.Common.{◌≡◌, ℕ, ◌≤◌, List, [], ◌++◌, Some, None, Result, Ok, Err, IfErr, map, refl, sym, ap, ◌∙◌, subst, Language, Files, RecordedAnswers, Settings, RunError, Surroundings, AreTextsBelow, TreeTexts, AreTextsOfJob, ErrorLine, SpelledBytes, TakesLines, StopsAtTree}
use Rattle.kmin_trees.proofs.Common.{MissesOnlyMissing, StopsExpanding, status_of, StopsAtTexts, plain_texts, rises_later}
use Rattle.kc_macros_model.specs.Programs.{Notice}
use Rattle.kc_macros_model.specs.ReadingStates.{ExpandedFile}
use Rattle.kc_expansion.specs.Expansions.{IsExpansion}
use Rattle.kmin_options.specs.Jobs.{GivenExpansion}
use Rattle.kmin_expansions.specs.declared.expanded_trees.ExpandedTexts.{ExpandedTexts}
use Rattle.kmin_inputs.specs.JobAnswers.{AreJobAnswers}
use Rattle.kmin_expansions.specs.JobTexts.{AreExpandedTexts, as_they_are, expanded, expanded_texts}
use Rattle.kmin_report.specs.FileNames.{named_texts}
use Rattle.kmin_expansions.specs.TreeFolders.{contents_below}
use Rattle.kmin_report.specs.Reports.{macro_notice_line}
use Rattle.kmin_trees.specs.Stops.{StopsInExpansion}
use Rattle.kmin_trees.specs.Stops as stops
use Rattle.kmin_trees.specs.between.ExpandedStops.{StopsAtExpanded}
use Rattle.kmin_trees.specs.between.ExpandedStops as expanded_stops
use Rattle.kmin_expansions.specs.between.ExpansionStops as expanding
use Rattle.kmin_trees.specs.between.TreeStops as tree_stops
use Rattle.kmin_report.proofs.WriterLemmas.{lines_append}

pub are_plain : (known : Surroundings) (settings : Settings) (texts : Files) → settings.expansion ≡ None
    → AreTextsBelow known.content settings.root settings.language texts
    → AreTextsOfJob known settings (plain_texts texts)
are_plain known settings texts e h = as_they_are e h refl refl

-- texts that end a run end the job at its tree, whether macros are expanded or not
texts_stop : (known : Surroundings) (counted counted_after : ℕ) (settings : Settings) (t : TreeTexts) (status : ℕ) (more lines : List ErrorLine)
    → AreTextsOfJob known settings t → StopsAtTexts t.texts t.names settings.tree status more
    → (status ≡ 3 → settings.expansion ≡ None → MissesOnlyMissing known.content settings.root settings.tree t.texts counted counted_after)
    → lines ≡ t.lines ++ more → StopsAtTree known counted counted_after settings status lines
texts_stop known counted counted_after settings t status more lines h (tree_stops.at_texts line r s l) missing e =
    stops.at_texts t line h r (missing s) s (e ∙ ap (λ ls. t.lines ++ ls) l)
texts_stop known counted counted_after settings t status more lines h (tree_stops.for_memory s l) missing e =
    stops.for_memory t h s (e ∙ ap (λ ls. t.lines ++ ls) l ∙ append-nil t.lines)

-- a tree whose macros are expanded isn't one without expansion
not_plain : {P : Type 0} (settings : Settings) (expansion : GivenExpansion) → settings.expansion ≡ Some expansion → settings.expansion ≡ None → P
not_plain settings expansion e none = absurd (let z : ⊥ = cc in z)

module _ (known : Surroundings) (settings : Settings) (taken taken_after : SpelledBytes) (failed failed_after : ℕ) where
  -- without the expansion of macros
  module _ (e : settings.expansion ≡ None) where
    pub plain_accepted : {T : Type 0} (Is : TreeTexts → T → Type 0) (r : Result T RunError)
        → IfOk r (λ tree. (texts : Files) × AreTextsBelow known.content settings.root settings.language texts × Is (plain_texts texts) tree)
        → IfOk r (λ tree. TakesLines taken failed [] taken_after failed_after)
        → IfOk r (λ tree. (t : TreeTexts) × AreTextsOfJob known settings t × Is t tree × TakesLines taken failed t.lines taken_after failed_after)
    plain_accepted Is (Err stop) h k = tt
    plain_accepted Is (Ok tree) h k = (plain_texts h.0, are_plain known settings h.0 e h.1, h.2, k)

    pub plain_stopped : {T : Type 0} (counted counted_after : ℕ) (r : Result T RunError)
        → IfErr r (λ stop. (texts : Files) × (lines : List ErrorLine) × AreTextsBelow known.content settings.root settings.language texts
        × StopsAtTexts texts texts settings.tree (status_of stop) lines × TakesLines taken failed lines taken_after failed_after
        × (status_of stop ≡ 3 → MissesOnlyMissing known.content settings.root settings.tree texts counted counted_after))
        → IfErr r (λ stop. (lines : List ErrorLine) × StopsAtTree known counted counted_after settings (status_of stop) lines
        × TakesLines taken failed lines taken_after failed_after)
    plain_stopped counted counted_after (Ok tree) h = tt
    plain_stopped counted counted_after (Err stop) h = (
      h.1,
      texts_stop known counted counted_after settings (plain_texts h.0) (status_of stop) h.1 h.1 (are_plain known settings h.0 e h.2) h.3
          (λ three none. h.5 three) refl,
      h.4,
    )

  -- with the expansion of macros
  module _ (expansion : GivenExpansion) (e : settings.expansion ≡ Some expansion) where
    pub expanded_accepted : {T : Type 0} (Is : TreeTexts → T → Type 0) (r : Result T RunError)
        → IfOk r (λ tree. (t : TreeTexts) × AreExpandedTexts known settings.root settings.tree settings.language expansion t × Is t tree
        × TakesLines taken failed t.lines taken_after failed_after)
        → IfOk r (λ tree. (t : TreeTexts) × AreTextsOfJob known settings t × Is t tree × TakesLines taken failed t.lines taken_after failed_after)
    expanded_accepted Is (Err stop) h = tt
    expanded_accepted Is (Ok tree) h = (h.0, expanded expansion e h.1, h.2, h.3)

    stops_of : (counted counted_after status : ℕ) (lines : List ErrorLine)
        → StopsAtExpanded known counted counted_after settings.root settings.tree settings.language expansion status lines
        → StopsAtTree known counted counted_after settings status lines
    stops_of counted counted_after status lines (expanded_stops.in_expansion s) = stops.in_expansion expansion e s
    stops_of counted counted_after status lines (expanded_stops.at_texts t more h s l) =
        texts_stop known counted counted_after settings t status more lines (expanded expansion e h) s (λ three none. not_plain settings expansion e none) l

    pub expanded_stopped : {T : Type 0} (counted counted_after : ℕ) (r : Result T RunError)
        → IfErr r (λ stop. (lines : List ErrorLine)
        × StopsAtExpanded known counted counted_after settings.root settings.tree settings.language expansion (status_of stop) lines
        × TakesLines taken failed lines taken_after failed_after)
        → IfErr r (λ stop. (lines : List ErrorLine) × StopsAtTree known counted counted_after settings (status_of stop) lines
        × TakesLines taken failed lines taken_after failed_after)
    expanded_stopped counted counted_after (Ok tree) h = tt
    expanded_stopped counted counted_after (Err stop) h = (h.0, stops_of counted counted_after (status_of stop) h.0 h.1, h.2)

-- expanded files, settled
module _ {T : Type 0} (known : Surroundings) (root first : List ℕ) (language : Language) (expansion : GivenExpansion) (texts names : Files)
    (taken middle taken_after : SpelledBytes) (failed failed_middle failed_after : ℕ)
    (h : (t : TreeTexts) × AreExpandedTexts known root first language expansion t × (t.texts ≡ texts) × (t.names ≡ names)
    × TakesLines taken failed t.lines middle failed_middle) where
  pub settled_accepted : (Is : TreeTexts → T → Type 0) (r : Result T RunError) → IfOk r (λ tree. (t : TreeTexts) → t.texts ≡ texts → t.names ≡ names → Is t tree)
      → IfOk r (λ tree. TakesLines middle failed_middle [] taken_after failed_after)
      → IfOk r (λ tree. (t : TreeTexts) × AreExpandedTexts known root first language expansion t × Is t tree
      × TakesLines taken failed t.lines taken_after failed_after)
  settled_accepted Is (Err stop) a k = tt
  settled_accepted Is (Ok tree) a k = (
    h.0,
    h.1,
    a h.0 h.2 h.3,
    subst (λ ls. TakesLines taken failed ls taken_after failed_after) (append-nil h.0.lines)
        (lines_append taken middle failed failed_middle h.0.lines [] taken_after failed_after h.4 k),
  )

  pub settled_stopped : (counted counted_after : ℕ) (r : Result T RunError)
      → IfErr r (λ stop. (lines : List ErrorLine) × StopsAtTexts texts names first (status_of stop) lines
      × TakesLines middle failed_middle lines taken_after failed_after)
      → IfErr r (λ stop. (lines : List ErrorLine) × StopsAtExpanded known counted counted_after root first language expansion (status_of stop) lines
      × TakesLines taken failed lines taken_after failed_after)
  settled_stopped counted counted_after (Ok tree) s = tt
  settled_stopped counted counted_after (Err stop) s =
      let a = subst (λ (fs : Files). StopsAtTexts fs names first (status_of stop) s.0) (sym h.2) s.1 in
      let b = subst (λ (fs : Files). StopsAtTexts h.0.texts fs first (status_of stop) s.0) (sym h.3) a in (
        h.0.lines ++ s.0,
        expanded_stops.at_texts h.0 s.0 h.1 b refl,
        lines_append taken middle failed failed_middle h.0.lines s.0 taken_after failed_after h.4 s.2,
      )

-- the expansion of a tree, after the answers are read
module _ (known : Surroundings) (root first : List ℕ) (language : Language) (expansion : GivenExpansion) (answers : RecordedAnswers)
    (answered : AreJobAnswers known.content known.variable expansion answers)
    (taken middle taken_after : SpelledBytes) (failed failed_middle failed_after : ℕ) (before : TakesLines taken failed [] middle failed_middle) where
  are_expanded : (files : List ExpandedFile) (texts : Files) → texts ≡ expanded_texts language files
      → (notices : List Notice) × IsExpansion (contents_below known root) answers first notices (Ok files)
      × TakesLines middle failed_middle (map macro_notice_line notices) taken_after failed_after
      → (t : TreeTexts) × AreExpandedTexts known root first language expansion t × (t.texts ≡ texts) × (t.names ≡ named_texts files texts)
      × TakesLines taken failed t.lines taken_after failed_after
  are_expanded files texts e h = (
    record { texts = texts; names = named_texts files texts; lines = map macro_notice_line h.0 },
    record {
      answers = answers;
      answered = answered;
      notices = h.0;
      files = files;
      expanded = h.1;
      texts = e;
      names = refl;
      lines = refl;
    },
    refl,
    refl,
    lines_append taken middle failed failed_middle [] (map macro_notice_line h.0) taken_after failed_after before h.2,
  )

  pub both_expanded : (r : Result ExpandedTexts RunError) → IfOk r (λ tree. tree.texts ≡ expanded_texts language tree.tree)
      → IfOk r (λ tree. (notices : List Notice) × IsExpansion (contents_below known root) answers first notices (Ok tree.tree)
      × TakesLines middle failed_middle (map macro_notice_line notices) taken_after failed_after)
      → IfOk r (λ tree. (t : TreeTexts) × AreExpandedTexts known root first language expansion t × (t.texts ≡ tree.texts)
      × (t.names ≡ named_texts tree.tree tree.texts) × TakesLines taken failed t.lines taken_after failed_after)
  both_expanded (Err stop) e h = tt
  both_expanded (Ok tree) e h = are_expanded tree.tree tree.texts e h

  module _ (counted counted_middle counted_after : ℕ) (le : counted ≤ counted_middle) (up : counted_middle ≤ counted_after) where
    expanding_stops : (status : ℕ) (lines : List ErrorLine)
        → StopsExpanding (contents_below known root) counted_middle counted_after answers first status lines
        → StopsInExpansion known counted counted_after root first expansion status lines
    expanding_stops status lines (expanding.at_fault notices fault h s l) =
        stops.at_fault answers notices fault answered
        (h.0, (λ none. h.1 (λ rose. none (rises_later counted counted_middle counted_after le up rose)))) s l
    expanding_stops status lines (expanding.for_memory s l) = stops.for_memory s l

    pub stopped_expanding : (status : ℕ)
        → (lines : List ErrorLine) × StopsExpanding (contents_below known root) counted_middle counted_after answers first status lines
        × TakesLines middle failed_middle lines taken_after failed_after
        → (lines : List ErrorLine) × StopsInExpansion known counted counted_after root first expansion status lines
        × TakesLines taken failed lines taken_after failed_after
    stopped_expanding status h =
        (h.0, expanding_stops status h.0 h.1, lines_append taken middle failed failed_middle [] h.0 taken_after failed_after before h.2)
