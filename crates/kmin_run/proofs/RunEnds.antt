-- Ends of runs, from what the parts of a run ensure.
use Rattle.std.proofs.Common.{eqb-true, true≢false}
use Rattle.std.proofs.lemmas.Bool.Decides.{eqb_tells}
use Rattle.kmin_run.proofs.Common.{◌≡◌, ◌≢◌, ◌≤◌, ◌==◌, map, Bool, false, ◌⊎◌, ℕ, true, List, [], ◌∷◌, ◌++◌, Option, Ok, length, inl, inr, refl, subst, arith, None, ap, sym, ◌∙◌, length-append, Appends, ErrorLine, last_lines, SpelledBytes, TakesLine, TakesLines, none, lines_one}
use Rattle.kmin_run.proofs.Common.{malformed_line, Represent, RunError, Tree, Configuration, Failed, Memory, status_of, Settings, Questions, Task, AreReadAs, Surroundings, TreeTexts, AreTextsOfJob, AreAsked, StopsWanting, questions_text, HasOutput, Input, Outputs, RunState, BundleEnds}
use Rattle.kc_value.specs.FileContents.{FileContent}
use Rattle.kmin_report.specs.StandardError.{one_more}
use Rattle.kmin_texts.specs.KnownLines.{KnownLines}
use Rattle.kmin_texts.specs.Spellings.{AskedForm, as_asked}
use Rattle.kmin_run.proofs.Keeping.{keeps_by, keeps_since}
use Rattle.kmin_run.specs.between.StateRuns.{AreWordsRead, EndsAsRead, FormedEnds, KeepsWithinRead, KeepsWithinWords}
use Rattle.kmin_run.specs.between.StateRuns as formed
use Rattle.kmin_lines.specs.WordLines.{are_utf8}
use Rattle.kmin_lines.specs.WordFiles.{files_of, with_files}
use Rattle.kmin_inputs.specs.ListFiles.{StopsReadingList, too_large, unread, for_memory}
use Rattle.kmin_inputs.specs.WordFiles.{AreFilesRead, StopsAtWords}
use Rattle.kmin_inputs.specs.WordFiles as stops
use Rattle.kmin_options.specs.Jobs.{ExplainJob}
use Rattle.kmin_cli.specs.Parses.{AreParsedBeside}
use Rattle.kmin_cli.specs.WordOrder.{command_first}
use Rattle.kmin_cli.specs.declared.command_line.ParsedWords.{ParsedWords}
use Rattle.kmin_expansions.specs.WantedQuestions.{AsksInPart}
use Rattle.kmin_explain_command.specs.Explains.{Explains}
use Rattle.kmin_explain_command.specs.Stops.{ExplainsInPart, StopsExplaining}
use Rattle.kmin_run.specs.PartialOutputs.{WritesOutputInPart}
use Rattle.kmin_outputs.specs.Statuses.{status_of_list}
use Rattle.kmin_outputs.specs.Stops.{Stops}
use Rattle.kmin_run.specs.Runs as runs
use Rattle.kmin_run.specs.Runs.{AreReadForChanges, AreReadForTidying, AskForChanges, AskForTidying, Ends, ExplainEnds, HelpEnds, JobEnds, QuestionsEnd, WordsEnd}

-- a status is 0 or 1, or it is another one
zero_or_one : (status : ℕ) → ((status ≡ 0) ⊎ (status ≡ 1)) ⊎ ((status ≢ 0) × (status ≢ 1))
zero_or_one status = elim (eqb_tells status 0) [
  | inl zero ↦ inl (inl zero.1)
  | inr not_zero ↦ elim (eqb_tells status 1) [ inl one ↦ inl (inr one.1) | inr not_one ↦ inr (not_zero.1, not_one.1) ]
]

-- a run that wrote nothing but on status 5, and then at most a part, wrote nothing, or a part on status 5
at_most : (P Q : Type 0) (status : ℕ) → (status ≡ 5 → P ⊎ Q) → (status ≢ 5 → P) → P ⊎ ((status ≡ 5) × Q)
at_most P Q status part unwritten = elim (eqb_tells status 5) [
  | inl five ↦ elim (part five.1) [ inl nothing ↦ inl nothing | inr some ↦ inr (five.1, some) ]
  | inr other ↦ inl (unwritten other.1)
]

module _ (known : Surroundings) (counted counted_after : ℕ) (old new : Outputs) (status : ℕ) (taken taken_after : SpelledBytes) (failed failed_after : ℕ)
    (same : new.disk ≡ old.disk) (accepted : status ≢ 2) (unfailed : (status ≡ 0) ⊎ (status ≡ 1) → new.failures ≡ old.failures)
    (unwritten : status ≢ 0 → status ≢ 1 → status ≢ 5 → new.taken ≡ old.taken) where
  -- a command over configuration files ends as `JobEnds` defines, by the clauses of `serve`
  pub job_ended : (settings : Settings) (task : Task)
      → ((status ≡ 0) ⊎ (status ≡ 1) → (t : TreeTexts) × (text : List ℕ) × (notices : List ErrorLine) × AreTextsOfJob known settings t
      × HasOutput known.content settings t.texts task text status notices × Appends old.taken new.taken text
      × TakesLines taken failed (t.lines ++ notices) taken_after failed_after)
      → ((status ≢ 0) × (status ≢ 1) → (lines : List ErrorLine) × Stops known counted counted_after settings task status lines
      × TakesLines taken failed (lines ++ last_lines status) taken_after failed_after)
      → (status ≡ 5 → (new.taken ≡ old.taken) ⊎ WritesOutputInPart known settings task old.taken new.taken)
      → (lines : List ErrorLine) × JobEnds known counted counted_after settings task old new lines status × TakesLines taken failed lines taken_after failed_after
  job_ended settings task done stopped part = elim (zero_or_one status) [
    | inl well ↦
        let w = done well in
        (w.0.lines ++ w.2, runs.done w.0 w.1 w.2 w.3 w.4 well w.5 (unfailed well) same refl, w.6)
    | inr other ↦
        let w = stopped other in (
          w.0 ++ last_lines status,
          runs.stopped w.0 w.1 (other.0, other.1, accepted)
              (at_most _ _ status part (unwritten other.0 other.1)) same refl,
          w.2,
        )
  ]

  -- the command `wants` ends as `QuestionsEnd` defines, by the clauses of `list_questions`
  pub questions_ended : (questions : Questions)
      → ((status ≡ 0) ⊎ (status ≡ 1) → (asked : List (List ℕ)) × AreAsked known counted counted_after questions (Ok asked) × (status ≡ status_of_list true asked)
      × Appends old.taken new.taken (questions_text asked) × TakesLines taken failed [] taken_after failed_after)
      → ((status ≢ 0) × (status ≢ 1) → (lines : List ErrorLine) × StopsWanting known counted counted_after questions status lines
      × TakesLines taken failed (lines ++ last_lines status) taken_after failed_after)
      → (status ≡ 5 → (new.taken ≡ old.taken) ⊎ AsksInPart known counted counted_after questions old.taken new.taken)
      → (lines : List ErrorLine) × QuestionsEnd known counted counted_after questions old new lines status × TakesLines taken failed lines taken_after failed_after
  questions_ended questions done stopped part = elim (zero_or_one status) [
    | inl well ↦
        let w = done well in
        ([], runs.done w.0 w.1 w.2 w.3 (unfailed well) same refl, w.4)
    | inr other ↦
        let w = stopped other in (
          w.0 ++ last_lines status,
          runs.stopped w.0 w.1 (other.0, other.1, accepted)
              (at_most _ _ status part (unwritten other.0 other.1)) same refl,
          w.2,
        )
  ]

  -- `explain`, or `missed` or `check` with reasons, ends as `ExplainEnds` defines, by its clauses
  pub explain_ended : (job : ExplainJob)
      → ((status ≡ 0) ⊎ (status ≡ 1) → (t : TreeTexts) × (text : List ℕ) × (lines : List ErrorLine) × AreTextsOfJob known job.settings t
      × Explains known.content job t text status lines × Appends old.taken new.taken text × TakesLines taken failed lines taken_after failed_after)
      → ((status ≢ 0) × (status ≢ 1) → (lines : List ErrorLine) × StopsExplaining known counted counted_after job status lines
      × TakesLines taken failed (lines ++ last_lines status) taken_after failed_after)
      → (status ≡ 5 → (new.taken ≡ old.taken) ⊎ ExplainsInPart known job old.taken new.taken)
      → (lines : List ErrorLine) × ExplainEnds known counted counted_after job old new lines status × TakesLines taken failed lines taken_after failed_after
  explain_ended job done stopped part = elim (zero_or_one status) [
    | inl well ↦
        let w = done well in
        (w.2, runs.done w.0 w.1 w.3 w.4 well w.5 (unfailed well) same, w.6)
    | inr other ↦
        let w = stopped other in (
          w.0 ++ last_lines status,
          runs.stopped w.0 w.1 (other.0, other.1, accepted)
              (at_most _ _ status part (unwritten other.0 other.1)) same refl,
          w.2,
        )
  ]

-- of the errors that end a run just a failed read or write has the status 5
pub five_is_failed : (stop : RunError) (status : ℕ) → status ≡ status_of stop → status ≡ 5 → stop ≡ Failed
five_is_failed Tree status is five = absurd (omega arith)
five_is_failed Configuration status is five = absurd (omega arith)
five_is_failed Failed status is five = refl
five_is_failed Memory status is five = absurd (omega arith)

-- a bundle's run that ended early wrote a part at most, and that only on status 5
pub bundle_wrote : (P Q : Type 0) (stop : RunError) (status : ℕ) → status ≡ status_of stop → (stop ≡ Failed → P ⊎ Q) → (stop ≡ Failed) ⊎ P
    → P ⊎ ((status ≡ 5) × Q)
bundle_wrote P Q stop status is part (inl failed) = elim (part failed) [
  | inl nothing ↦ inl nothing
  | inr some ↦ inr (rw failed at is, some)
]
bundle_wrote P Q stop status is part (inr nothing) = inl nothing

module _ (before after : RunState) (lines : List ErrorLine) (status : ℕ) where
  -- a run without words ends as one on a bundle
  pub without_words : {A : Type 0} (f : A → List ℕ) (words : List A) → (length words == 0) ≡ true
      → BundleEnds before.input after.input before.outputs after.outputs lines status → Ends before after (map f words) None lines status
  without_words f [] empty ends = (ends, refl)
  without_words f (word ∷ words) empty ends = absurd (omega (arith, eqb-true _ _ empty))

  -- a run with words ends as they are parsed
  pub with_words : {A : Type 0} (form : Option AskedForm) (f : A → List ℕ) (words : List A) → (length words == 0) ≡ false
      → WordsEnd before after (map f words) form lines status → Ends before after (map f words) form lines status
  with_words form f [] some ends = absurd (true≢false some)
  with_words form f (word ∷ words) some ends = ends

-- a run on a bundle leaves the disk as it is
pub bundle_disk : (input input_after : Input) (old new : Outputs) (lines : List ErrorLine) (status : ℕ) → BundleEnds input input_after old new lines status
    → new.disk ≡ old.disk
bundle_disk input input_after old new lines status (runs.done bundle text s r w a t i n d) = d
bundle_disk input input_after old new lines status (runs.stopped own s i w h d l) = d

-- a help leaves the disk as it is
pub help_disk : (text : List ℕ) (old new : Outputs) (lines : List ErrorLine) (status : ℕ) → HelpEnds text old new lines status → new.disk ≡ old.disk
help_disk text old new lines status (runs.done s a n d l) = d
help_disk text old new lines status (runs.stopped written w s a h d l) = d

-- words are read as what they are parsed as once the command is first
pub read_first : (is_input_read : Bool) (words ordered : List (List ℕ)) (what : ParsedWords) → ordered ≡ command_first words
    → AreParsedBeside is_input_read ordered what → AreReadAs is_input_read words what
read_first is_input_read words ordered what first are = subst (λ (given : List (List ℕ)). AreParsedBeside is_input_read given what) first are

-- a run on what the words were parsed as ends as one on these words
pub read_ended : (before after : RunState) (is_input_read : Bool) (words : List (List ℕ)) (what : ParsedWords) (form : Option AskedForm) (lines : List ErrorLine) (status : ℕ)
    → AreReadAs is_input_read words what → FormedEnds before after what form lines status → EndsAsRead before after is_input_read words form lines status
read_ended before after is_input_read words what form lines status are (formed.formed f ends) = runs.parsed what are f ends
read_ended before after is_input_read words what form lines status are (formed.for_memory s n f l) = runs.for_memory s n f l

-- standard error that took no lines is as it was
nothing_taken : (lines : List ErrorLine) (taken middle : SpelledBytes) (failed failed_middle : ℕ) → lines ≡ []
    → TakesLines taken failed lines middle failed_middle → (middle ≡ taken) × (failed_middle ≡ failed)
nothing_taken lines taken middle failed failed_middle e none = (refl, refl)
nothing_taken lines taken middle failed failed_middle e (one_more some all line last after failed_last failed_after h t same) =
    let empty : length (some ++ line ∷ []) ≡ 0 = ap length (sym same ∙ e) in
    absurd (omega (arith, empty, length-append some (line ∷ [])))

-- lines in a form that standard error took after no lines are those that it took since before that
pub formed_since : (form : Option AskedForm) (line_files : KnownLines) (lines : List ErrorLine) (taken middle after : SpelledBytes) (failed failed_middle failed_after : ℕ)
    → TakesLines taken failed [] middle failed_middle → TakesLines (as_asked form line_files middle) failed_middle lines after failed_after
    → TakesLines (as_asked form line_files taken) failed lines after failed_after
formed_since form line_files lines taken middle after failed failed_middle failed_after before h =
    let same = nothing_taken [] taken middle failed failed_middle refl before in
    subst (λ (s : SpelledBytes). TakesLines (as_asked form line_files s) failed lines after failed_after) same.0
    (subst (λ n. TakesLines (as_asked form line_files middle) n lines after failed_after) same.1 h)

-- the status of a run that a file of words ended
list_at_most_six : (content : FileContent) (path : List ℕ) (status : ℕ) (lines : List ErrorLine) → StopsReadingList content path status lines → status ≤ 6
list_at_most_six content path status lines (too_large front rest k l s e) = omega arith
list_at_most_six content path status lines (unread s e) = omega arith
list_at_most_six content path status lines (for_memory s e) = omega arith

pub words_at_most_six : (content_of : List ℕ → FileContent) (left : Option (List ℕ)) (words : List (List ℕ)) (status : ℕ) (lines : List ErrorLine)
    → StopsAtWords content_of left words status lines → status ≤ 6
words_at_most_six content_of left words status lines (stops.twice n s e) = omega arith
words_at_most_six content_of left words status lines (stops.unread front back files path a r h) = list_at_most_six _ path status lines h
words_at_most_six content_of left words status lines (stops.malformed files r u s e) = omega arith
words_at_most_six content_of left words status lines (stops.for_memory s e) = omega arith

-- what a run on words ensures
abbrev WordsRun : (before after : RunState) (words : List (List ℕ)) (status : ℕ) (line_files : KnownLines) (taken taken_after : SpelledBytes) (failed failed_after : ℕ) → Type 0
WordsRun before after words status line_files taken taken_after failed failed_after =
    ((form : Option AskedForm) × (lines : List ErrorLine) × WordsEnd before after words form lines status
    × TakesLines (as_asked form line_files taken) failed lines taken_after failed_after)

module _ (before after : RunState) (words : List (List ℕ)) (status : ℕ) (line_files : KnownLines) (taken taken_after : SpelledBytes)
    (failed failed_after : ℕ) (same : after.outputs ≡ before.outputs) where
  -- a run that a file of words ended, with its last lines reported
  pub words_stopped : (lines : List ErrorLine) × StopsAtWords before.known.content before.input.left words status lines
      × TakesLines taken failed (lines ++ last_lines status) taken_after failed_after
      → WordsRun before after words status line_files taken taken_after failed failed_after
  words_stopped h = (None, h.0 ++ last_lines status, runs.stopped h.0 h.1 same refl refl, h.2)

  -- a run that a word in a file ended, which isn't UTF-8
  pub words_malformed : (files : List (List ℕ)) → AreFilesRead before.known.content before.input.left (files_of words) files → are_utf8 files ≡ false → status ≡ 2
      → TakesLine taken failed malformed_line taken_after failed_after
      → WordsRun before after words status line_files taken taken_after failed failed_after
  words_malformed files r u s h = (
    None,
    malformed_line ∷ [],
    runs.stopped (malformed_line ∷ []) (stops.malformed files r u s refl) same refl (rw s refl),
    lines_one taken taken_after failed failed_after malformed_line h,
  )

  -- a run that ended since memory ran out after the files of words were read
  pub words_forgotten : status ≡ 6 → TakesLines taken failed (last_lines status) taken_after failed_after
      → WordsRun before after words status line_files taken taken_after failed failed_after
  words_forgotten s h = (None, last_lines status, runs.stopped [] (stops.for_memory s refl) same refl refl, h)

module _ (before middle after : RunState) (words files represented : List (List ℕ)) (is_input_read : Bool)
    (read : AreWordsRead before middle words files is_input_read) (utf8 : are_utf8 files ≡ true) (are : represented ≡ with_files words files) where
  represent : Represent before.known.content before.input.left words represented
  represent = record { files = files; read = read.read; utf8 = utf8; are = are }

  changes_asked : AreReadForChanges is_input_read represented → AskForChanges before words
  changes_asked h = (represented, represent, subst (λ (b : Bool). AreReadForChanges b represented) read.input h)

  tidying_asked : AreReadForTidying is_input_read represented → AskForTidying before words
  tidying_asked h = (represented, represent, subst (λ (b : Bool). AreReadForTidying b represented) read.input h)

  -- a run ends as one on the words that its words represent does
  pub words_ended : (form : Option AskedForm) (lines : List ErrorLine) (status : ℕ) → EndsAsRead middle after is_input_read represented form lines status
      → WordsEnd before after words form lines status
  words_ended form lines status h =
      runs.represented represented middle.input.left represent read.untouched (rw (read.known, read.counted, read.outputs, read.input) at h)

  -- it keeps within what they ask for
  pub words_keep : (status : ℕ) → KeepsWithinRead middle after is_input_read represented status → KeepsWithinWords before after words status
  words_keep status keeps = keeps_by _ _ _ tidying_asked changes_asked (keeps_since _ _ _ _ read.counted read.unfailed read.outputs keeps)
