-- What a run of the program does with these words. `counted` and `counted_after` are how many calls on files failed before and after,
-- without those on the disk.
use Rattle.std.specs.Prelude.{◌≡◌, ◌≢◌, ◌<◌, ◌≤◌, ◌⊎◌, ℕ, Bool, true, false, List, [], ◌∷◌, ◌++◌, Option, None, Ok, codes, length, take, option_map}
use Rattle.std.specs.Io.KnownBytes.{Appends}
use Rattle.kc_value.specs.declared.limits.TheConstants.{MAX_BUNDLE_BYTES}
use Rattle.kmin_report.specs.Reports.{ErrorLine, last_lines, output_line, refused_line}
use Rattle.kc_files.specs.TreeContents.{HasRisen}
use Rattle.kc_tokens.specs.declared.language.Language.{Language}
use Rattle.kc_tokens.specs.declared.language.Language.TheVariants.{Linux}
use Rattle.kc_tokens.specs.declared.language.LinuxVersion.TheVariants.{Unknown}
use Rattle.kmin_messages.specs.declared.message.Form.{Form}
use Rattle.kmin_texts.specs.Spellings.{AskedForm}
use Rattle.kmin_options.specs.Jobs.{ExplainJob, Settings, Questions, Task, explain_job_view, settings_view, questions_view, task_view, tidy_job_view}
use Rattle.kmin_cli.specs.Parses.{AreReadAs}
use Rattle.kmin_cli.specs.declared.command_line.ParsedWords.{ParsedWords}
use Rattle.kmin_cli.specs.declared.command_line.ParsedWords.TheVariants.{Job, Save, Questions as TheQuestions, Explain, Tidy, Help, Refused}
use Rattle.kmin_inputs.specs.FileContents.{Surroundings}
use Rattle.kmin_expansions.specs.JobTexts.{TreeTexts, AreTextsOfJob}
use Rattle.kmin_inputs.specs.WordFiles.{Represent, StopsAtWords, is_input_read_for}
use Rattle.kmin_expansions.specs.WantedQuestions.{AreAsked, AsksInPart, StopsWanting, questions_text}
use Rattle.kmin_outputs.specs.Outputs.{HasOutput}
use Rattle.kmin_explain_command.specs.Explains.{Explains}
use Rattle.kmin_explain_command.specs.Stops.{ExplainsInPart, StopsExplaining}
use Rattle.kmin_run.specs.BundleOutputs.{BundleHasOutput, StopsOnBundle, WritesPart}
use Rattle.kmin_run.specs.Bundles.{ReadsToEnd}
use Rattle.kmin_run.specs.PartialOutputs.{WritesOutputInPart}
use Rattle.kmin_run.specs.Saves.{SaveEnds}
use Rattle.kmin_outputs.specs.Statuses.{status_of_list}
use Rattle.kmin_outputs.specs.Stops.{Stops}
use Rattle.kmin_run.specs.States.{Input, Outputs, RunState}
use Rattle.kmin_run.specs.TidyRuns.{TidyEnds}

-- the status of a run that ended with a fault, and not by words that are refused
abbrev pub IsOfFault : (status : ℕ) → Type 0
IsOfFault status = (status ≢ 0) × (status ≢ 1) × (status ≢ 2)

-- nothing was written to standard output, or a write failed, with status 5, after this part
abbrev pub WritesAtMost : (part : Type 0) → (old new : Outputs) → (status : ℕ) → Type 0
WritesAtMost part old new status = (new.taken ≡ old.taken) ⊎ ((status ≡ 5) × part)

-- A command over configuration files ends: its output is written, and no write failed; or it ended without its whole output. The
-- disk is unchanged.
pub data JobEnds (known : Surroundings) (counted counted_after : ℕ) (settings : Settings) (task : Task) (old new : Outputs) (lines : List ErrorLine) (status : ℕ) : Type 0 where
  done : (t : TreeTexts) (text : List ℕ) (notices : List ErrorLine) → AreTextsOfJob known settings t
      → HasOutput known.content settings t.texts task text status notices → (status ≡ 0) ⊎ (status ≡ 1) → Appends old.taken new.taken text
      → new.failures ≡ old.failures → new.disk ≡ old.disk → lines ≡ t.lines ++ notices → JobEnds known counted counted_after settings task old new lines status
  stopped : (own : List ErrorLine) → Stops known counted counted_after settings task status own → IsOfFault status
      → WritesAtMost (WritesOutputInPart known settings task old.taken new.taken) old new status → new.disk ≡ old.disk → lines ≡ own ++ last_lines status
      → JobEnds known counted counted_after settings task old new lines status

-- The command `wants` ends: the open questions are written, and no write failed; or it ended without all of them. The disk is
-- unchanged.
pub data QuestionsEnd (known : Surroundings) (counted counted_after : ℕ) (questions : Questions) (old new : Outputs) (lines : List ErrorLine) (status : ℕ) : Type 0 where
  done : (asked : List (List ℕ)) → AreAsked known counted counted_after questions (Ok asked) → status ≡ status_of_list true asked
      → Appends old.taken new.taken (questions_text asked) → new.failures ≡ old.failures → new.disk ≡ old.disk → lines ≡ []
      → QuestionsEnd known counted counted_after questions old new lines status
  stopped : (own : List ErrorLine) → StopsWanting known counted counted_after questions status own → IsOfFault status
      → WritesAtMost (AsksInPart known counted counted_after questions old.taken new.taken) old new status → new.disk ≡ old.disk → lines ≡ own ++ last_lines status
      → QuestionsEnd known counted counted_after questions old new lines status

-- `explain`, or `missed` or `check` with reasons, ends: its output is written, and no write failed; or it ended without its whole output. The disk is
-- unchanged.
pub data ExplainEnds (known : Surroundings) (counted counted_after : ℕ) (job : ExplainJob) (old new : Outputs) (lines : List ErrorLine) (status : ℕ) : Type 0 where
  done : (t : TreeTexts) (text : List ℕ) → AreTextsOfJob known job.settings t → Explains known.content job t text status lines
      → (status ≡ 0) ⊎ (status ≡ 1) → Appends old.taken new.taken text → new.failures ≡ old.failures → new.disk ≡ old.disk
      → ExplainEnds known counted counted_after job old new lines status
  stopped : (own : List ErrorLine) → StopsExplaining known counted counted_after job status own → IsOfFault status
      → WritesAtMost (ExplainsInPart known job old.taken new.taken) old new status → new.disk ≡ old.disk → lines ≡ own ++ last_lines status
      → ExplainEnds known counted counted_after job old new lines status

-- A help ends: its text is written, or the first bytes of it before a write that failed. The disk is unchanged.
pub data HelpEnds (text : List ℕ) (old new : Outputs) (lines : List ErrorLine) (status : ℕ) : Type 0 where
  done : status ≡ 0 → Appends old.taken new.taken text → new.failures ≡ old.failures → new.disk ≡ old.disk → lines ≡ []
      → HelpEnds text old new lines status
  stopped : (written : ℕ) → written < length text → status ≡ 5 → Appends old.taken new.taken (take written text) → HasRisen old.failures new.failures
      → new.disk ≡ old.disk → lines ≡ output_line ∷ [] → HelpEnds text old new lines status

-- What was parsed ends: a command as its job does, a help, or a message that refuses the words, with status 2. Only `tidy --write`
-- and an output file change the disk.
abbrev pub ParsedEnds : Surroundings → (counted counted_after : ℕ) → (left : Option (List ℕ)) → ParsedWords → (old new : Outputs) → (lines : List ErrorLine) → (status : ℕ) → Type 0
ParsedEnds known counted counted_after left (Job job) old new lines status = JobEnds known counted counted_after (settings_view job.settings) (task_view job.task) old new lines status
ParsedEnds known counted counted_after left (Save output_job) old new lines status =
    SaveEnds known counted counted_after (settings_view output_job.job.settings) (task_view output_job.job.task) output_job.output.now old.disk new.disk lines status
    × (new.taken ≡ old.taken) × (new.failures ≡ old.failures)
ParsedEnds known counted counted_after left (TheQuestions questions) old new lines status = QuestionsEnd known counted counted_after (questions_view questions) old new lines status
ParsedEnds known counted counted_after left (Explain explain_job) old new lines status = ExplainEnds known counted counted_after (explain_job_view explain_job) old new lines status
ParsedEnds known counted counted_after left (Tidy tidy_job) old new lines status =
    TidyEnds known counted counted_after left (tidy_job_view tidy_job) old new lines status × (tidy_job.flags.write ≡ false → new.disk.state ≡ old.disk.state)
ParsedEnds known counted counted_after left (Help text) old new lines status = HelpEnds text.bytes.items old new lines status
ParsedEnds known counted counted_after left (Refused text) old new lines status = (status ≡ 2) × (new ≡ old) × (lines ≡ refused_line text.bytes.items ∷ [])

-- a form of messages with the folder and the language of the tree, and the prefix of names; None for plain messages
abbrev pub form_with : Option Form → (root : List ℕ) → Language → (prefix : List ℕ) → Option AskedForm
form_with messages root language prefix = option_map (λ form. record { form = form; root = root; language = language; prefix = prefix }) messages

-- the form of messages for which these settings ask
abbrev pub form_of_settings : Settings → Option AskedForm
form_of_settings settings = form_with settings.messages settings.root settings.language settings.format.prefix

-- the form of messages for which the words of a command ask; a help and a message that refuses the words have plain ones. The command
-- `wants` is over a tree in the language of Linux, and reads no configuration file.
abbrev pub form_asked : ParsedWords → Option AskedForm
form_asked (Job job) = form_of_settings (settings_view job.settings)
form_asked (Save output_job) = form_of_settings (settings_view output_job.job.settings)
form_asked (TheQuestions questions) = form_with questions.messages questions.root.now (Linux Unknown) (codes "CONFIG_")
form_asked (Explain explain_job) = form_of_settings (settings_view explain_job.settings)
form_asked (Tidy tidy_job) = form_of_settings (settings_view tidy_job.settings)
form_asked what = None

-- A run on words without `@FILE` ends as what they are read as does, with lines in the form for which they ask, or memory ran out
-- before, and nothing changes. Where standard input was read before for words in a file (`is_input_read`), they are refused if they
-- read it once more.
pub data ReadEnd (known : Surroundings) (counted counted_after : ℕ) (is_input_read : Bool) (words : List (List ℕ)) (left : Option (List ℕ)) (old new : Outputs) (form : Option AskedForm) (lines : List ErrorLine) (status : ℕ) : Type 0 where
  parsed : (what : ParsedWords) → AreReadAs is_input_read words what → form ≡ form_asked what → ParsedEnds known counted counted_after left what old new lines status
      → ReadEnd known counted counted_after is_input_read words left old new form lines status
  for_memory : status ≡ 6 → new ≡ old → form ≡ None → lines ≡ last_lines status → ReadEnd known counted counted_after is_input_read words left old new form lines status

-- A run on words ends as one on the words that they represent does, each `@FILE` those in its file; or such a file ends it, and
-- nothing changes. Of standard input all is left then but where it is one of these files.
pub data WordsEnd (before after : RunState) (words : List (List ℕ)) (form : Option AskedForm) (lines : List ErrorLine) (status : ℕ) : Type 0 where
  represented : (represented : List (List ℕ)) (left : Option (List ℕ)) → Represent before.known.content before.input.left words represented
      → (is_input_read_for words ≡ false → left ≡ before.input.left)
      → ReadEnd before.known before.counted after.counted (is_input_read_for words) represented left before.outputs after.outputs form lines status
      → WordsEnd before after words form lines status
  stopped : (own : List ErrorLine) → StopsAtWords before.known.content before.input.left words status own → after.outputs ≡ before.outputs → form ≡ None → lines ≡ own ++ last_lines status
      → WordsEnd before after words form lines status

-- a count of failures rose: that of the files, which counts those that can't be opened and reads that fail, that of standard input
-- or that of standard output
abbrev pub HasFailed : (before after : RunState) → Type 0
HasFailed before after =
    HasRisen before.counted after.counted ⊎ (HasRisen before.input.failures after.input.failures ⊎ HasRisen before.outputs.failures after.outputs.failures)

-- A run on a bundle ends: it was read to its end, has an allowed size, its full file is written, and no read or write failed; or
-- the run ended without the whole file, on status 5 since a read or a write failed. The disk is unchanged.
pub data BundleEnds (input input_after : Input) (old new : Outputs) (lines : List ErrorLine) (status : ℕ) : Type 0 where
  done : (bundle text : List ℕ) → status ≡ 0 → ReadsToEnd input.left input_after.left bundle → length bundle ≤ MAX_BUNDLE_BYTES
      → BundleHasOutput bundle text lines → Appends old.taken new.taken text → input_after.failures ≡ input.failures
      → new.failures ≡ old.failures → new.disk ≡ old.disk → BundleEnds input input_after old new lines status
  stopped : (own : List ErrorLine) → StopsOnBundle input.left input_after.left status own → IsOfFault status
      → WritesAtMost (WritesPart input.left input_after.left old.taken new.taken) old new status
      → (status ≡ 5 → HasRisen input.failures input_after.failures ⊎ HasRisen old.failures new.failures)
      → new.disk ≡ old.disk → lines ≡ own ++ last_lines status → BundleEnds input input_after old new lines status

-- a run ends, without words on a bundle, with plain lines, and with words as they are parsed
abbrev pub Ends : (before after : RunState) → (words : List (List ℕ)) → (form : Option AskedForm) → (lines : List ErrorLine) → (status : ℕ) → Type 0
Ends before after [] form lines status = BundleEnds before.input after.input before.outputs after.outputs lines status × (form ≡ None)
Ends before after (word ∷ words) form lines status = WordsEnd before after (word ∷ words) form lines status

-- what was parsed is `tidy --write`, or a command with an output file
abbrev pub MayChangeFiles : ParsedWords → Type 0
MayChangeFiles (Save output_job) = Unit {0}
MayChangeFiles (Tidy tidy_job) = tidy_job.flags.write ≡ true
MayChangeFiles what = ⊥

-- words without `@FILE` are read as a command that changes files
abbrev pub AreReadForChanges : (is_input_read : Bool) → (words : List (List ℕ)) → Type 0
AreReadForChanges is_input_read words = (what : ParsedWords) × AreReadAs is_input_read words what × MayChangeFiles what

-- words represent words that are read as a command that changes files
abbrev pub AskForChanges : RunState → (words : List (List ℕ)) → Type 0
AskForChanges before words =
    (represented : List (List ℕ)) × Represent before.known.content before.input.left words represented × AreReadForChanges (is_input_read_for words) represented

-- what was parsed is the command `tidy`
abbrev pub IsTidying : ParsedWords → Type 0
IsTidying (Tidy tidy_job) = Unit {0}
IsTidying what = ⊥

-- words without `@FILE` are read as the command `tidy`
abbrev pub AreReadForTidying : (is_input_read : Bool) → (words : List (List ℕ)) → Type 0
AreReadForTidying is_input_read words = (what : ParsedWords) × AreReadAs is_input_read words what × IsTidying what

-- words represent words that are read as the command `tidy`
abbrev pub AskForTidying : RunState → (words : List (List ℕ)) → Type 0
AskForTidying before words =
    (represented : List (List ℕ)) × Represent before.known.content before.input.left words represented × AreReadForTidying (is_input_read_for words) represented
