-- How parts of a run take what it works on from one state to another.
use Rattle.std.specs.Prelude.{◌≡◌, ◌≢◌, ◌≤◌, ◌⊎◌, ℕ, Bool, false, List, Option, None}
use Rattle.kmin_report.specs.Reports.{ErrorLine, last_lines}
use Rattle.kmin_texts.specs.Spellings.{AskedForm}
use Rattle.kmin_cli.specs.declared.command_line.ParsedWords.{ParsedWords}
use Rattle.kmin_inputs.specs.WordFiles.{AreFilesRead, is_input_read_for}
use Rattle.kmin_lines.specs.WordFiles.{files_of}
use Rattle.kmin_run.specs.States.{RunState}
use Rattle.kmin_run.specs.Runs.{AreReadForChanges, AreReadForTidying, AskForChanges, AskForTidying, HasFailed, IsTidying, MayChangeFiles, ParsedEnds, ReadEnd, form_asked}

-- The files of these words were read since a state: of what a run works on only standard input changed, and that only where one of
-- them is standard input.
pub record AreWordsRead (before after : RunState) (words files : List (List ℕ)) (is_input_read : Bool) : Type 0 where
  pub read : AreFilesRead before.known.content before.input.left (files_of words) files
  pub input : is_input_read ≡ is_input_read_for words
  pub known : after.known ≡ before.known
  pub counted : after.counted ≡ before.counted
  pub unfailed : after.input.failures ≡ before.input.failures
  pub outputs : after.outputs ≡ before.outputs
  pub untouched : is_input_read_for words ≡ false → after.input.left ≡ before.input.left

-- what was parsed ends, and standard input is as it was left for it
abbrev pub EndsAsParsed : (before after : RunState) → ParsedWords → (lines : List ErrorLine) → (status : ℕ) → Type 0
EndsAsParsed before after what lines status = ParsedEnds before.known before.counted after.counted before.input.left what before.outputs after.outputs lines status

-- What was parsed ends, with lines in the form for which it asks; or memory ran out before, and nothing changes.
pub data FormedEnds (before after : RunState) (what : ParsedWords) (form : Option AskedForm) (lines : List ErrorLine) (status : ℕ) : Type 0 where
  formed : form ≡ form_asked what → EndsAsParsed before after what lines status → FormedEnds before after what form lines status
  for_memory : status ≡ 6 → after.outputs ≡ before.outputs → form ≡ None → lines ≡ last_lines status → FormedEnds before after what form lines status

-- a run on words without `@FILE` ends
abbrev pub EndsAsRead : (before after : RunState) → (is_input_read : Bool) → (words : List (List ℕ)) → (form : Option AskedForm) → (lines : List ErrorLine) → (status : ℕ) → Type 0
EndsAsRead before after is_input_read words form lines status =
    ReadEnd before.known before.counted after.counted is_input_read words before.input.left before.outputs after.outputs form lines status

-- A run with this status changes the disk only if it may, wrote something on status 4 only if it tidies, and on status 5 a count of
-- failures rose, or it is one of these.
pub record KeepsWithin (before after : RunState) (status : ℕ) (Tidies MayChange : Type 0) : Type 0 where
  pub bounded : status ≤ 6
  pub unasked : (after.outputs.disk.state ≡ before.outputs.disk.state) ⊎ MayChange
  pub refused : status ≡ 4 → (after.outputs.taken ≡ before.outputs.taken) ⊎ Tidies
  pub unwritten : status ≢ 0 → status ≢ 1 → status ≢ 4 → status ≢ 5 → after.outputs.taken ≡ before.outputs.taken
  pub failed : status ≡ 5 → HasFailed before after ⊎ (Tidies ⊎ MayChange)

-- a run on words keeps within what they ask for
abbrev pub KeepsWithinWords : (before after : RunState) → (words : List (List ℕ)) → (status : ℕ) → Type 0
KeepsWithinWords before after words status = KeepsWithin before after status (AskForTidying before words) (AskForChanges before words)

-- a run on words without `@FILE` keeps within what they are read as
abbrev pub KeepsWithinRead : (before after : RunState) → (is_input_read : Bool) → (words : List (List ℕ)) → (status : ℕ) → Type 0
KeepsWithinRead before after is_input_read words status =
    KeepsWithin before after status (AreReadForTidying is_input_read words) (AreReadForChanges is_input_read words)

-- a run keeps within what was parsed
abbrev pub KeepsWithinParsed : (before after : RunState) → ParsedWords → (status : ℕ) → Type 0
KeepsWithinParsed before after what status = KeepsWithin before after status (IsTidying what) (MayChangeFiles what)
