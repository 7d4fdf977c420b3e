-- `explain` where it ends early: the exit status, and the lines of standard error before those of `last_lines`. `counted` and
-- `counted_after` are how many calls on files failed before and after.
use Rattle.std.specs.Prelude.{◌≡◌, ℕ, ◌<◌, List, [], ◌∷◌, ◌++◌, Option, Some, None, codes, length, take}
use Rattle.std.specs.Io.KnownBytes.{Appends}
use Rattle.kmin_options.specs.Jobs.{ExplainJob, Task, over}
use Rattle.kmin_options.specs.declared.job.Verb.TheVariants.{Min}
use Rattle.kmin_inputs.specs.FileContents.{Surroundings}
use Rattle.kmin_expansions.specs.JobTexts.{TreeTexts, AreTextsOfJob}
use Rattle.kmin_outputs.specs.Stops.{StopsBefore}
use Rattle.kmin_report.specs.Reports.{ErrorLine, output_line, refused_line}
use Rattle.kmin_explain_command.specs.Explains.{Explains, RefusesName}

-- a command over the configuration of the job's files: before its output it ends as `explain` does before its names are looked up,
-- whatever it writes
abbrev pub task_of : ExplainJob → Task
task_of job = over Min job.files

-- ` (nearest NAME)`, if there is one
abbrev pub nearest_text : Option (List ℕ) → List ℕ
nearest_text None = []
nearest_text (Some near) = codes " (nearest " ++ (near ++ codes ")")

-- the message that refuses a name that means no symbol
abbrev pub unknown_text : (name : List ℕ) → (near : Option (List ℕ)) → List ℕ
unknown_text name near = codes "explain: UnknownSymbol " ++ (name ++ (nearest_text near ++ 10 ∷ []))

-- `explain` ends without its whole output, with this status and these lines of standard error: at its tree, among its configuration
-- files, at the choices of their configuration, since memory ran out, at a name that means no symbol, or at a failed write of the
-- output.
pub data StopsExplaining (known : Surroundings) (counted counted_after : ℕ) (job : ExplainJob) (status : ℕ) (lines : List ErrorLine) : Type 0 where
  before_output : StopsBefore known counted counted_after job.settings (task_of job) status lines → StopsExplaining known counted counted_after job status lines
  at_name : (t : TreeTexts) (name : List ℕ) (near : Option (List ℕ)) (own : List ErrorLine) → AreTextsOfJob known job.settings t
      → RefusesName known.content job t name near own → status ≡ 4 → lines ≡ own ++ refused_line (unknown_text name near) ∷ []
      → StopsExplaining known counted counted_after job status lines
  at_write : (t : TreeTexts) (text : List ℕ) (made : ℕ) (own : List ErrorLine) → AreTextsOfJob known job.settings t
      → Explains known.content job t text made own → status ≡ 5 → lines ≡ own ++ output_line ∷ [] → StopsExplaining known counted counted_after job status lines

-- standard output took the first bytes of the output of `explain`, but not all of them
pub record ExplainsInPart (known : Surroundings) (job : ExplainJob) (taken taken_after : Option (List ℕ)) : Type 0 where
  pub read : TreeTexts
  pub are : AreTextsOfJob known job.settings read
  pub text : List ℕ
  pub status : ℕ
  pub lines : List ErrorLine
  pub explains : Explains known.content job read text status lines
  pub written : ℕ
  pub part : written < length text
  pub took : Appends taken taken_after (take written text)
