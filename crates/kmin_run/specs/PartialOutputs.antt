-- Outputs of which a part is written.
use Rattle.std.specs.Prelude.{ℕ, ◌<◌, List, Option, length, take}
use Rattle.std.specs.Io.KnownBytes.{Appends}
use Rattle.kmin_options.specs.Jobs.{Settings, Task}
use Rattle.kmin_inputs.specs.FileContents.{Surroundings}
use Rattle.kmin_expansions.specs.JobTexts.{TreeTexts, AreTextsOfJob}
use Rattle.kmin_outputs.specs.Outputs.{HasOutput}
use Rattle.kmin_report.specs.Reports.{ErrorLine}

-- standard output took the first bytes of the output of a command over the texts of its tree, but not all of them
pub record WritesOutputInPart (known : Surroundings) (settings : Settings) (task : Task) (taken taken_after : Option (List ℕ)) : Type 0 where
  pub read : TreeTexts
  pub are : AreTextsOfJob known settings read
  pub text : List ℕ
  pub status : ℕ
  pub notices : List ErrorLine
  pub has : HasOutput known.content settings read.texts task text status notices
  pub written : ℕ
  pub part : written < length text
  pub took : Appends taken taken_after (take written text)
