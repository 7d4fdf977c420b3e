-- The command `tidy`: the list of further paths, and the ends of a run over files. `counted` and `counted_after` are how many calls on
-- files failed before and after, without those on the disk.
use Rattle.std.specs.Prelude.{◌≡◌, ℕ, Bool, true, false, List, [], ◌∷◌, ◌++◌, Option, Some, None, ◌⊎◌}
use Rattle.std.specs.List.{list_all}
use Rattle.std.specs.Str.{is_utf8}
use Rattle.std.specs.Io.KnownBytes.{Appends}
use Rattle.kc_value.specs.FileContents.{FileContent}
use Rattle.kc_tree_model.specs.Trees.{Tree}
use Rattle.kmin_lines.specs.Lists.{paths_in, is_one_line}
use Rattle.kmin_tidy.specs.declared.options.TidyOptions.{TidyOptions}
use Rattle.kmin_tidy.specs.Options.{TidySettings as RunSettings}
use Rattle.kmin_tidy.specs.Ends.{Ends}
use Rattle.kmin_tidy.specs.Promises.{IsKeptOrLeft, AreTidy}
use Rattle.kmin_options.specs.declared.job.TidyFlags.{TidyFlags}
use Rattle.kmin_options.specs.Jobs.{Settings, PathList, TidyJob}
use Rattle.kmin_inputs.specs.FileContents.{Surroundings}
use Rattle.kmin_inputs.specs.ListFiles.{IsListRead, StopsReadingList, list_content, malformed_line}
use Rattle.kmin_expansions.specs.JobTexts.{TreeTexts, AreTextsOfJob}
use Rattle.kmin_trees.specs.AcceptedTrees.{AreAccepted}
use Rattle.kmin_report.specs.Reports.{ErrorLine, last_lines}
use Rattle.kmin_trees.specs.Stops.{StopsAtTree}
use Rattle.kmin_run.specs.States.{Outputs}

-- these bytes are those of the list of `tidy --from`, and no more than `MAX_LIST_BYTES`; without a list there are none
abbrev pub AreListBytes : (content_of : List ℕ → FileContent) → (left : Option (List ℕ)) → Option PathList → (bytes : List ℕ) → Type 0
AreListBytes content_of left None bytes = bytes ≡ []
AreListBytes content_of left (Some list) bytes = IsListRead (list_content content_of left list.path) bytes

-- whether the paths in the list of `tidy --from` end with the byte 0 in place of a newline; false without a list
abbrev pub is_ended_by_nul : Option PathList → Bool
is_ended_by_nul None = false
is_ended_by_nul (Some list) = list.ended_by_nul

-- the paths in the list of `tidy --from`, if these are its bytes
abbrev pub listed_paths : Option PathList → (bytes : List ℕ) → List (List ℕ)
listed_paths list bytes = paths_in (is_ended_by_nul list) bytes

-- each of these paths is UTF-8 and has no newline
pub record AreNamed (paths : List (List ℕ)) : Type 0 where
  pub utf8 : list_all is_utf8 paths ≡ true
  pub one_line : list_all is_one_line paths ≡ true

-- one of these paths isn't UTF-8 or has a newline
abbrev pub AreMalformed : (paths : List (List ℕ)) → Type 0
AreMalformed paths = (list_all is_utf8 paths ≡ false) ⊎ (list_all is_one_line paths ≡ false)

-- The list of `tidy --from` ends a run, with this status and these lines of standard error before those of `last_lines`: it can't
-- be read, a path in it is refused, or memory ran out.
pub data StopsAtList (content_of : List ℕ → FileContent) (left : Option (List ℕ)) (list : Option PathList) (status : ℕ) (lines : List ErrorLine) : Type 0 where
  reading : (named : PathList) → list ≡ Some named → StopsReadingList (list_content content_of left named.path) named.path status lines
      → StopsAtList content_of left list status lines
  malformed : (bytes : List ℕ) → AreListBytes content_of left list bytes → AreMalformed (listed_paths list bytes) → status ≡ 2
      → lines ≡ malformed_line ∷ [] → StopsAtList content_of left list status lines
  for_memory : status ≡ 6 → lines ≡ [] → StopsAtList content_of left list status lines

-- the options of `tidy_files`, from those of the command `tidy`
abbrev pub options_of : Settings → TidyFlags → TidyOptions
options_of settings flags = record { write = flags.write; drop = flags.drop; strict = settings.strict; output_form = settings.output_form }

-- the settings of a run of `tidy_files`, from the options of the command `tidy` and its tree
abbrev pub run_settings : Settings → TidyFlags → Tree → RunSettings
run_settings settings flags tree = record { format = settings.format; profile = settings.profile; tree = tree; options = options_of settings flags }

-- A run over files ended as `tidy_files` promises: at each path all is as it was, or a file was replaced by its minimal file, or
-- an unfinished new file was left; and nothing changes if each file is minimal or refused.
pub record GoesOver (s : RunSettings) (old new : Outputs) (paths : List (List ℕ)) (reports : List ErrorLine) (status : ℕ) : Type 0 where
  pub ends : Ends s old.disk new.disk paths old.taken new.taken old.failures new.failures reports status
  pub became : (place : List ℕ) → IsKeptOrLeft s (old.disk.state.history place) (new.disk.state.history place)
  pub again : AreTidy s old.disk.state paths → new.disk.state ≡ old.disk.state
  pub silent : AreTidy s old.disk.state paths → Appends old.taken new.taken []

-- a run over some files ended as `tidy_files` promises, with this status
abbrev pub IsGoneOver : (old new : Outputs) → (status : ℕ) → Type 0
IsGoneOver old new status = (s : RunSettings) × (paths : List (List ℕ)) × (reports : List ErrorLine) × GoesOver s old new paths reports status

-- The command `tidy` over these paths ends: the files are tidied; or its tree is refused or memory ran out, and nothing changes.
pub data PathsEnd (known : Surroundings) (counted counted_after : ℕ) (settings : Settings) (flags : TidyFlags) (paths : List (List ℕ)) (old new : Outputs) (lines : List ErrorLine) (status : ℕ) : Type 0 where
  at_tree : (own : List ErrorLine) → StopsAtTree known counted counted_after settings status own → lines ≡ own ++ last_lines status → new ≡ old
      → PathsEnd known counted counted_after settings flags paths old new lines status
  over_files : (texts : TreeTexts) (tree : Tree) (reports : List ErrorLine) → AreTextsOfJob known settings texts
      → AreAccepted texts.texts settings.tree tree → GoesOver (run_settings settings flags tree) old new paths reports status
      → lines ≡ texts.lines ++ reports → PathsEnd known counted counted_after settings flags paths old new lines status

-- The command `tidy` ends: its files are tidied, and then those that its list names; or the list or the tree is refused or memory
-- ran out, and nothing changes.
pub data TidyEnds (known : Surroundings) (counted counted_after : ℕ) (left : Option (List ℕ)) (t : TidyJob) (old new : Outputs) (lines : List ErrorLine) (status : ℕ) : Type 0 where
  at_list : (own : List ErrorLine) → StopsAtList known.content left t.list status own → lines ≡ own ++ last_lines status → new ≡ old
      → TidyEnds known counted counted_after left t old new lines status
  over_paths : (bytes : List ℕ) → AreListBytes known.content left t.list bytes → AreNamed (listed_paths t.list bytes)
      → PathsEnd known counted counted_after t.settings t.flags (t.files ++ listed_paths t.list bytes) old new lines status
      → TidyEnds known counted counted_after left t old new lines status
