-- The output of a command that gives reasons: of `explain`, and of `missed` and `check` where they ask for them.
use Rattle.std.specs.Prelude.{◌≡◌, ℕ, Bool, true, false, ◌&&◌, List, [], ◌∷◌, ◌++◌, Option, Some, None, if◌then◌else◌}
use Rattle.kc_value.specs.FileContents.{FileContent}
use Rattle.kc_tree_model.specs.Trees.{Tree}
use Rattle.kc_tree_model.specs.Contents.{tree_of_groups}
use Rattle.kc_tree_model.specs.ReadingRelation.{IsWholeReading}
use Rattle.kc_tree_model.specs.TreeFaults.{tree_faults}
use Rattle.kc_tree_model.specs.TreesOfFiles.{origin_of}
use Rattle.kc_dotconfig_model.specs.ConfigFiles.{files_assignment}
use Rattle.kc_dotconfig_model.specs.OtherChoices.{other_choices}
use Rattle.kmin_explain.specs.Names.{names_in, symbols_named, unknown_in}
use Rattle.kmin_explain.specs.NearestNames.{nearest_name}
use Rattle.kmin_explain.specs.Explanations.{SourcesModel, explained_in, all_symbols, is_one_hindered}
use Rattle.kmin_explain.specs.Deep.{AreDeep}
use Rattle.kmin_missed.specs.MissedLines.{missed_of, missed_lines}
use Rattle.kmin_missed.specs.MissedCauses.{missed_causes}
use Rattle.kmin_missed.specs.UnmetLines.{unmet_of, unmet_lines}
use Rattle.kmin_explain_records.specs.SymbolRecords.{records_in}
use Rattle.kmin_explain_records.specs.ListedMissed.{listed_missed}
use Rattle.kmin_records.specs.declared.output_form.OutputForm.{OutputForm}
use Rattle.kmin_records.specs.declared.output_form.OutputForm.TheVariants.{Plain, Json}
use Rattle.kmin_options.specs.declared.job.ExplainFlags.{ExplainFlags}
use Rattle.kmin_options.specs.declared.job.MissedForm.{MissedForm}
use Rattle.kmin_options.specs.declared.job.MissedForm.TheVariants.{Lines, Causes}
use Rattle.kmin_options.specs.Jobs.{ExplainJob, Question, explain, missed, check}
use Rattle.kmin_trees.specs.AcceptedTrees.{AreAccepted}
use Rattle.kmin_expansions.specs.JobTexts.{TreeTexts}
use Rattle.kmin_trees.specs.LinedTrees.{names_by_number}
use Rattle.kmin_report.specs.Reports.{ErrorLine, notice_lines, choice_notice_lines}
use Rattle.kmin_outputs.specs.Outputs.{Resolve}
use Rattle.kmin_outputs.specs.Statuses.{status_of_list}
use Rattle.kmin_outputs.specs.Strictness.{AllowsNotices}

-- What the symbols of a job are explained by: its tree is accepted and of the groups of the one reading of its texts, and its files
-- are accepted, have these meanings and the one solution.
pub record AreSourcesOfJob (content_of : List ℕ → FileContent) (job : ExplainJob) (t : TreeTexts) (g : SourcesModel) : Type 0 where
  pub accepted : AreAccepted t.texts job.settings.tree g.tree
  pub whole : IsWholeReading (origin_of t.texts job.settings.tree) g.read
  pub faultless : tree_faults t.texts.language g.read ≡ []
  pub tree_is : g.tree ≡ tree_of_groups t.texts.language g.read
  pub tree_paths : g.tree_paths ≡ names_by_number t.names
  pub resolved : Resolve content_of job.settings g.tree job.files g.meanings g.values
  pub users : g.users ≡ files_assignment g.tree g.meanings
  pub profile : g.profile ≡ job.settings.profile
  pub file_paths : g.file_paths ≡ job.files
  pub strings : g.strings ≡ job.settings.format.strings
  pub allowed : AllowsNotices job.settings.strict (other_choices g.tree g.values g.meanings)

-- the lines of standard error for a job's tree and files
abbrev pub lines_before : ExplainJob → TreeTexts → SourcesModel → List ErrorLine
lines_before job t g = t.lines ++ (notice_lines g.tree job.files g.meanings ++ choice_notice_lines job.files (other_choices g.tree g.values g.meanings))

-- the names of symbols that a question has, if it has any
abbrev pub names_of : Question → Option (List ℕ)
names_of (explain flags names) = names
names_of (missed form exit_code) = None
names_of (check exit_code) = None

-- the first name of a job that means no symbol of a tree, if there is one
abbrev pub unknown_for : ExplainJob → Tree → Option (List ℕ)
unknown_for job tree = elim (names_of job.question) [ None ↦ None | Some names ↦ unknown_in tree job.settings.format.prefix (names_in names) ]

-- the symbols of a tree that a job names, or all if it names none
abbrev pub symbols_in : ExplainJob → Tree → List ℕ
symbols_in job tree = elim (names_of job.question) [ None ↦ all_symbols tree | Some names ↦ symbols_named tree job.settings.format.prefix (names_in names) ]

-- these are the symbols that are explained for some named ones: just those, or with `--deep` those to go on with too
abbrev pub AreExplainedFor : (deep : Bool) → SourcesModel → (named : List ℕ) → (symbols : List ℕ) → Type 0
AreExplainedFor true g named symbols = AreDeep g named symbols
AreExplainedFor false g named symbols = symbols ≡ named

-- the text of `missed`: line by line or by cause, or a record for each symbol that it lists
abbrev pub missed_text : OutputForm → MissedForm → SourcesModel → List ℕ
missed_text Plain Lines g = missed_lines g
missed_text Plain Causes g = missed_causes g
missed_text Json long_form g = records_in g false (listed_missed g)

-- the text of `check`: the lines of symbols that are selected against their dependencies, or a record for each
abbrev pub unmet_text : OutputForm → SourcesModel → List ℕ
unmet_text Plain g = unmet_lines g
unmet_text Json g = records_in g false (unmet_of g)

-- the text of `explain` in a form for some symbols
abbrev pub explained_text : OutputForm → SourcesModel → (all : Bool) → (symbols : List ℕ) → List ℕ
explained_text Plain g all symbols = explained_in g all symbols
explained_text Json g all symbols = records_in g all symbols

-- this is the text for a question, of `explain` for these named symbols
abbrev pub IsTextFor : OutputForm → Question → SourcesModel → (named : List ℕ) → (text : List ℕ) → Type 0
IsTextFor form (explain flags names) g named text = (symbols : List ℕ) × AreExplainedFor flags.deep g named symbols × (text ≡ explained_text form g flags.all symbols)
IsTextFor form (missed long_form exit_code) g named text = text ≡ missed_text form long_form g
IsTextFor form (check exit_code) g named text = text ≡ unmet_text form g

-- the status: with `--exit-code` 1 where a line for one of the named symbols isn't taken, where a symbol is missed, or where one is
-- selected against its dependencies, else 0
abbrev pub status_for : Question → SourcesModel → (named : List ℕ) → ℕ
status_for (explain flags names) g named = if flags.exit_code && is_one_hindered g named then 1 else 0
status_for (missed form exit_code) g named = status_of_list exit_code (missed_of g)
status_for (check exit_code) g named = status_of_list exit_code (unmet_of g)

-- the text and the status of a command that gives reasons, by what symbols are explained by: each name means a symbol
pub record IsExplained (job : ExplainJob) (g : SourcesModel) (text : List ℕ) (status : ℕ) : Type 0 where
  pub known : unknown_for job g.tree ≡ None
  pub text_is : IsTextFor job.settings.output_form job.question g (symbols_in job g.tree) text
  pub status_is : status ≡ status_for job.question g (symbols_in job g.tree)

-- `explain` has this output, this status and these lines of notices
pub record Explains (content_of : List ℕ → FileContent) (job : ExplainJob) (t : TreeTexts) (text : List ℕ) (status : ℕ) (lines : List ErrorLine) : Type 0 where
  pub sources : SourcesModel
  pub are : AreSourcesOfJob content_of job t sources
  pub explained : IsExplained job sources text status
  pub lines_are : lines ≡ lines_before job t sources

-- a name means no symbol, and is the first such of a job, and this one is the nearest to it
pub record IsUnknown (job : ExplainJob) (g : SourcesModel) (name : List ℕ) (near : Option (List ℕ)) : Type 0 where
  pub unknown : unknown_for job g.tree ≡ Some name
  pub nearest : near ≡ nearest_name g.tree job.settings.format.prefix name

-- `explain` is refused, with status 4, for a name that means no symbol, after these lines, with the name that is nearest to it
pub record RefusesName (content_of : List ℕ → FileContent) (job : ExplainJob) (t : TreeTexts) (name : List ℕ) (near : Option (List ℕ)) (lines : List ErrorLine) : Type 0 where
  pub sources : SourcesModel
  pub are : AreSourcesOfJob content_of job t sources
  pub unknown : IsUnknown job sources name near
  pub lines_are : lines ≡ lines_before job t sources
