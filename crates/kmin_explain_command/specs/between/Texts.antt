-- What symbols are explained by, and the ends of `explain` once its files are read, as the code has them.
use Rattle.std.specs.Prelude.{◌≡◌, ℕ, ◌&&◌, List, [], ◌∷◌, Option, map, if◌then◌else◌}
use Rattle.std.specs.Borrow.{Bor}
use Rattle.std.specs.List.{AllZip}
use Rattle.kc_tree_model.specs.Blocks.{Group}
use Rattle.kc_tree_model.specs.Contents.{tree_of_groups}
use Rattle.kc_rules.specs.between.SettledViews.{tree_model_of, profile_of}
use Rattle.kc_dotconfig_model.specs.ConfigLines.{LineMeaning}
use Rattle.kc_config.specs.ConfigStates.{Configured, tree_in}
use Rattle.kc_builder.specs.between.TreeLines.{HasLines}
use Rattle.kc_builder.specs.declared.tree_lines.TreeLines.{TreeLines}
use Rattle.kc_config_reasons.specs.between.FileLines.{KeepsLines}
use Rattle.kmin_explain.specs.Explanations.{SourcesModel, is_one_hindered}
use Rattle.kmin_options.specs.Jobs.{explain_job_view, ExplainJob as GivenJob, Question}
use Rattle.kmin_options.specs.declared.job.ExplainFlags.{ExplainFlags}
use Rattle.kmin_options.specs.declared.job.ExplainJob.{ExplainJob}
use Rattle.kmin_records.specs.declared.output_form.OutputForm.{OutputForm}
use Rattle.kmin_report.specs.Reports.{refused_line}
use Rattle.kmin_report.specs.StandardError.{SpelledBytes, TakesLines}
use Rattle.kmin_trees.specs.declared.lined_trees.LinedTree.{LinedTree}
use Rattle.kmin_outputs.specs.between.Comparisons.{AreNoticed}
use Rattle.kmin_outputs.specs.between.LoadStops.{StopsNoticing}
use Rattle.kmin_outputs.specs.between.LoadResults.{lists_of}
use Rattle.kmin_explain_command.specs.Explains.{AreExplainedFor, explained_text, IsTextFor, IsUnknown, status_for, symbols_in}
use Rattle.kmin_explain_command.specs.Stops.{unknown_text}
use Rattle.kmin_explain_command.specs.declared.lined_files.LinedFiles.{LinedFiles}

-- the paths of a job's files
abbrev pub paths_of_job : ExplainJob → List (List ℕ)
paths_of_job job = map (λ (path : Bor (List ℕ)). path.now) job.files.items

-- what the symbols of a job are explained by: a tree with its lines, of these groups, and files whose lines have these meanings
abbrev pub sources_of : ExplainJob → LinedTree → LinedFiles → List Group → List (List LineMeaning) → SourcesModel
sources_of job tree found read meanings = record {
  profile = profile_of found.read.config.system;
  tree = tree_in found.read.config;
  users = found.read.config.users;
  values = found.read.config.values;
  read = read;
  tree_paths = tree.paths.items;
  meanings = meanings;
  file_paths = paths_of_job job;
  strings = job.settings.format.strings;
}

-- of these groups the tree and its lines are made, and of the configuration files, whose lines have these meanings, the last lines
-- are kept
pub record AreOfSources (tree : LinedTree) (found : LinedFiles) (read : List Group) (meanings : List (List LineMeaning)) : Type 0 where
  pub tree_is : tree_in found.read.config ≡ tree_of_groups (tree_in found.read.config).language read
  pub has : HasLines (tree_model_of found.read.config.system).exprs tree.lines read
  pub kept : AllZip (KeepsLines (tree_in found.read.config)) meanings found.lines.items

-- this is the text in a form for some named symbols, with these flags
abbrev pub IsTextOf : OutputForm → ExplainFlags → SourcesModel → (named : List ℕ) → (text : List ℕ) → Type 0
IsTextOf form flags g named text = (symbols : List ℕ) × AreExplainedFor flags.deep g named symbols × (text ≡ explained_text form g flags.all symbols)

-- and this is the status
abbrev pub status_by : ExplainFlags → SourcesModel → (named : List ℕ) → ℕ
status_by flags g named = if flags.exit_code && is_one_hindered g named then 1 else 0

-- the text and the status for a question, of `explain` for these named symbols
pub record IsOutputFor (form : OutputForm) (question : Question) (g : SourcesModel) (named : List ℕ) (text : List ℕ) (status : ℕ) : Type 0 where
  pub text_is : IsTextFor form question g named text
  pub status_is : status ≡ status_for question g named

-- the text and the status for the symbols of a job, whether or not each of its names means one
abbrev pub IsOutputOf : GivenJob → SourcesModel → (text : List ℕ) → (status : ℕ) → Type 0
IsOutputOf job g text status = IsOutputFor job.settings.output_form job.question g (symbols_in job g.tree) text status

-- `explain` ends, once its files are read: at the choices of their configuration, or after the notices on these for a name that means
-- no symbol, or since memory runs out
pub data StopsAfterFiles (job : ExplainJob) (tree : LinedTree) (found : LinedFiles) (status : ℕ) (taken : SpelledBytes) (failed : ℕ) (taken_after : SpelledBytes) (failed_after : ℕ) : Type 0 where
  at_choices : StopsNoticing (tree_in found.read.config) found.read.config.values job.settings.strict (paths_of_job job) (lists_of found.read.chosen.items) status taken failed taken_after failed_after
      → StopsAfterFiles job tree found status taken failed taken_after failed_after
  at_name : (middle : SpelledBytes) (failed_middle : ℕ) (name : List ℕ) (near : Option (List ℕ))
      → AreNoticed job.settings.strict (paths_of_job job) found.read taken failed middle failed_middle
      → ((read : List Group) (meanings : List (List LineMeaning)) → IsUnknown (explain_job_view job) (sources_of job tree found read meanings) name near)
      → TakesLines middle failed_middle (refused_line (unknown_text name near) ∷ []) taken_after failed_after → status ≡ 4
      → StopsAfterFiles job tree found status taken failed taken_after failed_after
  for_memory : AreNoticed job.settings.strict (paths_of_job job) found.read taken failed taken_after failed_after → status ≡ 6
      → StopsAfterFiles job tree found status taken failed taken_after failed_after
