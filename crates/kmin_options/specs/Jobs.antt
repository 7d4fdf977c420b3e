-- Jobs, as contracts see them.
use Rattle.std.specs.Prelude.{ℕ, Bool, List, [], ◌∷◌, Option, map, option_map}
use Rattle.std.specs.Borrow.{Bor}
use Rattle.kc_tokens.specs.declared.language.Language.{Language}
use Rattle.kc_rules_model.specs.declared.profile.Profile.{Profile}
use Rattle.kc_dotconfig_model.specs.Formats.{FileFormat}
use Rattle.kc_dotconfig_model.specs.between.Formats.{file_format}
use Rattle.kmin_messages.specs.declared.message.Form.{Form}
use Rattle.kmin_records.specs.declared.output_form.OutputForm.{OutputForm}
use Rattle.kmin_options.specs.declared.job.Verb.{Verb}
use Rattle.kmin_options.specs.declared.job.Definition.{Definition as DeclaredDefinition}
use Rattle.kmin_options.specs.declared.job.ExpansionOptions.{ExpansionOptions as DeclaredExpansion}
use Rattle.kmin_options.specs.declared.job.Settings.{Settings as DeclaredSettings}
use Rattle.kmin_options.specs.declared.job.TidyFlags.{TidyFlags}
use Rattle.kmin_options.specs.declared.job.ExplainFlags.{ExplainFlags}
use Rattle.kmin_options.specs.declared.job.MissedForm.{MissedForm}
use Rattle.kmin_options.specs.declared.job.Question.{Question as DeclaredQuestion}
use Rattle.kmin_options.specs.declared.job.Question.TheVariants.{Explain, Missed, Check}
use Rattle.kmin_options.specs.declared.job.ExplainJob.{ExplainJob as DeclaredExplainJob}
use Rattle.kmin_options.specs.declared.job.PathList.{PathList as DeclaredPathList}
use Rattle.kmin_options.specs.declared.job.TidyJob.{TidyJob as DeclaredTidyJob}
use Rattle.kmin_options.specs.declared.job.Questions.{Questions as DeclaredQuestions}
use Rattle.kmin_options.specs.declared.job.Task.{Task as DeclaredTask}
use Rattle.kmin_options.specs.declared.job.Task.TheVariants.{Over, Compare}

-- a definition of the command line: one `--define NAME=VALUE`
pub record Definition : Type 0 where
  pub name : List ℕ
  pub value : List ℕ

-- where the questions of a tree's macros are answered: by answer files, by definitions, and for these names by the environment,
-- each in order
pub record GivenExpansion : Type 0 where
  pub answers : List (List ℕ)
  pub definitions : List Definition
  pub environment : List (List ℕ)

-- the options of a command over configuration files: `tree` is the path of the first Kconfig file, relative to the folder
-- `root`; without `expansion` no macro is expanded, and without `messages` the lines of standard error are plain; `output_form` is that of what
-- is listed on standard output
pub record Settings : Type 0 where
  pub root : List ℕ
  pub tree : List ℕ
  pub language : Language
  pub format : FileFormat
  pub profile : Profile
  pub strict : Bool
  pub expansion : Option GivenExpansion
  pub messages : Option Form
  pub output_form : OutputForm

-- the list of `tidy --from LIST`: its path, and whether each path in it ends with the byte 0 in place of a newline
pub record PathList : Type 0 where
  pub path : List ℕ
  pub ended_by_nul : Bool

-- the command `tidy`: its options, its flags, the list of further paths, and the files, in order
pub record TidyJob : Type 0 where
  pub settings : Settings
  pub flags : TidyFlags
  pub list : Option PathList
  pub files : List (List ℕ)

-- what is asked of reasons: of `explain` with these flags, why symbols of these names, with commas between them (none with
-- `--every`), have their values; of `missed` in a form, why symbols don't have their assigned values; of `check`, which symbols are
-- selected against their dependencies, and by what; of the last two whether the exit status says that there are any
pub data Question : Type 0 where
  explain : (flags : ExplainFlags) → (names : Option (List ℕ)) → Question
  missed : (form : MissedForm) → (exit_code : Bool) → Question
  check : (exit_code : Bool) → Question

-- a command that gives reasons: its options, its question, and the files, in order
pub record ExplainJob : Type 0 where
  pub settings : Settings
  pub question : Question
  pub files : List (List ℕ)

-- the command `wants`: the folder of the tree, the path of its first Kconfig file there, where its macros' questions are answered,
-- whether the questions of answer files that the tree doesn't ask are listed where none is open, and the form of messages
pub record Questions : Type 0 where
  pub root : List ℕ
  pub tree : List ℕ
  pub expansion : GivenExpansion
  pub unused : Bool
  pub messages : Option Form

-- a command: a verb over the files of one configuration, or the comparison of two files
pub data Task : Type 0 where
  over : Verb → (paths : List (List ℕ)) → Task
  compare : (left right : List ℕ) → Task

-- a `Definition` of the code, as contracts see it
abbrev pub definition_view : DeclaredDefinition → Definition
definition_view d = record { name = d.name.now; value = d.value.now }

-- the `ExpansionOptions` of the code, as contracts see it
abbrev pub expansion_view : DeclaredExpansion → GivenExpansion
expansion_view e = record {
  answers = map (λ (path : Bor (List ℕ)). path.now) e.answers.items;
  definitions = map definition_view e.definitions.items;
  environment = map (λ (name : Bor (List ℕ)). name.now) e.environment.items;
}

-- the `Settings` of the code, as contracts see them
abbrev pub settings_view : DeclaredSettings → Settings
settings_view s = record {
  root = s.root.now;
  tree = s.tree.now;
  language = s.language;
  format = file_format s.format;
  profile = s.profile;
  strict = s.strict;
  expansion = option_map expansion_view s.expansion;
  messages = s.messages;
  output_form = s.output_form;
}

-- a `PathList` of the code, as contracts see it
abbrev pub list_view : DeclaredPathList → PathList
list_view l = record { path = l.path.now; ended_by_nul = l.ended_by_nul }

-- a `TidyJob` of the code, as contracts see it
abbrev pub tidy_job_view : DeclaredTidyJob → TidyJob
tidy_job_view t = record {
  settings = settings_view t.settings;
  flags = t.flags;
  list = option_map list_view t.list;
  files = map (λ (path : Bor (List ℕ)). path.now) t.files.items;
}

-- a `Question` of the code, as contracts see it
abbrev pub question_view : DeclaredQuestion → Question
question_view (Explain flags names) = explain flags (option_map (λ (names : Bor (List ℕ)). names.now) names)
question_view (Missed form exit_code) = missed form exit_code
question_view (Check exit_code) = check exit_code

-- an `ExplainJob` of the code, as contracts see it
abbrev pub explain_job_view : DeclaredExplainJob → ExplainJob
explain_job_view e = record {
  settings = settings_view e.settings;
  question = question_view e.question;
  files = map (λ (path : Bor (List ℕ)). path.now) e.files.items;
}

-- the `Questions` of the code, as contracts see them
abbrev pub questions_view : DeclaredQuestions → Questions
questions_view q =
    record { root = q.root.now; tree = q.tree.now; expansion = expansion_view q.expansion; unused = q.unused; messages = q.messages }

-- a `Task` of the code, as contracts see it
abbrev pub task_view : DeclaredTask → Task
task_view (Over verb files) = over verb (map (λ (path : Bor (List ℕ)). path.now) files.items)
task_view (Compare left right) = compare left.now right.now

-- the configuration files of a command, in the order in which they are read
abbrev pub paths_of : Task → List (List ℕ)
paths_of (over verb paths) = paths
paths_of (compare left right) = left ∷ right ∷ []
