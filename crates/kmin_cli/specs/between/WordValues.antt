-- The job of accepted words, by the values that their parser found.
use Rattle.std.specs.Prelude.{◌≡◌, ℕ, Bool, true, false, not, ◌&&◌, ◌||◌, List, [], ◌∷◌, ◌++◌, drop, Option, Some, None, Result, Ok, Err, is_some, codes, option_map, option_to_list, bytes_eq, String, if◌then◌else◌}
use Rattle.std.specs.List.{list_all, list_any}
use Rattle.std.specs.declared.alloc.Global.{Global}
use Rattle.clap.specs.Words.{first_value}
use Rattle.clap.specs.declared.parser.matches.Found.{Found}
use Rattle.kc_tokens.specs.declared.language.Language.{Language}
use Rattle.kc_tokens.specs.declared.language.Language.TheVariants.{Strict, Linux}
use Rattle.kc_tokens.specs.declared.language.LinuxVersion.TheVariants.{Unknown, V6_1, V6_12}
use Rattle.kc_rules_model.specs.declared.profile.Profile.{Profile}
use Rattle.kc_rules_model.specs.declared.profile.Profile.TheVariants.{Present, Classic}
use Rattle.kc_dotconfig_model.specs.declared.format.Strings.{Strings}
use Rattle.kc_dotconfig_model.specs.declared.format.Strings.TheVariants.{Escaped, Raw}
use Rattle.kc_value.specs.Lines.{has_newline}
use Rattle.kmin_messages.specs.declared.message.Form.{Form}
use Rattle.kmin_messages.specs.declared.message.Form.TheVariants.{Long, Json}
use Rattle.kmin_records.specs.declared.output_form.OutputForm.{OutputForm}
use Rattle.kmin_records.specs.declared.output_form.OutputForm.TheVariants.{Plain, Json as RecordLines}
use Rattle.kmin_options.specs.declared.job.TidyFlags.{TidyFlags}
use Rattle.kmin_options.specs.declared.job.ExplainFlags.{ExplainFlags}
use Rattle.kmin_options.specs.declared.job.MissedForm.{MissedForm}
use Rattle.kmin_options.specs.declared.job.MissedForm.TheVariants.{Lines, Causes}
use Rattle.kmin_options.specs.declared.job.Verb.{Verb}
use Rattle.kmin_options.specs.declared.job.Verb.TheVariants.{Min, Full, Missed, Check}
use Rattle.kmin_cli.specs.declared.command_line.ParsedWords.{ParsedWords}
use Rattle.kmin_cli.specs.declared.command_line.ParsedWords.TheVariants.{Job, Save, Questions as TheQuestions, Tidy, Explain, Refused}
use Rattle.kmin_options.specs.declared.refusal.Refusal.{Refusal}
use Rattle.kmin_options.specs.declared.refusal.Refusal.TheVariants.{Words, OutOfMemory}
use Rattle.kmin_options.specs.Jobs.{Settings, Questions, PathList, TidyJob, Question, explain, missed, check, ExplainJob, Task, over, compare, paths_of, settings_view, questions_view, tidy_job_view, explain_job_view, task_view}
use Rattle.kmin_options.specs.between.OptionValues.{value_of, values_of, is_given, ValueResult, names_file, paths_beside, and_then, expansion_of, is_expanded, expansion_if_given, name_prefix_of}

-- whether `--exit-code` is given
abbrev pub exit_code_of : Found → Bool
exit_code_of found = is_given found (codes "exit-code")

-- the verb with this name, `missed` and `check` with `--exit-code` or without it; `None` if it is the name of another command
abbrev pub verb_of : List ℕ → Found → Option Verb
verb_of name found = if bytes_eq name (codes "min") then Some Min
    else (if bytes_eq name (codes "full") then Some Full
    else (if bytes_eq name (codes "missed") then Some (Missed (exit_code_of found))
    else (if bytes_eq name (codes "check") then Some (Check (exit_code_of found)) else None)))

-- the profile (how `imply` acts) for a value of `--imply`: `Classic` for `classic`, and `Present` for any other
abbrev pub profile_of : List ℕ → Profile
profile_of value = if bytes_eq value (codes "classic") then Classic else Present

-- the form of strings for a value of `--strings`: `Raw` for `raw`, and `Escaped` for any other
abbrev pub strings_of : List ℕ → Strings
strings_of value = if bytes_eq value (codes "raw") then Raw else Escaped

-- the form of messages for a value of `--messages`; None for plain ones
abbrev pub form_of : List ℕ → Option Form
form_of value = if bytes_eq value (codes "long") then Some Long else (if bytes_eq value (codes "json") then Some Json else None)

-- the form of what is listed for a value of `--format`: `Json` for `json`, and `Plain` for any other
abbrev pub output_form_of : List ℕ → OutputForm
output_form_of value = if bytes_eq value (codes "json") then RecordLines else Plain

-- the Kconfig language for a value of `--language`; without one that of Linux if macros are expanded, and the strict one if not
abbrev pub language_of : List ℕ → (is_expanded : Bool) → Language
language_of value is_expanded =
    if bytes_eq value (codes "strict") then Strict
    else (if bytes_eq value (codes "linux") then Linux Unknown
    else (if bytes_eq value (codes "linux-6.1") then Linux V6_1
    else (if bytes_eq value (codes "linux-6.12") then Linux V6_12
    else (if is_expanded then Linux Unknown else Strict))))

-- the command with this name: a verb over its files in order, or the comparison of two files
abbrev pub task_of : List ℕ → Found → Task
task_of name found = elim (verb_of name found) [
  | Some verb ↦ over verb (values_of found (codes "FILE"))
  | None ↦ compare (value_of found (codes "LEFT")) (value_of found (codes "RIGHT"))
]

-- the message with which `-` is refused as a file that is written
abbrev pub unwritten_dash : List ℕ
unwritten_dash = codes "error: '-' isn't written as a file\n\n  tip: without -o standard output is written, ./- is a file of that name\n"

-- the options of a command over configuration files of these paths, by the values that were found
abbrev pub settings_of : Found → (paths : List (List ℕ)) → ValueResult Settings
settings_of found paths =
    and_then (name_prefix_of found) (λ prefix.
    and_then (expansion_if_given found) (λ expansion.
    and_then (paths_beside (values_of found (codes "answers")) paths) (λ named.
    Ok (record {
      root = value_of found (codes "root");
      tree = value_of found (codes "tree");
      language = language_of (value_of found (codes "language")) (is_some expansion);
      format = record { prefix = prefix; strings = strings_of (value_of found (codes "strings")) };
      profile = profile_of (value_of found (codes "imply"));
      strict = is_given found (codes "strict");
      expansion = expansion;
      messages = form_of (value_of found (codes "messages"));
      output_form = output_form_of (value_of found (codes "format"));
    }))))

-- the options of a command, and the command with this name and its files
abbrev pub job_of : List ℕ → Found → ValueResult (Settings × Task)
job_of name found = and_then (settings_of found (paths_of (task_of name found))) (λ settings. Ok (settings, task_of name found))

-- the path of an output file, if it is given; refused if it has a newline or is `-`
abbrev pub output_path : Option (List ℕ) → ValueResult (Option (List ℕ))
output_path None = Ok None
output_path (Some path) =
    if has_newline path then Err (codes "file: Malformed\n") else (if names_file path then Ok (Some path) else Err unwritten_dash)

-- the value of `--output`, if it is given; refused if it has a newline or is `-`
abbrev pub output_of : Found → ValueResult (Option (List ℕ))
output_of found = output_path (first_value found (codes "output"))

-- whether a verb is `min`
abbrev pub is_min : Verb → Bool
is_min Min = true
is_min verb = false

-- whether a command is `min` with an output file that is one of the files that it reads; paths are compared as texts
abbrev pub minimises_in_place : Task → (output : Option (List ℕ)) → Bool
minimises_in_place (over verb paths) (Some output) = is_min verb && list_any (λ path. bytes_eq path output) paths
minimises_in_place task output = false

-- the options of a command and the command with its files; a file with a notice is refused as with `--strict` where `min` replaces
-- a file that it reads, since the line with the notice would be lost, unless `drop`
abbrev pub kept_in_place : (drop : Bool) → (output : Option (List ℕ)) → Settings × Task → Settings × Task
kept_in_place drop output job =
    (record job.0 { strict = job.0.strict || (minimises_in_place job.1 output && not drop) }, job.1)

-- the options of a command, the command with this name and its files, and the path of its output file, if it is given
abbrev pub job_and_output_of : List ℕ → Found → ValueResult ((Settings × Task) × Option (List ℕ))
job_and_output_of name found =
    and_then (output_of found) (λ output.
    and_then (job_of name found) (λ job.
    Ok (kept_in_place (is_given found (codes "drop")) output job, output)))

-- the folder, first Kconfig file, sources of answers, `--unused` and the form of messages that the words of the command `wants` give, or why they are
-- refused
abbrev pub questions_of : Found → ValueResult Questions
questions_of found =
    and_then (expansion_of found) (λ expansion.
    and_then (paths_beside (values_of found (codes "answers")) []) (λ named.
    Ok (record {
      root = value_of found (codes "root");
      tree = value_of found (codes "tree");
      expansion = expansion;
      unused = is_given found (codes "unused");
      messages = form_of (value_of found (codes "messages"));
    })))

-- whether the flags `--write` and `--drop` are given
abbrev pub flags_of : Found → TidyFlags
flags_of found = record { write = is_given found (codes "write"); drop = is_given found (codes "drop") }

-- the list of further paths that `--from` names, if it is given
abbrev pub list_of : Found → Option PathList
list_of found = option_map (λ (path : List ℕ). record { path = path; ended_by_nul = is_given found (codes "z") }) (first_value found (codes "from"))

-- whether a path has no newline
abbrev pub is_one_line : List ℕ → Bool
is_one_line path = not (has_newline path)

-- the paths themselves; refused if one has a newline
abbrev pub one_line_paths : List (List ℕ) → ValueResult (List (List ℕ))
one_line_paths paths = if list_all is_one_line paths then Ok paths else Err (codes "file: Malformed\n")

-- the path from which the list of `--from` is read: `/dev/stdin` for `-`
abbrev pub path_read : List ℕ → List ℕ
path_read path = if bytes_eq path (codes "-") then codes "/dev/stdin" else path

-- all paths that `tidy` reads: those of its files, and that of its list, if it has one
abbrev pub paths_read : (files : List (List ℕ)) → Option PathList → List (List ℕ)
paths_read files None = files
paths_read files (Some list) = files ++ path_read list.path ∷ []

-- the values of the command `tidy`: its options, flags, list and files
abbrev pub tidy_job_of : Found → ValueResult TidyJob
tidy_job_of found =
    and_then (one_line_paths (values_of found (codes "FILE"))) (λ files.
    and_then (settings_of found (paths_read files (list_of found))) (λ settings.
    Ok (record { settings = settings; flags = flags_of found; list = list_of found; files = files })))

-- whether the flags `--deep`, `--all` and `--exit-code` are given
abbrev pub explain_flags_of : Found → ExplainFlags
explain_flags_of found = record { deep = is_given found (codes "deep"); all = is_given found (codes "all"); exit_code = exit_code_of found }

-- the first word of `explain`, which with `--every` is the first file, and else the names
abbrev pub names_of : Found → Option (List ℕ)
names_of found = if is_given found (codes "every") then None else Some (value_of found (codes "NAME"))

abbrev pub explained_files_of : Found → List (List ℕ)
explained_files_of found = if is_given found (codes "every")
    then option_to_list (first_value found (codes "NAME")) ++ values_of found (codes "FILE")
    else values_of found (codes "FILE")

-- the values of the command `explain`: its options, flags, names and files
abbrev pub explain_job_of : Found → ValueResult ExplainJob
explain_job_of found =
    and_then (settings_of found (explained_files_of found)) (λ settings.
    Ok (record { settings = settings; question = explain (explain_flags_of found) (names_of found); files = explained_files_of found }))

-- whether the command with this name, another one than `compare`, is asked for records
abbrev pub asks_for_records : List ℕ → Found → Bool
asks_for_records name found = not (bytes_eq name (codes "compare")) && bytes_eq (value_of found (codes "format")) (codes "json")

-- whether the command with this name is asked for reasons: `--long` or `--by-cause` is given, or records are asked of it, which have them
abbrev pub asks_for_reasons : List ℕ → Found → Bool
asks_for_reasons name found = (is_given found (codes "long") || is_given found (codes "by-cause")) || asks_for_records name found

-- the form in which `missed` says why symbols don't have their assigned values
abbrev pub missed_form_of : Found → MissedForm
missed_form_of found = if is_given found (codes "by-cause") then Causes else Lines

-- what `check`, or else `missed`, asks of reasons
abbrev pub question_of : List ℕ → Found → Question
question_of name found =
    if bytes_eq name (codes "check") then check (exit_code_of found) else missed (missed_form_of found) (exit_code_of found)

-- the values of the command `missed` or `check` that asks for reasons in one form: its options, question and files
abbrev pub question_job_of : List ℕ → Found → ValueResult ExplainJob
question_job_of name found =
    and_then (settings_of found (values_of found (codes "FILE"))) (λ settings.
    Ok (record { settings = settings; question = question_of name found; files = values_of found (codes "FILE") }))

-- the message with which `--long` is refused beside `--by-cause`
abbrev pub two_forms : List ℕ
two_forms = codes "error: the argument '--long' cannot be used with '--by-cause'\n\nFor more information, try '--help'.\n"

-- whether both are given
abbrev pub has_two_forms : Found → Bool
has_two_forms found = is_given found (codes "long") && is_given found (codes "by-cause")

-- the values of the command `missed` or `check` that asks for reasons; refused with two forms
abbrev pub reasons_job_of : List ℕ → Found → ValueResult ExplainJob
reasons_job_of name found = if has_two_forms found then Err two_forms else question_job_of name found

-- parsed words are the command `wants` with these values, or the message with which a value is refused
abbrev pub AreQuestions : ValueResult Questions → ParsedWords → Type 0
AreQuestions found (TheQuestions questions) = found ≡ Ok (questions_view questions)
AreQuestions found (Refused text) = found ≡ Err text.bytes.items
AreQuestions found words = ⊥

-- parsed words are a command with these values, with its output file if there is one, or the message with which a value is
-- refused
abbrev pub AreJob : ValueResult ((Settings × Task) × Option (List ℕ)) → ParsedWords → Type 0
AreJob found (Job job) = found ≡ Ok ((settings_view job.settings, task_view job.task), None)
AreJob found (Save output_job) = found ≡ Ok ((settings_view output_job.job.settings, task_view output_job.job.task), Some output_job.output.now)
AreJob found (Refused text) = found ≡ Err text.bytes.items
AreJob found words = ⊥

-- parsed words are the command `tidy` with these values, or the message with which a value is refused
abbrev pub IsTidyJob : ValueResult TidyJob → ParsedWords → Type 0
IsTidyJob found (Tidy tidy_job) = found ≡ Ok (tidy_job_view tidy_job)
IsTidyJob found (Refused text) = found ≡ Err text.bytes.items
IsTidyJob found words = ⊥

-- parsed words are a command that gives reasons, with these values, or the message with which a value is refused
abbrev pub IsExplainJob : ValueResult ExplainJob → ParsedWords → Type 0
IsExplainJob found (Explain explain_job) = found ≡ Ok (explain_job_view explain_job)
IsExplainJob found (Refused text) = found ≡ Err text.bytes.items
IsExplainJob found words = ⊥

-- parsed words are a command over configuration files with these values: `missed` or `check` where they ask for reasons, else the one
-- of this name that writes or lists; or the message with which a value is refused
abbrev pub IsListing : (name : List ℕ) → Found → ParsedWords → Type 0
IsListing name found words =
    elim (asks_for_reasons name found) [ true ↦ IsExplainJob (reasons_job_of name found) words | false ↦ AreJob (job_and_output_of name found) words ]

-- parsed words are the command of this name with the values that were found, or the message with which one is refused
abbrev pub HasValues : (name : List ℕ) → Found → ParsedWords → Type 0
HasValues name found words = elim (bytes_eq name (codes "wants")) [
  | true ↦ AreQuestions (questions_of found) words
  | false ↦ elim (bytes_eq name (codes "tidy")) [
    | true ↦ IsTidyJob (tidy_job_of found) words
    | false ↦ elim (bytes_eq name (codes "explain")) [ true ↦ IsExplainJob (explain_job_of found) words | false ↦ IsListing name found words ]
  ]
]

-- what words are parsed as has a property, and so has the message of each refusal that they are parsed as; or memory ran out
abbrev pub Gives : (P : ParsedWords → Type 0) → Result ParsedWords Refusal → Type 0
Gives P (Ok words) = P words
Gives P (Err (Words line)) = (text : String Global) → text.bytes.items ≡ line.now → P (Refused text)
Gives P (Err OutOfMemory) = Unit {0}
