-- Words that name standard input.
use Rattle.std.specs.Prelude.{ℕ, Bool, false, ◌||◌, List, Option, Some, None, bytes_eq, codes, count_by}
use Rattle.std.specs.List.{list_any}
use Rattle.kmin_options.specs.Jobs.{Settings, PathList, TidyJob, paths_of, questions_view, settings_view, task_view, tidy_job_view, explain_job_view}
use Rattle.kmin_cli.specs.declared.command_line.ParsedWords.{ParsedWords}
use Rattle.kmin_cli.specs.declared.command_line.ParsedWords.TheVariants.{Job, Save, Questions as TheQuestions, Tidy, Explain}

-- whether a path names standard input: `-` or `/dev/stdin`, compared as texts
abbrev pub is_input : (path : List ℕ) → Bool
is_input path = bytes_eq path (codes "-") || bytes_eq path (codes "/dev/stdin")

-- how many of the paths name standard input
abbrev pub inputs_named : (paths : List (List ℕ)) → ℕ
inputs_named paths = count_by is_input paths

-- whether the options of a command have an answer file that is standard input
abbrev pub do_settings_read_input : Settings → Bool
do_settings_read_input settings = elim settings.expansion [ None ↦ false | Some expansion ↦ list_any is_input expansion.answers ]

-- whether the list of `tidy`, if there is one, is standard input
abbrev pub is_list_input : Option PathList → Bool
is_list_input None = false
is_list_input (Some list) = is_input list.path

-- whether the command `tidy` reads standard input
abbrev pub does_tidy_read_input : TidyJob → Bool
does_tidy_read_input t = do_settings_read_input t.settings || (list_any is_input t.files || is_list_input t.list)

-- whether what was parsed reads standard input: an answer file, a configuration file or the list of `tidy` is it
abbrev pub reads_input : ParsedWords → Bool
reads_input (Job job) = do_settings_read_input (settings_view job.settings) || list_any is_input (paths_of (task_view job.task))
reads_input (Save output_job) =
    do_settings_read_input (settings_view output_job.job.settings) || list_any is_input (paths_of (task_view output_job.job.task))
reads_input (TheQuestions questions) = list_any is_input (questions_view questions).expansion.answers
reads_input (Tidy tidy_job) = does_tidy_read_input (tidy_job_view tidy_job)
reads_input (Explain explain_job) = do_settings_read_input (settings_view explain_job.settings) || list_any is_input (explain_job_view explain_job).files
reads_input parsed = false

-- the message with which standard input that is named twice is refused
abbrev pub named_twice : List ℕ
named_twice = codes "stdin: NamedTwice\n"
