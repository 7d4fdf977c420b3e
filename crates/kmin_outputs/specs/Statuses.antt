-- The exit status of commands that list something: 1 if `compare` or `wants` lists anything, and if `missed` or `check` does with
-- `--exit-code`. `min` and `full` list nothing. The status of `tidy` is `status_of` of kmin_tidy.
use Rattle.std.specs.Prelude.{ℕ, Bool, true, false, List, [], ◌∷◌, Option}
use Rattle.kc_tree_model.specs.Trees.{Tree}
use Rattle.kc_rules_model.specs.Reports.{unmet}
use Rattle.kc_rules_model.specs.declared.values.UnitValue.{UnitValue}
use Rattle.kc_rules_model.specs.declared.values.UserValue.{UserValue}
use Rattle.kc_dotconfig_model.specs.MissedAssignments.{missed}
use Rattle.kmin_options.specs.declared.job.Verb.{Verb}
use Rattle.kmin_options.specs.declared.job.Verb.TheVariants.{Min, Full, Missed, Check}

-- the exit status of a command that lists something: 1 if it is to report that by its status and anything is listed, 0 if not
abbrev pub status_of_list : {A : Type 0} → (exit_code : Bool) → (listed : List A) → ℕ
status_of_list false listed = 0
status_of_list true [] = 0
status_of_list true (x ∷ xs) = 1

-- the exit status of a verb for a tree, an assignment and its values: that of the symbols that `missed` or `check` lists
abbrev pub status_of_verb : Tree → List (Option UserValue) → List UnitValue → Verb → ℕ
status_of_verb tree users values Min = 0
status_of_verb tree users values Full = 0
status_of_verb tree users values (Missed exit_code) = status_of_list exit_code (missed tree users values)
status_of_verb tree users values (Check exit_code) = status_of_list exit_code (unmet tree values)
