use Rattle.kc_macros_model.proofs.BoundedReadings.{counts_are_bounded, tree_counts_are_bounded, files_are_bounded, work_is_bounded}
use Rattle.kc_macros_model.proofs.laws.readings_are_bounded.Goals as goal

pub returns : goal.returns
returns c = record { sources = counts_are_bounded; trees = tree_counts_are_bounded; files = files_are_bounded; work = work_is_bounded }
