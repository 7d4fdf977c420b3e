use Rattle.kc_dotconfig_model.proofs.MergedUsers.{file_over}
use Rattle.kc_dotconfig_model.proofs.laws.files_are_merged_with_assignments.Goals as goal

pub returns : goal.returns
returns c = file_over
