use Rattle.kc_dotconfig_model.proofs.FirstFaults.{refused}
use Rattle.kc_dotconfig_model.proofs.laws.faulty_files_are_refused.Goals as goal

pub returns : goal.returns
returns c = refused
