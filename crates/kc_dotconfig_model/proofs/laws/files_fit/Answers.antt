use Rattle.kc_dotconfig_model.proofs.FittingFiles.{file_fits}
use Rattle.kc_dotconfig_model.proofs.laws.files_fit.Goals as goal

pub returns : goal.returns
returns c = file_fits
