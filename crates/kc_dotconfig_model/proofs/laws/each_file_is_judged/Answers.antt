use Rattle.kc_dotconfig_model.proofs.JudgedFiles.{judged, cut_judged}
use Rattle.kc_dotconfig_model.proofs.laws.each_file_is_judged.Goals as goal

pub returns : goal.returns
returns c = record { whole = judged; cut = cut_judged }
