use Rattle.kmin_tidy.proofs.FileLemmas.{kind_not_special}
use Rattle.kmin_tidy.proofs.file_step.is_not_regular.Goals as goal

pub returns-in_default-clause-other : goal.returns-in_default-clause-other
returns-in_default-clause-other g c = λ _. kind_not_special _ _ c.kind.ensures c.in_default.not-NotRegular
