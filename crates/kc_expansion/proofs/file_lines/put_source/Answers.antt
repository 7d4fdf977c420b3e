use Rattle.kc_expansion.proofs.FileProgramLemmas.{reads_on}
use Rattle.kc_expansion.proofs.StepResultLemmas.{to_stopped}
use Rattle.kc_expansion.proofs.FileLineLemmas.{line_halted}
use Rattle.kc_expansion.proofs.file_lines.put_source.Goals as goal

pub returns-in_err-new : goal.returns-in_err-new
returns-in_err-new c = λ a b sub file s t l.
    to_stopped _ c.in_err-new.field-0.0 _ c.from_residual.ensures.1
    (line_halted sub file c.requires.line s c.requires.written c.in_err-new.field-0.0
    (reads_on l (c.in_err-new.ensures b t)))

pub returns : goal.returns
returns c = λ a b sub file s t l. c.put_line.ensures a b sub file s t (reads_on l (c.in_ok-new.ensures b t))
