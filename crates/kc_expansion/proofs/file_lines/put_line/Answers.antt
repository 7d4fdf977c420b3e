use Rattle.kc_expansion.proofs.StepResultLemmas.{to_out}
use Rattle.kc_expansion.proofs.FileLineLemmas.{changes_here}
use Rattle.kc_expansion.proofs.file_lines.put_line.Goals as goal

pub returns-in_err-write_over : goal.returns-in_err-write_over
returns-in_err-write_over c = λ a b sub file s t r. to_out a b _ _ _ r.same r.grows c.from_residual.ensures.1

pub returns : goal.returns
returns c = λ a b sub file s t r.
    let done = c.in_ok-write_over.ensures in
    changes_here sub file c.requires.line s c.requires.written t c.deref.ensures.value c.deref-2.ensures.value c.after_help.ensures.passed
    done.original done.copied done.text r
