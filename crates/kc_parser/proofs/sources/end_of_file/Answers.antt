use Rattle.kc_parser.proofs.Common.{sym, ◌∙◌, ap, innermost, block_kept}
use Rattle.kc_parser.specs.checker.StateViews.{Describes, file_source_of}
use Rattle.kc_parser.proofs.OpenBlockSteps.{innermost_is, ended_none, ended_some}
use Rattle.kc_parser.proofs.sources.end_of_file.Goals as goal

pub returns-in-Some : goal.returns-in-Some
unfolding Describes
returns-in-Some c = λ before d.
    rw c.at_line.ensures (ended_some c.args.file before (block_kept c.args.read.now.stack.items) (innermost before) c.in-Some.field-0-0 c.in-Some.line
    (innermost_is (file_source_of c.args.from) _ _ _ _ _ before d.counted)
    (ap block_kept (sym c.deref.ensures.value) ∙ sym c.innermost.ensures ∙ c.in-Some.is))

pub returns-in-None : goal.returns-in-None
unfolding Describes
returns-in-None c = λ before d.
    ended_none c.args.file before (block_kept c.args.read.now.stack.items) (innermost before)
    (innermost_is (file_source_of c.args.from) _ _ _ _ _ before d.counted)
    (ap block_kept (sym c.deref.ensures.value) ∙ sym c.innermost.ensures ∙ c.in-None.is)
