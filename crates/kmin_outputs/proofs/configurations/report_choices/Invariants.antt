use Rattle.kmin_outputs.proofs.Common.{ℕ, List, map, take, Bor, choice_notice_lines, TakesLines}
use Rattle.kmin_outputs.proofs.configurations.report_choices.Given as goal

abbrev pub invariant-loop-place : goal.invariant-loop-place
invariant-loop-place g l =
    TakesLines (g.E.Messages.taken l.fn.err) (g.E.Messages.failures l.fn.err)
    (choice_notice_lines (map (λ (path : Bor (List ℕ)). path.now) l.paths) (take l.place-index l.places))
    (g.E.Messages.taken l.err) (g.E.Messages.failures l.err)
