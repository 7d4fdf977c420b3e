use Rattle.kmin_run.proofs.Common.{◌≡◌, ℕ, Vec, take, flat_map, Global, question_line}
use Rattle.kmin_run.proofs.wants_command.question_lines.Given as goal

abbrev pub invariant-loop-question : goal.invariant-loop-question
invariant-loop-question l = l.text.items ≡ flat_map (λ (q : Vec ℕ Global). question_line q.items) (take l.question-index l.asked)
