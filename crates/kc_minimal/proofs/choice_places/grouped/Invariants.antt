use Rattle.kc_minimal.proofs.Common.{◌≡◌, ℕ, take, lines_of, lines_at}
use Rattle.kc_minimal.proofs.choice_places.grouped.Given as goal

abbrev pub invariant-loop-line : goal.invariant-loop-line
invariant-loop-line l = (u : ℕ) → lines_at l.groups.entries u ≡ lines_of u (take l.line-index l.lines)
