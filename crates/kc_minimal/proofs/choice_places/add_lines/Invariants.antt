use Rattle.kc_minimal.proofs.Common.{◌≡◌, ◌++◌, map, take, ChoiceLine}
use Rattle.kc_minimal.proofs.choice_places.add_lines.Given as goal

abbrev pub invariant-loop-line : goal.invariant-loop-line
invariant-loop-line l = l.all.items ≡ l.fn.all.items ++ map (λ (k : ChoiceLine). (l.file, k)) (take l.line-index l.lines)
