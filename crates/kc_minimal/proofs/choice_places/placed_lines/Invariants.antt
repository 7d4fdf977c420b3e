use Rattle.kc_minimal.proofs.Common.{◌≡◌, map, take, Vec, ChoiceLine, placed_from}
use Rattle.kc_minimal.proofs.choice_places.placed_lines.Given as goal

abbrev pub invariant-loop-file : goal.invariant-loop-file
invariant-loop-file l = l.lines.items ≡ placed_from 0 (map (λ (f : Vec ChoiceLine). f.items) (take l.file l.files))
