use Rattle.kmin_missed.proofs.Common.{◌≡◌, ◌++◌, List, drop, flat_map, Group, LineMeaning, Overridden, overridden_view, sources_model}
use Rattle.kmin_missed.specs.MissedLines.{overridden_row}
use Rattle.kmin_missed.proofs.missed_lines.push_overridden_rows.Given as goal

abbrev pub invariant-loop-one : goal.invariant-loop-one
invariant-loop-one l = (read : List Group) (meanings : List (List LineMeaning))
    → l.out.items ++ flat_map (λ (o : Overridden). overridden_row (sources_model l.by read meanings) l.symbol.s l.symbol.kind (overridden_view o)) (drop l.one-index l.found)
    ≡ l.fn.out.items ++ flat_map (λ (o : Overridden). overridden_row (sources_model l.by read meanings) l.symbol.s l.symbol.kind (overridden_view o)) l.found
