use Rattle.kmin_missed.proofs.Common.{◌≡◌, ◌++◌, List, drop, flat_map, Group, LineMeaning, unmet_row_at, AreSourcesOf, sources_model}
use Rattle.kmin_missed.proofs.unmet_lines.lines_of_unmet.Given as goal

abbrev pub invariant-loop-s : goal.invariant-loop-s
invariant-loop-s l = (read : List Group) (meanings : List (List LineMeaning)) → AreSourcesOf l.by read meanings
    → l.text.items ++ flat_map (unmet_row_at (sources_model l.by read meanings)) (drop l.s-index l.symbols) ≡ flat_map (unmet_row_at (sources_model l.by read meanings)) l.symbols
