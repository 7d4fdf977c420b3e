use Rattle.kmin_missed.proofs.Common.{◌≡◌, List, range_with_len, flat_map, Group, LineMeaning, missed_rows_at, AreSourcesOf, sources_model}
use Rattle.kmin_missed.proofs.missed_lines.lines_of_missed.Given as goal

abbrev pub invariant-loop-s : goal.invariant-loop-s
invariant-loop-s l = (read : List Group) (meanings : List (List LineMeaning)) → AreSourcesOf l.by read meanings
    → l.text.items ≡ flat_map (missed_rows_at (sources_model l.by read meanings)) (range_with_len 0 l.s)
