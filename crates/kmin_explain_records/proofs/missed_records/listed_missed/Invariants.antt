use Rattle.kmin_explain_records.proofs.Common.{◌≡◌, ◌<◌, List, All, length, filter, range_with_len, Group, LineMeaning, tree_in, AreSourcesOf, config_of, sources_model, is_listed}
use Rattle.kmin_explain_records.proofs.missed_records.listed_missed.Given as goal

abbrev pub invariant-loop-s : goal.invariant-loop-s
invariant-loop-s l = ((read : List Group) (meanings : List (List LineMeaning)) → AreSourcesOf l.by read meanings
    → l.listed.items ≡ filter (is_listed (sources_model l.by read meanings) l.symbols) (range_with_len 0 l.s))
    × All (λ t. t < length (tree_in (config_of l.by)).symbols) l.listed.items
