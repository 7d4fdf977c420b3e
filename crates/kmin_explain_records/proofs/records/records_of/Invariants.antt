use Rattle.std.proofs.Common.{drop}
use Rattle.kmin_explain_records.proofs.Common.{◌≡◌, ◌++◌, List, flat_map, Group, LineMeaning, explained_as_json_at, records_in, AreSourcesOf, sources_model}
use Rattle.kmin_explain_records.proofs.records.records_of.Given as goal

abbrev pub invariant-loop-s : goal.invariant-loop-s
invariant-loop-s l = (read : List Group) (meanings : List (List LineMeaning)) → AreSourcesOf l.by read meanings
    → l.text.items ++ flat_map (explained_as_json_at (sources_model l.by read meanings) l.all) (drop l.s-index l.symbols) ≡ records_in (sources_model l.by read meanings) l.all l.symbols
