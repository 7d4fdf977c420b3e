use Rattle.kmin_explain.proofs.Common.{◌≡◌, ◌++◌, List, drop, flat_map, Group, LineMeaning, explained_at, explained_in, AreSourcesOf, sources_model}
use Rattle.kmin_explain.proofs.explanations.explanation_of.Given as goal

abbrev pub invariant-loop-s : goal.invariant-loop-s
invariant-loop-s l = (read : List Group) (meanings : List (List LineMeaning)) → AreSourcesOf l.by read meanings
    → l.text.items ++ flat_map (explained_at (sources_model l.by read meanings) l.all) (drop l.s-index l.symbols) ≡ explained_in (sources_model l.by read meanings) l.all l.symbols
