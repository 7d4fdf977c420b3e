use Rattle.kmin_explain.proofs.Common.{◌≡◌, List, drop, list_any, Group, LineMeaning, is_hindered_at, AreSourcesOf, sources_model}
use Rattle.kmin_explain.specs.Explanations.{is_one_hindered}
use Rattle.kmin_explain.proofs.explanations.is_one_hindered.Given as goal

abbrev pub invariant-loop-s : goal.invariant-loop-s
invariant-loop-s l = (read : List Group) (meanings : List (List LineMeaning)) → AreSourcesOf l.by read meanings
    → list_any (is_hindered_at (sources_model l.by read meanings)) (drop l.s-index l.symbols) ≡ is_one_hindered (sources_model l.by read meanings) l.symbols
