use Rattle.kmin_explain.proofs.Common.{◌≡◌, ℕ, List, map, drop, find, Bor, prefix_bytes, is_unknown}
use Rattle.kmin_explain.proofs.names.unknown_among.Given as goal

abbrev pub invariant-loop-name : goal.invariant-loop-name
invariant-loop-name l = find (is_unknown l.tree.tree (prefix_bytes l.prefix)) (map (λ (name : Bor (List ℕ)). name.now) (drop l.name-index l.names))
    ≡ find (is_unknown l.tree.tree (prefix_bytes l.prefix)) (map (λ (name : Bor (List ℕ)). name.now) l.names)
