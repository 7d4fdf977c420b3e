use Rattle.std.proofs.Common.{◌≡◌, ℕ, ◌≤◌, List, codes, take}
use Rattle.std.specs.Prelude.{bytes_eq, count_by}
use Rattle.std.specs.Borrow.{Bor}
use Rattle.kmin_options.proofs.expansion_words.inputs_among.Given as goal

-- `count` is the number of paths before this one that are `/dev/stdin`
abbrev pub invariant-loop-path : goal.invariant-loop-path
invariant-loop-path l = record {
  counted : l.count ≡ count_by (λ (path : Bor (List ℕ)). bytes_eq path.now (codes "/dev/stdin")) (take l.path-index l.paths);
  few : l.count ≤ l.path-index;
}
