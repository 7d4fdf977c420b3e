use Rattle.std.proofs.Common.{◌≡◌, ℕ, ◌≤◌, List, take}
use Rattle.std.specs.Prelude.{count_by}
use Rattle.std.specs.Borrow.{Bor}
use Rattle.kmin_cli.specs.Inputs.{is_input}
use Rattle.kmin_cli.proofs.input_words.inputs_named.Given as goal

-- `count` is the number of paths before this one that name standard input
abbrev pub invariant-loop-path : goal.invariant-loop-path
invariant-loop-path l = record {
  counted : l.count ≡ count_by (λ (path : Bor (List ℕ)). is_input path.now) (take l.path-index l.paths);
  few : l.count ≤ l.path-index;
}
