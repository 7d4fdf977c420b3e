use Rattle.std.proofs.Common.{◌≡◌, ℕ, List, drop, map}
use Rattle.std.specs.Borrow.{Bor}
use Rattle.kmin_cli.specs.Names.{first_near}
use Rattle.kmin_cli.proofs.names.first_near.Given as goal

-- no name before this one is at most `most` edits from the word
abbrev pub invariant-loop-name : goal.invariant-loop-name
invariant-loop-name l =
    first_near l.word l.most (map (λ (name : Bor (List ℕ)). name.now) l.names)
    ≡ first_near l.word l.most (map (λ (name : Bor (List ℕ)). name.now) (drop l.name-index l.names))
