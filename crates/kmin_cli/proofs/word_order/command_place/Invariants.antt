use Rattle.std.proofs.Common.{◌≡◌, ℕ, ◌+◌, false, List, drop, map, option_map}
use Rattle.std.specs.Borrow.{Bor}
use Rattle.kmin_cli.specs.WordOrder.{command_place}
use Rattle.kmin_cli.proofs.word_order.command_place.Given as goal

-- only options are before this word, which is the value of one if `is_value`
abbrev pub invariant-loop-place : goal.invariant-loop-place
invariant-loop-place l =
    command_place false (map (λ (word : Bor (List ℕ)). word.now) l.words)
    ≡ option_map (λ n. l.place + n) (command_place l.is_value (map (λ (word : Bor (List ℕ)). word.now) (drop l.place l.words)))
