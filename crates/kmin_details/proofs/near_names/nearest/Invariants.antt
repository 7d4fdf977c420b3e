use Rattle.std.proofs.Common.{ℕ, List, take, map, option_map}
use Rattle.std.specs.Borrow.{Bor}
use Rattle.kmin_details.proofs.NearSteps.{IsNearestOf}
use Rattle.kmin_details.proofs.near_names.nearest.Given as goal

abbrev pub invariant-loop-name : goal.invariant-loop-name
invariant-loop-name l =
    IsNearestOf l.word (map (λ (name : Bor (List ℕ)). name.now) (take l.name-index l.names)) (option_map (λ (name : Bor (List ℕ)). name.now) l.found) l.fewest
