-- The count of a meter.
use Rattle.std.specs.Prelude.{ℕ}
use Rattle.kc_rules.specs.declared.steps.Steps.{Steps}

-- the number of evaluations of rules that a meter has counted, at most 2^64 - 1
abbrev pub counted : Steps → ℕ
counted steps = steps.count
