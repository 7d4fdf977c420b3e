use Rattle.kc_config.proofs.Common.{◌≡◌, ℕ, take, nat_cmp, is_listed}
use Rattle.std.specs.BTreeSet.{contains}
use Rattle.kc_config.proofs.merged_values.listed_members.Given as goal

abbrev pub invariant-loop-line : goal.invariant-loop-line
invariant-loop-line l = (s : ℕ) → contains nat_cmp l.members s ≡ is_listed (take l.line-index l.lines) s
