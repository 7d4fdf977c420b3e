use Rattle.kc_config.proofs.Common.{◌≡◌, ◌++◌, take, changes_of, merged_assigns}
use Rattle.kc_config.proofs.merged_values.push_merged.Given as goal

abbrev pub invariant-loop-unit : goal.invariant-loop-unit
invariant-loop-unit l = l.changes.items ≡ l.fn.changes.items ++ changes_of (merged_assigns l.fn.users (take l.unit-index l.fn.assigns))
