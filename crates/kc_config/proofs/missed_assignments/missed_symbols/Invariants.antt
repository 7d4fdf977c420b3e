use Rattle.std.proofs.Common.{◌≡◌, filter}
use Rattle.std.specs.List.{range_with_len}
use Rattle.kc_dotconfig_model.specs.MissedAssignments.{is_missed}
use Rattle.kc_config.proofs.missed_assignments.missed_symbols.Given as goal

-- the missed symbols with numbers below the current one are found
abbrev pub invariant-loop-number : goal.invariant-loop-number
invariant-loop-number l = l.found.items ≡ filter (is_missed l.fn.tree.tree l.fn.users l.fn.values) (range_with_len 0 l.number)
