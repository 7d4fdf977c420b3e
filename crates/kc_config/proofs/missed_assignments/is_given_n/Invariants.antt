use Rattle.std.proofs.Common.{◌≡◌, false, take}
use Rattle.kc_dotconfig_model.specs.MissedAssignments.{is_given_n}
use Rattle.kc_config.proofs.missed_assignments.is_given_n.Given as goal

abbrev pub invariant-loop-line : goal.invariant-loop-line
invariant-loop-line l = is_given_n (take l.line-index l.lines) l.s ≡ false
