use Rattle.kc_files.specs.checker.EndMatches.{AreSpread}
use Rattle.kc_files.proofs.name_matches.pass_any_bytes.Given as goal

abbrev pub invariant-loop-at : goal.invariant-loop-at
invariant-loop-at l = AreSpread l.initial.ends l.ends l.at l.some

abbrev pub decreases-loop-at : goal.decreases-loop-at
decreases-loop-at l = l.at
