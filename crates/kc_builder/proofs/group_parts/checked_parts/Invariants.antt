use Rattle.kc_builder.proofs.Common.{List, Group, IsWalkOf}
use Rattle.kc_checks.specs.between.FaultSearch.{AreFaultless}
use Rattle.kc_builder.proofs.GroupPartSteps.{ArePartsTo}
use Rattle.kc_builder.proofs.group_parts.checked_parts.Given as goal

abbrev pub invariant-loop-i : goal.invariant-loop-i
invariant-loop-i l = record {
  before : AreFaultless l.walked.language l.walked.listing l.i l.checks;
  parts : (read : List Group) (w : IsWalkOf l.walked.language l.walked.listing l.walked.groups.items l.walked.conditions.items read)
      → ArePartsTo l.walked.language l.walked.listing l.walked.groups.items l.walked.conditions.items read w l.i l.checks.choices l.parts;
}
