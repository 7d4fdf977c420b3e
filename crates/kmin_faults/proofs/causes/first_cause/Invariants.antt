use Rattle.kmin_faults.proofs.Common.{◌≡◌, drop, find}
use Rattle.kmin_faults.proofs.causes.first_cause.Given as goal

abbrev pub invariant-loop-cause : goal.invariant-loop-cause
invariant-loop-cause g l =
    find (λ one. g.D.Dependent.depends one l.search.tree.now l.dependent l.search.unit) (drop l.cause-index l.causes)
    ≡ find (λ one. g.D.Dependent.depends one l.search.tree.now l.dependent l.search.unit) l.causes
