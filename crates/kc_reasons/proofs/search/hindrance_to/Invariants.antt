use Rattle.std.proofs.Common.{◌≡◌, find, drop}
use Rattle.kc_reasons_model.specs.Hindrances.{hinders}
use Rattle.kc_reasons.proofs.search.hindrance_to.Given as goal

abbrev pub invariant-loop-hindrance : goal.invariant-loop-hindrance
invariant-loop-hindrance l =
    find (λ h. hinders h l.rules.profile l.rules.tree.tree l.u l.s l.user l.values) (drop l.hindrance-index l.order)
    ≡ find (λ h. hinders h l.rules.profile l.rules.tree.tree l.u l.s l.user l.values) l.order
