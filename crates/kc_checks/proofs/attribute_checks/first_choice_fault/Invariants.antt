use Rattle.kc_checks.proofs.Common.{◌≡◌, ℕ, List, drop, false, names_defined, choice_faults, AreMarked, ModelGroup, RepresentsListing}
use Rattle.kc_checks.proofs.FaultKinds.{first_left}
use Rattle.kc_checks.proofs.attribute_checks.first_choice_fault.Given as goal

abbrev pub invariant-loop-i : goal.invariant-loop-i
invariant-loop-i l =
    (read : List ModelGroup) (g : ModelGroup) (members : List (List ℕ)) → RepresentsListing l.listing read
    → AreMarked (names_defined read) members l.marks l.mark
    → g.at.file ≡ l.file
    → first_left l.listing.names.arena g (choice_faults members) false l.lines ≡ first_left l.listing.names.arena g (choice_faults members) l.prompted
    (drop l.i l.lines)
