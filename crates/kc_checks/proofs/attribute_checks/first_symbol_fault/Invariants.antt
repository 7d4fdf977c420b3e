use Rattle.kc_checks.proofs.Common.{◌≡◌, ℕ, List, drop, false, bytes_eq, contents_of, attribute_faults, modules_name, ModelGroup, RepresentsListing}
use Rattle.kc_checks.proofs.FaultKinds.{first_left}
use Rattle.kc_checks.proofs.attribute_checks.first_symbol_fault.Given as goal

abbrev pub invariant-loop-i : goal.invariant-loop-i
invariant-loop-i l =
    (read : List ModelGroup) (g : ModelGroup) (name : List ℕ) → RepresentsListing l.listing read
    → l.is_modules ≡ bytes_eq name modules_name → g.at.file ≡ l.file
    → first_left l.listing.names.arena g (attribute_faults (contents_of read) name l.kind) false l.lines
    ≡ first_left l.listing.names.arena g (attribute_faults (contents_of read) name l.kind) l.prompted (drop l.i l.lines)
