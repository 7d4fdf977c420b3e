-- Configuration files that aren't accepted: what ends a run there.
use Rattle.kmin_explain_command.proofs.Common.{◌≡◌, ℕ, Bool, List, [], refl, sym, subst, arith, Tree, FileFormat, FileContent, ErrorLine, SpelledBytes, TakesLines, StopsAmongFiles, StopsAtPath, load_lines}
use Rattle.kc_dotconfig_model.specs.LoadFaults.{IsFirstFault, complete, OccursAt}
use Rattle.kc_dotconfig_model.specs.declared.fault.LoadKind.{LoadKind}
use Rattle.kc_dotconfig_model.specs.declared.fault.LoadKind.TheVariants.{Malformed, NotUtf8, LineTooLong, TooManyLines, Read, OutOfMemory, TooLarge}
use Rattle.kmin_report.specs.StandardError as taking
use Rattle.kmin_outputs.specs.Outputs as outputs
use Rattle.kmin_outputs.specs.Stops as stops
use Rattle.kmin_outputs.specs.between.LoadStops.{at_file, for_memory, load_status}
use Rattle.kmin_outputs.proofs.LoadLines.{load_lines_one, load_status_4}
use Rattle.kmin_tidy.specs.checker.Readings.{IsFaulty}
use Rattle.kmin_tidy.specs.checker.Readings as readings

-- a fault of the bytes isn't lack of memory
has_memory : (format : FileFormat) (tree : Tree) (bytes : List ℕ) (kind : LoadKind) (number : ℕ) → IsFirstFault format tree complete bytes kind number
    → kind ≡ OutOfMemory → ⊥
has_memory format tree bytes kind number f e = subst (λ (k : LoadKind). OccursAt format tree bytes k f.byte number) e f.comes

-- a configuration file that isn't accepted ends a run, with the status and the line of its fault
pub faulty_stops : (content : FileContent) (format : FileFormat) (strict : Bool) (tree : Tree) (path : List ℕ) (kind : LoadKind) (number : ℕ)
    → IsFaulty format tree content kind number → StopsAtPath content format strict tree path (load_status kind) (load_lines path number kind)
faulty_stops content format strict tree path kind number (readings.refused bytes known other f) =
    let memory = has_memory format tree bytes kind number f in
    at_file (stops.refused bytes kind number known f (sym (load_status_4 kind memory other)) (load_lines_one path number kind memory))
faulty_stops content format strict tree path kind number (readings.unread front rest known f e) =
    rw e (at_file (stops.unread front rest number known f refl refl))
faulty_stops content format strict tree path kind number (readings.unopened opens e zero) = rw (e, zero) (at_file (stops.unopened opens refl refl))
faulty_stops content format strict tree path kind number (readings.for_memory e) = rw e (for_memory refl refl)

-- of the kinds of faults a failed read has the status of a failure
pub is_unread : (kind : LoadKind) → load_status kind ≡ 5 → kind ≡ Read
is_unread Read five = refl
is_unread OutOfMemory five = absurd (omega arith)
is_unread Malformed five = absurd (omega arith)
is_unread NotUtf8 five = absurd (omega arith)
is_unread LineTooLong five = absurd (omega arith)
is_unread TooManyLines five = absurd (omega arith)
is_unread TooLarge five = absurd (omega arith)

-- memory ran out before the first file
pub stopped_none : (content_of : List ℕ → FileContent) (format : FileFormat) (strict : Bool) (tree : Tree) (paths : List (List ℕ)) (status : ℕ)
    (taken : SpelledBytes) (failed : ℕ) → status ≡ 6
    → (lines : List ErrorLine) × StopsAmongFiles content_of format strict tree paths status lines × TakesLines taken failed lines taken failed
stopped_none content_of format strict tree paths status taken failed six =
    ([], stops.for_memory [] paths [] refl outputs.none six refl, taking.none)
