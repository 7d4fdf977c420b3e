-- Runs that end with the status of a failure had one.
use Rattle.kmin_outputs.proofs.Common.{◌≡◌, ℕ, Bool, List, Option, sym, ◌∙◌, arith, Tree, UnitValue, FileFormat, ChoiceLine, LoadKind, Malformed, NotUtf8, LineTooLong, TooManyLines, Read, OutOfMemory, TooLarge, ReportsFault, SpelledBytes, ReadFiles, StopsProducingOutput, StopsComparing, at_the_choices}
use Rattle.kmin_outputs.proofs.Common.{producing_output, at_left, at_right, comparing_output, StopsLoad, StopsNoticing, load_status, refused, for_memory}
use Rattle.kc_files.specs.TreeContents.{HasRisen}

kind_rises : (format : FileFormat) (tree : Tree) (before after : Option (List ℕ)) (failed failed_after : ℕ) (kind : LoadKind) (number : ℕ)
    → ReportsFault format tree before after failed failed_after kind number → load_status kind ≡ 5 → HasRisen failed failed_after
kind_rises format tree before after failed failed_after Read number h e = h.1
kind_rises format tree before after failed failed_after OutOfMemory number h e = absurd (omega arith)
kind_rises format tree before after failed failed_after Malformed number h e = absurd (omega arith)
kind_rises format tree before after failed failed_after NotUtf8 number h e = absurd (omega arith)
kind_rises format tree before after failed failed_after LineTooLong number h e = absurd (omega arith)
kind_rises format tree before after failed failed_after TooManyLines number h e = absurd (omega arith)
kind_rises format tree before after failed failed_after TooLarge number h e = absurd (omega arith)

-- a configuration file that ends a run with the status of a failed read had one
pub loading_rises : (format : FileFormat) (tree : Tree) (path : List ℕ) (left left_after : Option (List ℕ)) (read_failed read_failed_after status : ℕ)
    (taken taken_after : SpelledBytes) (failed failed_after : ℕ)
    → StopsLoad format tree path left left_after read_failed read_failed_after status taken failed taken_after failed_after → status ≡ 5
    → HasRisen read_failed read_failed_after
loading_rises format tree path left left_after read_failed read_failed_after status taken taken_after failed failed_after s e =
    kind_rises format tree left left_after read_failed read_failed_after s.kind s.number s.fault (sym s.status_is ∙ e)

-- notices on choices end no run with the status of a failure
pub noticing_unfailed : (tree : Tree) (values : List UnitValue) (strict : Bool) (paths : List (List ℕ)) (chosen : List (List ChoiceLine)) (status : ℕ)
    (taken taken_after : SpelledBytes) (failed failed_after : ℕ)
    → StopsNoticing tree values strict paths chosen status taken failed taken_after failed_after → status ≡ 5 → ⊥
noticing_unfailed tree values strict paths chosen status taken taken_after failed failed_after (refused r s t) e = omega arith
noticing_unfailed tree values strict paths chosen status taken taken_after failed failed_after (for_memory s t) e = omega arith

-- nor does a verb over a configuration after its files were read
pub producing_unfailed : (strict : Bool) (paths : List (List ℕ)) (read : ReadFiles) (status : ℕ) (taken taken_after : SpelledBytes)
    (failed failed_after : ℕ) → StopsProducingOutput strict paths read status taken failed taken_after failed_after → status ≡ 5 → ⊥
producing_unfailed strict paths read status taken taken_after failed failed_after (at_the_choices h) e =
    noticing_unfailed _ _ _ _ _ status taken taken_after failed failed_after h e
producing_unfailed strict paths read status taken taken_after failed failed_after (producing_output h s) e = omega arith

-- nor does a comparison after both files were read
pub comparing_unfailed : (strict : Bool) (left right : List ℕ) (before after : ReadFiles) (status : ℕ) (taken taken_after : SpelledBytes)
    (failed failed_after : ℕ) → StopsComparing strict left right before after status taken failed taken_after failed_after → status ≡ 5 → ⊥
comparing_unfailed strict left right before after status taken taken_after failed failed_after (at_left h) e =
    noticing_unfailed _ _ _ _ _ status taken taken_after failed failed_after h e
comparing_unfailed strict left right before after status taken taken_after failed failed_after (at_right between failed_between n h) e =
    noticing_unfailed _ _ _ _ _ status between taken_after failed_between failed_after h e
comparing_unfailed strict left right before after status taken taken_after failed failed_after (comparing_output h s) e = omega arith
