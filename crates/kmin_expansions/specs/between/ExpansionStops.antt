-- Ends of a run at the expansion of its tree.
use Rattle.std.specs.Prelude.{◌≡◌, ℕ, List, [], ◌∷◌, ◌++◌, Err, map}
use Rattle.kc_macros_model.specs.Programs.{Fault, Notice}
use Rattle.kc_macros_model.specs.AnswerFiles.{RecordedAnswers}
use Rattle.kc_files.specs.TreeContents.{TreeContents}
use Rattle.kc_expansion.specs.Expansions.{IsCountedExpansion}
use Rattle.kmin_report.specs.Reports.{ErrorLine, macro_fault_line, macro_notice_line}

-- an expansion of macros ended a run, with this status and these lines of standard error: it has a fault, reported after its
-- notices, of known files and folders as they are unless a failure was counted; or memory ran out
pub data StopsExpanding (contents : TreeContents) (counted counted_after : ℕ) (answers : RecordedAnswers) (first : List ℕ) (status : ℕ) (lines : List ErrorLine) : Type 0 where
  at_fault : (notices : List Notice) (fault : Fault) → IsCountedExpansion contents counted counted_after answers first notices (Err fault) → status ≡ 3
      → lines ≡ map macro_notice_line notices ++ macro_fault_line fault ∷ [] → StopsExpanding contents counted counted_after answers first status lines
  for_memory : status ≡ 6 → lines ≡ [] → StopsExpanding contents counted counted_after answers first status lines
