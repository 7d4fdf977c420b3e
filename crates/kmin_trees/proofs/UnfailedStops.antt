-- Ends of a run that don't have the status of a failure.
use Rattle.kmin_trees.proofs.Common.{◌≡◌, ℕ, List, arith, Files, RecordedAnswers, ErrorLine, StopsAtTexts, at_texts, for_memory, StopsExpanding}
use Rattle.kc_files.specs.TreeContents.{TreeContents}
use Rattle.kmin_expansions.specs.between.ExpansionStops as expanding

-- texts that end a run don't end it with the status of a failure
pub texts_unfailed : (texts names : Files) (first : List ℕ) (status : ℕ) (lines : List ErrorLine) → StopsAtTexts texts names first status lines
    → status ≡ 5 → ⊥
texts_unfailed texts names first status lines (at_texts line r s l) e = omega arith
texts_unfailed texts names first status lines (for_memory s l) e = omega arith

-- nor does an expansion of macros
pub expanding_unfailed : (contents : TreeContents) (counted counted_after : ℕ) (answers : RecordedAnswers) (first : List ℕ) (status : ℕ)
    (lines : List ErrorLine)
    → StopsExpanding contents counted counted_after answers first status lines → status ≡ 5 → ⊥
expanding_unfailed contents counted counted_after answers first status lines (expanding.at_fault notices fault i s l) e = omega arith
expanding_unfailed contents counted counted_after answers first status lines (expanding.for_memory s l) e = omega arith
