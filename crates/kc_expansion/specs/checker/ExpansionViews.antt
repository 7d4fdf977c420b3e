-- The start and the end of a reading of a tree.
use Rattle.std.specs.Prelude.{ℕ, List, [], ◌∷◌, ◌++◌, Result, Ok, Err}
use Rattle.kc_macros.specs.declared.stop.Stop.{Stop}
use Rattle.kc_macros.specs.declared.stop.Stop.TheVariants as kinds
use Rattle.kc_macros_model.specs.ReadingStates.{ExpandedFile}
use Rattle.kc_files.specs.between.KnownFiles.{KnownFiles}

-- the files and folders that were read before a reading begins: none
abbrev pub nothing_known : KnownFiles
nothing_known = record { files = []; folders = [] }

-- the expanded files that were sourced, and after them the first file of the tree
abbrev pub with_root : (root text : List ℕ) → List ExpandedFile → List ExpandedFile
with_root root text files = files ++ record { key = root; path = root; text = text } ∷ []

-- a reading of a tree came to an end by a value, a fault or a question without an answer: memory didn't run out
abbrev pub HasEnded : {A : Type 0} → Result A Stop → Type 0
HasEnded (Ok x) = Unit {0}
HasEnded (Err kinds.OutOfMemory) = ⊥
HasEnded (Err stop) = Unit {0}

-- a reading of a tree wasn't stopped by a question without an answer
abbrev pub GoesOn : {A : Type 0} → Result A Stop → Type 0
GoesOn (Ok x) = Unit {0}
GoesOn (Err kinds.Unanswered) = ⊥
GoesOn (Err stop) = Unit {0}
