-- The expansion of a tree, and the questions that it asks, in a world of known files.
use Rattle.std.specs.Prelude.{◌≡◌, ◌≢◌, ℕ, false, List, Vec, Option, Some, None, Result, Ok, Err}
use Rattle.std.specs.declared.alloc.Global.{Global}
use Rattle.kc_value.specs.FileContents.{FileContent, unknown, absent, known}
use Rattle.kc_tree_model.specs.Keywords.{keyword_in_table}
use Rattle.kc_macros_model.specs.AnswerFiles.{RecordedAnswers}
use Rattle.kc_macros_model.specs.Programs.{Fault, Notice}
use Rattle.kc_macros_model.specs.ReadingStates.{ExpandedFile}
use Rattle.kc_macros_model.specs.Worlds.{World, Ending, returned, failed, expansion, wanted, unused}
use Rattle.kc_macros.specs.declared.stop.MacroFault.{MacroFault}
use Rattle.kc_macros.specs.Runs.{HasAnswers, fault_of}
use Rattle.kc_files.specs.TextViews.{texts_of}
use Rattle.kc_files.specs.TreeContents.{TreeContents, HasRisen, IsWorldOf, IsWholeWorldOf}

-- what an expansion by the code ends with: the expanded files, or the fault as one of `kc_macros_model`
abbrev pub tree_of : Result (List ExpandedFile) MacroFault → Result (List ExpandedFile) Fault
tree_of (Ok files) = Ok files
tree_of (Err fault) = Err (fault_of fault)

-- what the code's `wants` and `unused` return: questions as texts, or the fault as one of `kc_macros_model`
abbrev pub questions_of : Result (Vec (Vec ℕ Global) Global) MacroFault → Result (List (List ℕ)) Fault
questions_of (Ok questions) = Ok (texts_of questions)
questions_of (Err fault) = Err (fault_of fault)

-- the end of an expansion that returns these expanded files or fails by this fault
abbrev pub ending_of : Result (List ExpandedFile) Fault → Ending (List ExpandedFile)
ending_of (Ok files) = returned files
ending_of (Err fault) = failed fault

-- the bytes that a file is known to have: none where there is no such file, or nothing is known of it
abbrev pub known_bytes : FileContent → Option (List ℕ)
known_bytes unknown = None
known_bytes absent = None
known_bytes (known bytes) = Some bytes

-- the world in which each file and each folder of a tree is as it is known, and that has just these answers
abbrev pub known_world : TreeContents → RecordedAnswers → World
known_world contents answers =
    record { answer = keyword_in_table answers; bytes = λ path. known_bytes (contents.file path); unreadable = λ path. false; names = contents.folder }

-- the expansion of the tree with the first file `root` has these notices, and returns these expanded files or fails by this
-- fault, in some `World` whose files and folders agree with `contents`, and that has just these answers
pub record IsExpansion (contents : TreeContents) (answers : RecordedAnswers) (root : List ℕ) (notices : List Notice) (tree : Result (List ExpandedFile) Fault) : Type 0 where
  pub world : World
  pub of_contents : IsWorldOf contents world
  pub answered : HasAnswers world answers
  pub has_notices : (expansion world root).notices ≡ notices
  pub ends_so : (expansion world root).ending ≡ ending_of tree

-- the tree with the first file `root` asks these questions without an answer, or asks none and has this fault, in some `World`
-- whose files and folders agree with `contents`, and that has just these answers
pub record AreWanted (contents : TreeContents) (answers : RecordedAnswers) (root : List ℕ) (questions : Result (List (List ℕ)) Fault) : Type 0 where
  pub world : World
  pub of_contents : IsWorldOf contents world
  pub answered : HasAnswers world answers
  pub are_wanted : wanted world root ≡ questions

-- what is unused of the questions `answered` by the tree with the first file `root`, or else its open questions or its fault, in
-- some `World` whose files and folders agree with `contents`, and that has just these answers
pub record AreUnused (contents : TreeContents) (answers : RecordedAnswers) (root : List ℕ) (answered : List (List ℕ)) (questions : Result (List (List ℕ)) Fault) : Type 0 where
  pub world : World
  pub of_contents : IsWorldOf contents world
  pub answered_so : HasAnswers world answers
  pub are_unused : unused world root answered ≡ questions

-- Where a count of failures went from `counted` to `counted_after` and didn't rise, each known file and folder is as it is known in a world.
abbrev pub IsWholeUnlessFailed : TreeContents → (counted counted_after : ℕ) → World → Type 0
IsWholeUnlessFailed contents counted counted_after w = (HasRisen counted counted_after → ⊥) → IsWholeWorldOf contents w

-- an expansion, questions that are wanted and answers that are unused, each in a world in which known files and folders are as they are
-- known unless a failure was counted
abbrev pub IsCountedExpansion : TreeContents → (counted counted_after : ℕ) → RecordedAnswers → (root : List ℕ) → List Notice → Result (List ExpandedFile) Fault → Type 0
IsCountedExpansion contents counted counted_after answers root notices tree =
    (e : IsExpansion contents answers root notices tree) × IsWholeUnlessFailed contents counted counted_after e.world

abbrev pub AreCountedWanted : TreeContents → (counted counted_after : ℕ) → RecordedAnswers → (root : List ℕ) → Result (List (List ℕ)) Fault → Type 0
AreCountedWanted contents counted counted_after answers root questions =
    (w : AreWanted contents answers root questions) × IsWholeUnlessFailed contents counted counted_after w.world

abbrev pub AreCountedUnused : TreeContents → (counted counted_after : ℕ) → RecordedAnswers → (root : List ℕ) → (answered : List (List ℕ)) → Result (List (List ℕ)) Fault → Type 0
AreCountedUnused contents counted counted_after answers root answered questions =
    (u : AreUnused contents answers root answered questions) × IsWholeUnlessFailed contents counted counted_after u.world

-- Where each file and each folder of a tree is known, each expansion that returns files returns those of the known tree, with its
-- notices: what can't be read is a fault, and is never passed over.
abbrev pub KnownFilesDetermineTheExpansion : Type 0
KnownFilesDetermineTheExpansion = (contents : TreeContents) (answers : RecordedAnswers) (root : List ℕ) (notices : List Notice) (files : List ExpandedFile)
    → ((path : List ℕ) → contents.file path ≢ unknown) → ((folder : List ℕ) → contents.folder folder ≢ None) → IsExpansion contents answers root notices (Ok files)
    → ((expansion (known_world contents answers) root).ending ≡ returned files) × ((expansion (known_world contents answers) root).notices ≡ notices)
