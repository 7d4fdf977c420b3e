-- Laws of the expansion of a tree.
use Rattle.std.specs.Prelude.{◌≡◌, ℕ, true, false, List, [], Some, None, Ok}
use Rattle.std.specs.List.{All}
use Rattle.kc_tree_model.specs.LogicalLines.{split_at_newlines}
use Rattle.kc_tree_model.specs.Limits.{is_in_list}
use Rattle.kc_macros_model.specs.Programs.{Place, Fault}
use Rattle.kc_macros_model.specs.ReadingStates.{ExpandedFile}
use Rattle.kc_macros_model.specs.TreeExpansion.{list_name}
use Rattle.kc_macros_model.specs.Worlds.{World, returned, failed, stopped, expansion, wanted, unused}
use Rattle.kc_macros_model.specs.ProgramLaws.{Extends, HasSameFiles, IsReadInPart, is_unanswered}
use Rattle.kc_macros_model.specs.LinePlaces.{line_of, AreInPlace}
use Rattle.kc_value.specs.Lines.{newline_count, has_newline}

-- more answers than an expansion needs change nothing of its files, fault, notices and work
abbrev pub AnswersNotAskedChangeNothing : Type 0
AnswersNotAskedChangeNothing = (w more : World) (root : List ℕ) → Extends w more → is_unanswered (expansion w root).ending ≡ false → expansion more root ≡ expansion w root

-- An expansion that returns files returns the same, with the same notices and work, where each file can be read and each folder can
-- be listed: what can't be read is never passed over.
abbrev pub FailedReadsChangeNothing : Type 0
FailedReadsChangeNothing = (known w : World) (root : List ℕ) (files : List ExpandedFile) → IsReadInPart known w → (expansion w root).ending ≡ returned files → expansion known root ≡ expansion w root

-- where the search for open questions finds no question and no fault, the expansion of the tree doesn't fail
abbrev pub NothingWantedIsExpanded : Type 0
NothingWantedIsExpanded = (w : World) (root : List ℕ) (f : Fault) → wanted w root ≡ Ok [] → (expansion w root).ending ≡ failed f → ⊥

-- the expansion of a tree never stops at an open question: it returns files or fails
abbrev pub ExpansionNeverStops : Type 0
ExpansionNeverStops = (w : World) (root : List ℕ) → (expansion w root).ending ≡ stopped → ⊥

-- where the search for open questions finds no question and no fault, the expansion of the tree returns files
abbrev pub NothingWantedReturnsFiles : Type 0
NothingWantedReturnsFiles = (w : World) (root : List ℕ) → wanted w root ≡ Ok [] → (files : List ExpandedFile) × ((expansion w root).ending ≡ returned files)

-- where the search for open questions finds a question, no expansion of the tree succeeds without its answer
abbrev pub WantedIsNeeded : Type 0
WantedIsNeeded = (w more : World) (root question : List ℕ) (questions : List (List ℕ)) (files : List ExpandedFile) → wanted w root ≡ Ok questions → is_in_list question questions ≡ true
    → Extends w more → more.answer question ≡ None → (expansion more root).ending ≡ returned files → ⊥

-- where no question of a tree is open, the answers that are unused may be others, or be taken away: its expansion is the same
abbrev pub UnusedAnswersChangeNothing : Type 0
UnusedAnswersChangeNothing = (w other : World) (root : List ℕ) (answered listed : List (List ℕ)) → wanted w root ≡ Ok [] → unused w root answered ≡ Ok listed
    → HasSameFiles w other → ((question : List ℕ) → is_in_list question listed ≡ false → other.answer question ≡ w.answer question)
    → expansion other root ≡ expansion w root

-- an expanded file has the logical lines of the file that was read for its path under their numbers, and as many newlines as that
-- file; or it is the list of files of a `source` line
pub data HasItsLines (w : World) (f : ExpandedFile) : Type 0 where
  of_file : (bytes : List ℕ) → w.bytes f.path ≡ Some bytes → newline_count f.text ≡ newline_count bytes
      → AreInPlace w f.path (line_of f.text) 1 (split_at_newlines bytes) → HasItsLines w f
  of_list : (at : Place) → f.path ≡ list_name at → HasItsLines w f

-- where neither an answer nor the first file's path has a newline, each expanded file has the logical lines of its file under
-- their numbers, or is a list of files
abbrev pub LinesAreKept : Type 0
LinesAreKept = (w : World) (root : List ℕ) (files : List ExpandedFile)
    → ((question text : List ℕ) → w.answer question ≡ Some (Some text) → has_newline text ≡ false) → has_newline root ≡ false
    → (expansion w root).ending ≡ returned files → All (HasItsLines w) files
