-- Expansions of known trees.
use Rattle.kc_value.specs.FileContents.{unknown, absent, known}
use Rattle.kc_expansion.proofs.Common.{◌≡◌, ℕ, Bool, false, ◌||◌, List, Option, Some, None, refl, ap, ◌∙◌, ◌⊎◌, inl, inr, is_some, ExpandedFile, World, Outcome, RecordedAnswers, HasAnswers, FileContent, FolderContent, TreeContents, IsContentRead, IsFolderRead, IsWorldOf}
use Rattle.kc_macros_model.specs.ProgramLaws.{IsReadInPart}
use Rattle.kc_macros_model.proofs.FailedReads.{failed_reads}
use Rattle.kc_expansion.specs.Expansions.{known_bytes, known_world, KnownFilesDetermineTheExpansion}

file_there : (content : FileContent) (bytes : Option (List ℕ)) (unreadable : Bool) → (content ≡ unknown → ⊥) → IsContentRead content bytes unreadable
    → (is_some bytes || unreadable) ≡ (is_some (known_bytes content) || false)
file_there unknown bytes unreadable n h = absurd (n refl)
file_there absent bytes unreadable n (e, f) = ap (λ b. is_some b || unreadable) e ∙ f
file_there (known all) bytes unreadable n (inl e) = ap (λ b. is_some b || unreadable) e
file_there (known all) bytes unreadable n (inr (e, f)) = ap (λ b. is_some b || unreadable) e ∙ f

file_same : (content : FileContent) (bytes : Option (List ℕ)) (unreadable : Bool) → (content ≡ unknown → ⊥) → IsContentRead content bytes unreadable
    → (bytes ≡ known_bytes content) ⊎ (bytes ≡ None)
file_same unknown bytes unreadable n h = absurd (n refl)
file_same absent bytes unreadable n (e, f) = inl e
file_same (known all) bytes unreadable n (inl e) = inl e
file_same (known all) bytes unreadable n (inr (e, f)) = inr e

folder_same : (content : FolderContent) (names : Option (List (List ℕ))) → (content ≡ None → ⊥) → IsFolderRead content names
    → (names ≡ content) ⊎ (names ≡ None)
folder_same None names n h = absurd (n refl)
folder_same (Some all) names n h = h

-- each world that agrees with what is known of each file and folder of a tree is the known one, read in part
read_in_part : (contents : TreeContents) (answers : RecordedAnswers) (w : World) → ((path : List ℕ) → contents.file path ≡ unknown → ⊥)
    → ((folder : List ℕ) → contents.folder folder ≡ None → ⊥) → IsWorldOf contents w → HasAnswers w answers → IsReadInPart (known_world contents answers) w
read_in_part contents answers w files folders agrees answered = record {
  answers = answered;
  there = λ path. file_there (contents.file path) (w.bytes path) (w.unreadable path) (files path) (agrees.files path);
  files = λ path. file_same (contents.file path) (w.bytes path) (w.unreadable path) (files path) (agrees.files path);
  folders = λ folder. folder_same (contents.folder folder) (w.names folder) (folders folder) (agrees.folders folder);
}

pub known_files_determine : KnownFilesDetermineTheExpansion
known_files_determine contents answers root notices files known_files known_folders e =
    let part = read_in_part contents answers e.world known_files known_folders e.of_contents e.answered in
    let same = failed_reads (known_world contents answers) e.world root files part e.ends_so in
    (ap (λ (o : Outcome (List ExpandedFile)). o.ending) same ∙ e.ends_so, ap (λ (o : Outcome (List ExpandedFile)). o.notices) same ∙ e.has_notices)
