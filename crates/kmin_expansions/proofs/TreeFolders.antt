-- The files and the folders of a tree below a root.
use Rattle.std.proofs.Common.{◌≡◌, ℕ, Bool, true, false, List, Result, refl, subst}
use Rattle.std.specs.Str.{IsUtf8, is_utf8}
use Rattle.std.proofs.lemmas.Str.{IsUtf8-from_is_utf8}
use Rattle.kc_answers.specs.RunStates.{questions_of}
use Rattle.kc_macros_model.specs.AnswerFiles.{RecordedAnswers}
use Rattle.kc_macros_model.specs.Programs.{Fault, Notice}
use Rattle.kc_macros_model.specs.ReadingStates.{ExpandedFile}
use Rattle.kc_macros_model.specs.Worlds.{World}
use Rattle.kc_expansion.specs.Expansions.{IsCountedExpansion, AreCountedWanted, AreCountedUnused}
use Rattle.kc_files.specs.TreeContents.{IsWorldOf, IsWholeWorldOf}
use Rattle.kmin_inputs.specs.FileContents.{Surroundings}
use Rattle.kmin_expansions.specs.TreeFolders.{contents_through, contents_below}
use Rattle.kmin_expansions.specs.WantedQuestions.{AreListed}

not_so : (b : Bool) → (b ≡ true → ⊥) → b ≡ false
not_so true h = absurd (h refl)
not_so false h = refl

pub utf8_fails : (bytes : List ℕ) → (IsUtf8 bytes → ⊥) → is_utf8 bytes ≡ false
utf8_fails bytes h = not_so (is_utf8 bytes) (λ e. h (IsUtf8-from_is_utf8 bytes e))

-- the files and folders are the same, whatever they are read through
world_below : (reference failures : ℕ) (known : Surroundings) (root : List ℕ) (w : World) → IsWorldOf (contents_through reference failures known root) w
    → IsWorldOf (contents_below known root) w
world_below reference failures known root w h = record { files = h.files; folders = h.folders }

whole_below : (reference failures : ℕ) (known : Surroundings) (root : List ℕ) (w : World) → IsWholeWorldOf (contents_through reference failures known root) w
    → IsWholeWorldOf (contents_below known root) w
whole_below reference failures known root w h = record { files = h.files; folders = h.folders }

through_any : (reference failures : ℕ) (known : Surroundings) (root first : List ℕ) (counted counted_after : ℕ) (answers : RecordedAnswers)
    (notices : List Notice) (r : Result (List ExpandedFile) Fault)
    → IsCountedExpansion (contents_through reference failures known root) counted counted_after answers first notices r
    → IsCountedExpansion (contents_below known root) counted counted_after answers first notices r
through_any reference failures known root first counted counted_after answers notices r h = (
  record {
    world = h.0.world;
    of_contents = world_below reference failures known root h.0.world h.0.of_contents;
    answered = h.0.answered;
    has_notices = h.0.has_notices;
    ends_so = h.0.ends_so;
  },
  (λ none. whole_below reference failures known root h.0.world (h.1 none)),
)

pub expansion_below : (reference failures : ℕ) (known : Surroundings) (root first path : List ℕ) (counted opened counted_after : ℕ) (answers : RecordedAnswers)
    (notices : List Notice) (r : Result (List ExpandedFile) Fault) → path ≡ first → opened ≡ counted_after
    → IsCountedExpansion (contents_through reference failures known root) counted opened answers path notices r
    → IsCountedExpansion (contents_below known root) counted counted_after answers first notices r
expansion_below reference failures known root first path counted opened counted_after answers notices r e same h =
    subst (λ n. IsCountedExpansion (contents_below known root) counted n answers first notices r) same
    (subst (λ p. IsCountedExpansion (contents_below known root) counted opened answers p notices r) e
    (through_any reference failures known root path counted opened answers notices r h))

wanted_any : (reference failures : ℕ) (known : Surroundings) (root first : List ℕ) (counted counted_after : ℕ) (answers : RecordedAnswers)
    (asked : Result (List (List ℕ)) Fault)
    → AreCountedWanted (contents_through reference failures known root) counted counted_after answers first asked
    → AreCountedWanted (contents_below known root) counted counted_after answers first asked
wanted_any reference failures known root first counted counted_after answers asked h = (
  record {
    world = h.0.world;
    of_contents = world_below reference failures known root h.0.world h.0.of_contents;
    answered = h.0.answered;
    are_wanted = h.0.are_wanted;
  },
  (λ none. whole_below reference failures known root h.0.world (h.1 none)),
)

unused_any : (reference failures : ℕ) (known : Surroundings) (root first : List ℕ) (counted counted_after : ℕ) (answers : RecordedAnswers)
    (answered : List (List ℕ)) (listed : Result (List (List ℕ)) Fault)
    → AreCountedUnused (contents_through reference failures known root) counted counted_after answers first answered listed
    → AreCountedUnused (contents_below known root) counted counted_after answers first answered listed
unused_any reference failures known root first counted counted_after answers answered listed h = (
  record {
    world = h.0.world;
    of_contents = world_below reference failures known root h.0.world h.0.of_contents;
    answered_so = h.0.answered_so;
    are_unused = h.0.are_unused;
  },
  (λ none. whole_below reference failures known root h.0.world (h.1 none)),
)

-- what is listed is the same, whatever the tree is read through
pub listed_below : (unused : Bool) (reference failures : ℕ) (known : Surroundings) (root first : List ℕ) (counted opened counted_after : ℕ)
    (answers recorded : RecordedAnswers) (listed : Result (List (List ℕ)) Fault) → opened ≡ counted_after
    → AreListed unused (contents_through reference failures known root) counted opened answers recorded first listed
    → AreListed unused (contents_below known root) counted counted_after answers recorded first listed
listed_below false reference failures known root first counted opened counted_after answers recorded listed same h =
    subst (λ n. AreCountedWanted (contents_below known root) counted n answers first listed) same
    (wanted_any reference failures known root first counted opened answers listed h)
listed_below true reference failures known root first counted opened counted_after answers recorded listed same h =
    subst (λ n. AreCountedUnused (contents_below known root) counted n answers first (questions_of recorded) listed) same
    (unused_any reference failures known root first counted opened answers (questions_of recorded) listed h)
