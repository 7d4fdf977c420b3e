-- Two worlds of which one has more answers or can read more, and programs that fail without an answer.
use Rattle.std.specs.Prelude.{◌≡◌, ◌⊎◌, ℕ, Bool, true, false, List, Some, None}
use Rattle.kc_macros_model.specs.declared.fault.MacroKind.{MacroKind}
use Rattle.kc_macros_model.specs.declared.fault.MacroKind.TheVariants.{Unanswered}
use Rattle.kc_macros_model.specs.Programs.{Answer}
use Rattle.kc_macros_model.specs.Worlds.{World, has_file, Ending, returned, failed, stopped}

-- the world `more` has the files and folders of the world `w`, and all its answers or more
pub record Extends (w more : World) : Type 0 where
  pub answers : (question : List ℕ) (a : Answer) → w.answer question ≡ Some a → more.answer question ≡ Some a
  pub bytes : (path : List ℕ) → more.bytes path ≡ w.bytes path
  pub unreadable : (path : List ℕ) → more.unreadable path ≡ w.unreadable path
  pub names : (folder : List ℕ) → more.names folder ≡ w.names folder

-- the world `other` has the files and folders of the world `w`
pub record HasSameFiles (w other : World) : Type 0 where
  pub bytes : (path : List ℕ) → other.bytes path ≡ w.bytes path
  pub unreadable : (path : List ℕ) → other.unreadable path ≡ w.unreadable path
  pub names : (folder : List ℕ) → other.names folder ≡ w.names folder

-- the world `w` has the answers of the world `known`, and files at the same paths; each file that can be read in it has the bytes
-- that it has in `known`, and each folder that can be listed the same names
pub record IsReadInPart (known w : World) : Type 0 where
  pub answers : (question : List ℕ) → w.answer question ≡ known.answer question
  pub there : (path : List ℕ) → has_file w path ≡ has_file known path
  pub files : (path : List ℕ) → (w.bytes path ≡ known.bytes path) ⊎ (w.bytes path ≡ None)
  pub folders : (folder : List ℕ) → (w.names folder ≡ known.names folder) ⊎ (w.names folder ≡ None)

-- whether the kind of a fault is `Unanswered`: a question has no answer
abbrev pub is_unanswered_kind : MacroKind → Bool
is_unanswered_kind k = elim k [ Unanswered ↦ true | _ ↦ false ]

-- whether a program failed since a question has no answer
abbrev pub is_unanswered : {A : Type 0} → Ending A → Bool
is_unanswered (failed f) = is_unanswered_kind f.kind
is_unanswered (returned x) = false
is_unanswered stopped = false
