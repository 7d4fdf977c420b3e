-- One place of a disk during a run.
use Rattle.kmin_tidy.proofs.Common.{◌≡◌, ◌≢◌, ℕ, List, [], ◌∷◌, Option, Some, None, inl, inr, refl, sym, ap, ◌∙◌, subst, Content, nothing, file, History, newest, with_newest, TidySettings, Notices, IsReadAs, HasMinimalFile, IsMinimised, IsKept, HoldsMinimalFile}
use Rattle.kmin_disk.specs.Disks.{Stays}
use Rattle.kmin_tidy.specs.MinimalFiles.{IsMinimalFile}

-- a file that is the minimal file of some values is its own minimal file
pub minimal_once : (s : TidySettings) (bytes minimal_bytes : List ℕ) (notices : Notices) → IsMinimalFile s bytes → HasMinimalFile s bytes minimal_bytes notices → minimal_bytes ≡ bytes
minimal_once s bytes minimal_bytes notices own m = m.canonical.is ∙ own.1.once m.values m.loads.reads

-- a file whose minimal file has other bytes isn't the minimal file of any values
pub minimal_not : (s : TidySettings) (bytes read minimal_bytes : List ℕ) (notices : Notices) → read ≡ bytes → IsMinimalFile s bytes → HasMinimalFile s read minimal_bytes notices
    → minimal_bytes ≢ read → ⊥
minimal_not s bytes read minimal_bytes notices e own m other =
    other (minimal_once s bytes minimal_bytes notices own (subst (λ b. HasMinimalFile s b minimal_bytes notices) e m) ∙ sym e)

-- the minimal file of a file is the minimal file of some values
pub written_minimal : (s : TidySettings) (bytes minimal_bytes : List ℕ) (notices : Notices) → HasMinimalFile s bytes minimal_bytes notices → IsMinimalFile s minimal_bytes
written_minimal s bytes minimal_bytes notices m = (m.values, m.canonical)

stays_stays : (a b c : History) → Stays a b → Stays b c → Stays a c
stays_stays a b c h k = record {
  same_content = k.same_content ∙ h.same_content;
  same_history = λ some. k.same_history (λ e. some (sym h.same_content ∙ e)) ∙ h.same_history some;
}

-- a place with a file that can be read isn't empty
read_some : (content : Option Content) (bytes : List ℕ) → IsReadAs content bytes → content ≢ Some nothing
read_some content bytes r = λ e. let z : IsReadAs (Some nothing) bytes = subst (λ c. IsReadAs c bytes) e r in z

stays_minimised : (s : TidySettings) (a b c : History) → Stays a b → IsMinimised s b c → IsMinimised s a c
stays_minimised s a b c h m =
    let some : newest a ≢ Some nothing = λ e. read_some (newest b) m.bytes m.read (h.same_content ∙ e) in
    subst (λ x. IsMinimised s x c) (h.same_history some) m

pub newest_written : (minimal_bytes : List ℕ) (history : History) → newest (with_newest (file minimal_bytes) history) ≢ Some nothing
newest_written minimal_bytes [] = λ e. let z : None ≡ Some nothing = e in (cc)
newest_written minimal_bytes (content ∷ before) = λ e. let z : Some (file minimal_bytes) ≡ Some nothing = e in (cc)

minimised_stays : (s : TidySettings) (a b c : History) → IsMinimised s a b → Stays b c → IsMinimised s a c
minimised_stays s a b c m k =
    let same : c ≡ b = k.same_history (λ e. newest_written m.minimal_bytes a (ap newest (sym m.replaced) ∙ e)) in
    subst (λ x. IsMinimised s a x) (sym same) m

-- no place is replaced twice by other bytes
minimised_twice : (s : TidySettings) (a b c : History) → IsMinimised s a b → IsMinimised s b c → IsMinimised s a c
minimised_twice s [] b c m k = record {
  bytes = m.bytes;
  minimal_bytes = m.minimal_bytes;
  notices = m.notices;
  read = m.read;
  minimal = m.minimal;
  differs = m.differs;
  replaced = k.replaced ∙ ap (with_newest (file k.minimal_bytes)) m.replaced;
}
minimised_twice s (content ∷ before) b c m k =
    let read : k.bytes ≡ m.minimal_bytes = subst (λ h. IsReadAs (newest h) k.bytes) m.replaced k.read in
    absurd (minimal_not s m.minimal_bytes k.bytes k.minimal_bytes k.notices read (written_minimal s m.bytes m.minimal_bytes m.notices m.minimal) k.minimal k.differs)

-- a place that is as it was or got its minimal file, in one part of a run and in the next, is or did so over both
pub kept_after : (s : TidySettings) (a b c : History) → IsKept s a b → IsKept s b c → IsKept s a c
kept_after s a b c (inl h) (inl k) = inl (stays_stays a b c h k)
kept_after s a b c (inl h) (inr k) = inr (stays_minimised s a b c h k)
kept_after s a b c (inr h) (inl k) = inr (minimised_stays s a b c h k)
kept_after s a b c (inr h) (inr k) = inr (minimised_twice s a b c h k)

pub holds_written : (s : TidySettings) (history : History) (minimal_bytes : List ℕ) → IsMinimalFile s minimal_bytes → HoldsMinimalFile s (with_newest (file minimal_bytes) history)
holds_written s [] minimal_bytes own = tt
holds_written s (content ∷ before) minimal_bytes own = (minimal_bytes, refl, own)

holds_some : (s : TidySettings) (content : Content) (before : History) → HoldsMinimalFile s (content ∷ before) → Some content ≢ Some nothing
holds_some s content before h = read_some (Some content) h.0 h.1

-- a place that holds a minimal file still does after a change that `IsKept` allows
pub minimal_kept : (s : TidySettings) (old new : History) → IsKept s old new → HoldsMinimalFile s old → HoldsMinimalFile s new
minimal_kept s [] new (inl k) h = subst (HoldsMinimalFile s) (sym (k.same_history (λ e. let z : None ≡ Some nothing = e in (cc)))) h
minimal_kept s (content ∷ before) new (inl k) h = subst (HoldsMinimalFile s) (sym (k.same_history (holds_some s content before h))) h
minimal_kept s old new (inr m) h =
    subst (HoldsMinimalFile s) (sym m.replaced) (holds_written s old m.minimal_bytes (written_minimal s m.bytes m.minimal_bytes m.notices m.minimal))

-- a place from which the bytes of a minimal file may be read holds a minimal file
pub holds_read : (s : TidySettings) (history : History) (bytes : List ℕ) → IsReadAs (newest history) bytes → IsMinimalFile s bytes → HoldsMinimalFile s history
holds_read s [] bytes r own = tt
holds_read s (content ∷ before) bytes r own = (bytes, r, own)
