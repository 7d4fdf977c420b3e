-- A disk in memory after one more change.
use Rattle.std.proofs.Common.{◌≡◌, ◌≢◌, ℕ, Bool, true, false, List, [], ◌∷◌, ◌++◌, Some, refl, ap, sym, ◌∙◌, subst, string_bytes, if◌then◌else◌, length, get_or, take, ◌<◌, ◌+◌, add-one}
use Rattle.std.proofs.Math.Seq.{take-suc}
use Rattle.std.specs.Bool.{Decides}
use Rattle.std.specs.Str.{bytes_eq}
use Rattle.std.proofs.lemmas.Slice.Eq.{bytes_eq-Decides}
use Rattle.kmin_disk.specs.Contents.{Content, nothing, file, unfinished}
use Rattle.kmin_disk.specs.Disks.{History, with_newest, newest}
use Rattle.kmin_disk.specs.NewFiles.{Creates, Renames, Removes}
use Rattle.kmin_fakes.specs.MemoryDisks.{content_view, history_after, history_from, memory_state, memory_draft, AppendsHolds, AppendsRename}
use Rattle.kmin_fakes.specs.declared.memory_disk.MemoryContent.{MemoryContent}
use Rattle.kmin_fakes.specs.declared.memory_disk.MemoryContent.TheVariants.{Nothing, Unfinished}
use Rattle.kmin_fakes.specs.declared.memory_disk.MemoryNewFile.{MemoryNewFile}
use Rattle.kmin_fakes.specs.declared.memory_disk.Event.{Event}

pub bytes_eq-self : (p : List ℕ) → bytes_eq p p ≡ true
bytes_eq-self p = (bytes_eq-Decides p p).1 refl

pub bytes_eq-other : (p q : List ℕ) → p ≢ q → bytes_eq p q ≡ false
bytes_eq-other p q other =
    elim (bytes_eq p q) as (λ b. Decides b (p ≡ q) → b ≡ false) [ true ↦ λ d. absurd (other (d.0 refl)) | false ↦ λ d. refl ] (bytes_eq-Decides p q)

pub history_from-append : (history : History) (events : List Event) (event : Event) (path : List ℕ) → history_from history (events ++ event ∷ []) path
    ≡ history_after event path (history_from history events path)
history_from-append history [] event path = refl
history_from-append history (first ∷ events) event path = history_from-append (history_after first path history) events event path

-- after a path of a disk in memory got a content, its history is the earlier one with this content as the newest
pub holds_there : (old new : List Event) (path : List ℕ) (content : MemoryContent) → AppendsHolds old new path content
    → (memory_state new).history path ≡ with_newest (content_view content) ((memory_state old).history path)
holds_there old new path content adds =
    let before = history_from (nothing ∷ []) old path in
    ap (λ (es : List Event). history_from (nothing ∷ []) es path) adds.appended
    ∙ (history_from-append (nothing ∷ []) old adds.event path ∙ (adds.change path before
    ∙ ap (λ (b : Bool). if b then with_newest (content_view content) before else before) (bytes_eq-self path)))

-- after a path of a disk in memory got a content, the history of every other path is unchanged
pub holds_elsewhere : (old new : List Event) (path : List ℕ) (content : MemoryContent) → AppendsHolds old new path content → (place : List ℕ) → place ≢ path
    → (memory_state new).history place ≡ (memory_state old).history place
holds_elsewhere old new path content adds place other =
    let before = history_from (nothing ∷ []) old place in
    ap (λ (es : List Event). history_from (nothing ∷ []) es place) adds.appended
    ∙ (history_from-append (nothing ∷ []) old adds.event place ∙ (adds.change place before
    ∙ ap (λ (b : Bool). if b then with_newest (content_view content) before else before) (bytes_eq-other path place (λ e. other (sym e)))))

-- a disk in memory whose log gets an unfinished file at a path that held nothing has created that new file
pub creates_in_memory : (old new : List Event) (path new_path : List ℕ) (made : MemoryNewFile) → AppendsHolds old new new_path Unfinished
    → string_bytes made.path ≡ new_path → string_bytes made.target ≡ path → made.bytes.items ≡ [] → made.synced ≡ false → new_path ≢ path
    → newest ((memory_state old).history new_path) ≡ Some nothing → Creates (memory_state old) (memory_state new) path new_path (memory_draft made)
creates_in_memory old new path new_path made adds own target empty unsynced apart free = record {
  places = λ any. refl;
  own = own;
  target = target;
  apart = λ e. apart (sym own ∙ (e ∙ target));
  free = λ known. subst (λ (p : List ℕ). newest ((memory_state old).history p) ≡ Some nothing) (sym own) free;
  made = subst (λ (p : List ℕ). (memory_state new).history p ≡ with_newest unfinished ((memory_state old).history p)) (sym own)
      (holds_there old new new_path Unfinished adds);
  others = λ place other. holds_elsewhere old new new_path Unfinished adds place (λ e. other (e ∙ sym own));
  empty = λ known. ap Some empty;
  unsynced = unsynced;
}

-- a disk in memory whose log gets `Nothing` at the path of a new file has removed that file
pub removes_in_memory : (old new : List Event) (made : MemoryNewFile) → AppendsHolds old new (string_bytes made.path) Nothing
    → Removes (memory_state old) (memory_state new) (memory_draft made)
removes_in_memory old new made adds = record {
  places = λ any. refl;
  gone = holds_there old new (string_bytes made.path) Nothing adds;
  others = holds_elsewhere old new (string_bytes made.path) Nothing adds;
}

-- the history of any path of a disk in memory after a rename, by its history before it
pub renamed_history : (old new : List Event) (made : MemoryNewFile) → AppendsRename old new made → (place : List ℕ)
    → (memory_state new).history place ≡ (if bytes_eq (string_bytes made.target) place then with_newest (file made.bytes.items)
    ((memory_state old).history place) else (if bytes_eq (string_bytes made.path) place then with_newest nothing ((memory_state old).history place)
    else (memory_state old).history place))
renamed_history old new made adds place =
    let before = history_from (nothing ∷ []) old place in
    ap (λ (es : List Event). history_from (nothing ∷ []) es place) adds.appended
    ∙ (history_from-append (nothing ∷ []) old adds.event place ∙ adds.change place before)

-- a log that gets an event by which a path holds a content is one that `AppendsHolds` describes
pub appends_holds : (old new : List Event) (event : Event) (at path : List ℕ) (content : MemoryContent)
    → ((any : List ℕ) (history : History) → history_after event any history ≡ (if bytes_eq at any then with_newest (content_view content) history else history))
    → at ≡ path → new ≡ old ++ event ∷ [] → AppendsHolds old new path content
appends_holds old new event at path content change is appended = record {
  event = event;
  change = λ any history. change any history ∙ ap (λ (p : List ℕ). if bytes_eq p any then with_newest (content_view content) history else history) is;
  appended = appended;
}

-- a log that gets an event by which a new file is renamed to its target is one that `AppendsRename` describes
pub appends_rename : (old new : List Event) (event : Event) (from to bytes : List ℕ) (made : MemoryNewFile)
    → ((any : List ℕ) (history : History) → history_after event any history ≡ (if bytes_eq to any then with_newest (file bytes) history
    else (if bytes_eq from any then with_newest nothing history else history))) → from ≡ string_bytes made.path → to ≡ string_bytes made.target
    → bytes ≡ made.bytes.items → new ≡ old ++ event ∷ [] → AppendsRename old new made
appends_rename old new event from to bytes made change is_from is_to are_bytes appended = record {
  event = event;
  change = λ any history. change any history ∙ (cc);
  appended = appended;
}

-- a disk in memory whose log gets the rename of a new file has renamed that file, if its path isn't its target
pub renames_in_memory : (old new : List Event) (made : MemoryNewFile) → string_bytes made.path ≢ string_bytes made.target → AppendsRename old new made
    → Renames (memory_state old) (memory_state new) (memory_draft made)
renames_in_memory old new made apart adds =
    let own = string_bytes made.path in
    let target = string_bytes made.target in
    let bytes = made.bytes.items in
    record {
      places = λ any. refl;
      target = (let h = (memory_state old).history target in
          renamed_history old new made adds target ∙ ap (λ (b : Bool). if b then with_newest (file bytes) h
          else (if bytes_eq own target then with_newest nothing h else h)) (bytes_eq-self target));
      gone = (let h = (memory_state old).history own in
          renamed_history old new made adds own ∙ (ap (λ (b : Bool). if b then with_newest (file bytes) h
          else (if bytes_eq own own then with_newest nothing h else h)) (bytes_eq-other target own (λ e. apart (sym e)))
          ∙ ap (λ (b : Bool). if b then with_newest nothing h else h) (bytes_eq-self own)));
      others = λ place not_own not_target. (let h = (memory_state old).history place in
          renamed_history old new made adds place ∙ (ap (λ (b : Bool). if b then with_newest (file bytes) h
          else (if bytes_eq own place then with_newest nothing h else h)) (bytes_eq-other target place (λ e. not_target (sym e)))
          ∙ ap (λ (b : Bool). if b then with_newest nothing h else h) (bytes_eq-other own place (λ e. not_own (sym e)))));
    }

-- the newest content of a path after `index + 1` events of a log, by its newest content after `index` events
pub newest-next : (events : List Event) (index : ℕ) (event : Event) (path : List ℕ) (before after : Content) → index < length events
    → event ≡ get_or events index event → ((history : History) → newest history ≡ Some before → newest (history_after event path history) ≡ Some after)
    → newest (history_from (nothing ∷ []) (take index events) path) ≡ Some before → newest (history_from (nothing ∷ []) (take (index + 1) events) path)
    ≡ Some after
newest-next events index event path before after within is changes known =
    let more : take (index + 1) events ≡ take index events ++ event ∷ [] =
    rw add-one (take-suc events index event within ∙ ap (λ (e : Event). take index events ++ e ∷ []) (sym is)) in
    rw more (rw (history_from-append (nothing ∷ []) (take index events) event path) (changes (history_from (nothing ∷ []) (take index events) path) known))
