-- Files that count as missing while the files of a tree come in.
use Rattle.kmin_trees.proofs.Common.{◌≡◌, ℕ, suc, ◌+◌, ◌<◌, ◌≤◌, Bool, true, false, ◌⊎◌, inl, inr, List, [], ◌∷◌, length, get_or, take, Option, Some, None, Ok, Err, Result, refl, sym, ap, ◌∙◌, arith, ◌≢◌, bytes_eq, option_map, IfOk, if◌then◌else◌, All, lookup, no_memory, Files, file_at, with_path}
use Rattle.kmin_trees.proofs.Common.{with_file, TreeFault, OutOfMemory, TreeModel, FileContent, OpensAs, path_below, MayBeMissing, LacksOnlyMissing, MissesOnlyMissing, rises_later}
use Rattle.kc_value.specs.FileContents.{unknown, absent, known}
use Rattle.std.specs.Prelude.{◌++◌, nat_lt, filter_map, is_some, not, IfErr, IfNone}
use Rattle.std.proofs.lemmas.Bool.Decides.{nat_tests}
use Rattle.std.proofs.lemmas.List.Elements.{All-more, All-weaker, All-same, filter_passes}
use Rattle.kc_tree_model.specs.Blocks.{Group, sourced_path}
use Rattle.kc_tree_model.specs.Limits.{without_repeats}
use Rattle.kc_tree_model.specs.TreeReading.{paths_or_fault}
use Rattle.kc_tree_model.specs.TreesOfFiles.{absent_paths, AreWanted}
use Rattle.kc_tree_model.specs.TreeFaults.{first_tree_fault}
use Rattle.kc_tree_model.specs.declared.fault.TreeKind.TheVariants.{MissingFile}
use Rattle.kc_tree_model.proofs.ReadingLaws.TreesOfRelation.{tree_related, reported_related}
use Rattle.kmin_trees.specs.between.Readings.{IsReadWith}
use Rattle.kmin_trees.specs.declared.read_trees.ReadTree.{ReadTree}
use Rattle.kc_files.specs.TreeContents.{HasRisen}
use Rattle.kmin_trees.specs.MissingFiles.{lacks_none, lacks_some}
use Rattle.kmin_trees.specs.between.InsertedFiles.{AreTried}
use Rattle.kmin_inputs.proofs.FailureCounts.{rises_earlier, closed_rises}

-- a file that can't be opened isn't known to be there
pub unopened : (content : FileContent) (a b : ℕ) → OpensAs content None → MayBeMissing content a b
unopened unknown a b h = tt
unopened absent a b h = tt
unopened (known bytes) a b h = cc

-- a file of which a read failed may count as missing
pub unread : (content : FileContent) (a b : ℕ) → HasRisen a b → MayBeMissing content a b
unread unknown a b h = tt
unread absent a b h = tt
unread (known bytes) a b h = h

-- a file that may count as missing may do so where the count rose before or after, too
pub missing_over : (content : FileContent) (a b c d : ℕ) → a ≤ b → b ≤ c → c ≤ d → MayBeMissing content b c → MayBeMissing content a d
missing_over unknown a b c d l m n h = tt
missing_over absent a b c d l m n h = tt
missing_over (known bytes) a b c d l m n h = rises_earlier a c d n (rises_later a b c l m h)

-- texts of which each missing file may count as missing
pub lacks_over : (content_of : List ℕ → FileContent) (root first : List ℕ) (texts : Files) (a b c d : ℕ) → a ≤ b → b ≤ c → c ≤ d
    → LacksOnlyMissing content_of root first texts b c → LacksOnlyMissing content_of root first texts a d
lacks_over content_of root first texts a b c d l m n (lacks_none fault w) = lacks_none fault w
lacks_over content_of root first texts a b c d l m n (lacks_some paths w h) =
    lacks_some paths w (All-weaker (λ (path : List ℕ). MayBeMissing (content_of (path_below root path)) b c)
    (λ (path : List ℕ). MayBeMissing (content_of (path_below root path)) a d)
    (λ path missed. missing_over (content_of (path_below root path)) a b c d l m n missed) paths h)

-- a new path makes the list of files longer
longer_if : (p b : List ℕ) (t : Bool) (f : List ℕ × List ℕ) (fs : List (List ℕ × List ℕ)) → (if t then Some f.1 else lookup (bytes_eq p) fs) ≡ None
    → (lookup (bytes_eq p) fs ≡ None → length (with_path fs p b) ≡ suc (length fs))
    → length (if t then (f.0, b) ∷ fs else f ∷ with_path fs p b) ≡ suc (suc (length fs))
longer_if p b true f fs h r = cc
longer_if p b false f fs h r = ap suc (r h)

longer_list : (fs : List (List ℕ × List ℕ)) (p b : List ℕ) → lookup (bytes_eq p) fs ≡ None → length (with_path fs p b) ≡ suc (length fs)
longer_list [] p b h = refl
longer_list (f ∷ fs) p b h = longer_if p b (bytes_eq p f.0) f fs h (longer_list fs p b)

pub longer : (texts new : Files) (p b : List ℕ) → file_at texts p ≡ None → new ≡ with_file texts p b → length texts.list < length new.list
longer texts new p b h e = let n : length new.list ≡ suc (length texts.list) = ap (λ (t : Files). length t.list) e ∙ longer_list texts.list p b h in omega arith

module _ (content_of : List ℕ → FileContent) (root : List ℕ) {X : Type 0} (path_of : X → List ℕ) where
  -- the file of a path that the texts lack may count as missing
  abbrev pub IsTried : Files → (failed failed_after : ℕ) → X → Type 0
  IsTried texts a b x = file_at texts (path_of x) ≡ None → MayBeMissing (content_of (path_below root (path_of x))) a b

  -- one more file that isn't inserted
  pub tried_more : (xs : List X) (i : ℕ) (d : X) (before texts : Files) (a b c : ℕ) → i < length xs → texts ≡ before → a ≤ b → b ≤ c
      → All (IsTried before a b) (take i xs) → IsTried texts b c (get_or xs i d) → All (IsTried before a c) (take (i + 1) xs)
  tried_more xs i d before texts a b c lt e l m h k =
      let same : file_at texts (path_of (get_or xs i d)) ≡ file_at before (path_of (get_or xs i d)) = ap (λ t. file_at t (path_of (get_or xs i d))) e in
      All-more (IsTried before a c) xs i d lt
      (All-weaker (IsTried before a b) (IsTried before a c) (λ x tried none. missing_over (content_of (path_below root (path_of x))) a a b c (omega arith) l m
      (tried none)) (take i xs) h)
      (λ none. missing_over (content_of (path_below root (path_of (get_or xs i d)))) a b c c l m (omega arith) (k (same ∙ none)))

  -- one more file that is inserted or not
  pub insert_step : (xs : List X) (i : ℕ) (d : X) (start before after : Files) (a b c : ℕ) (done : Bool) → i < length xs → a ≤ b → b ≤ c
      → length start.list ≤ length before.list → (length before.list ≤ length start.list → before ≡ start)
      → (length before.list ≤ length start.list → All (IsTried start a b) (take i xs))
      → (done ≡ true → length before.list < length after.list) → (done ≡ false → after ≡ before) → (done ≡ false → IsTried before b c (get_or xs i d))
      → (length start.list ≤ length after.list) × (length after.list ≤ length start.list → after ≡ start)
      × (length after.list ≤ length start.list → All (IsTried start a c) (take (i + 1) xs))
  insert_step xs i d start before after a b c true lt l m grows same tried more kept missed = (
    omega (arith, grows, more refl),
    (λ le. absurd (omega (arith, grows, more refl))),
    (λ le. absurd (omega (arith, grows, more refl))),
  )
  insert_step xs i d start before after a b c false lt l m grows same tried more kept missed =
      let e : after ≡ before = kept refl in
      let n : length after.list ≡ length before.list = ap (λ (t : Files). length t.list) e in (
        omega (arith, grows, n),
        (λ le. e ∙ same (omega (arith, n))),
        (λ le. tried_more xs i d start before a b c lt (same (omega (arith, n))) l m (tried (omega (arith, n))) (missed refl)),
      )

-- a file that was opened and closed, and of which a read failed if it wasn't read
pub closed_missing : {X E : Type 0} (content : FileContent) (own own_after before opened closed : ℕ) (r : Result (Option X) E) → own ≡ 0
    → IfOk r (λ found. IfNone found (HasRisen own own_after)) → before ≤ opened → (0 < own_after → HasRisen opened closed) → opened ≤ closed
    → IfOk r (λ found. IfNone found (MayBeMissing content before closed))
closed_missing content own own_after before opened closed (Err e) z h le rose up = tt
closed_missing content own own_after before opened closed (Ok None) z h le rose up =
    unread content before closed (closed_rises own own_after before opened closed z h le rose up)
closed_missing content own own_after before opened closed (Ok (Some v)) z h le rose up = tt

pub both_err : {T E : Type 0} (r : Result T E) (P Q : E → Type 0) → IfErr r P → IfErr r Q → IfErr r (λ e. P e × Q e)
both_err (Ok x) P Q h k = tt
both_err (Err e) P Q h k = (h, k)

-- texts that are refused for a missing file lack only files that may count as missing, if their reading does
pub misses_only : {L : Type 0} (AreOf : Files → List ℕ → TreeModel → L → Type 0) (content_of : List ℕ → FileContent) (root first : List ℕ) (texts : Files) (a b : ℕ)
    (read : Result (ReadTree L) TreeFault) → IsReadWith L AreOf texts first read → IfErr read (λ f. f.kind ≢ OutOfMemory)
    → IfErr read (λ f. f.kind ≡ MissingFile → LacksOnlyMissing content_of root first texts a b)
    → MissesOnlyMissing content_of root first texts a b
misses_only AreOf content_of root first texts a b (Ok tree) is n l = λ fault reported missing.
    let none : first_tree_fault texts first ≡ None = ((tree_related texts first tree.tree.tree).1 is.0).0 in
    let some : first_tree_fault texts first ≡ Some fault = (reported_related texts first fault).1 reported in
    absurd (let z : ⊥ = cc in z)
misses_only AreOf content_of root first texts a b (Err f) is n l = λ fault reported missing.
    let one : first_tree_fault texts first ≡ Some f = (reported_related texts first f).1 (is n) in
    let other : first_tree_fault texts first ≡ Some fault = (reported_related texts first fault).1 reported in
    let same : f ≡ fault = cc in
    l (ap (λ (x : TreeFault). x.kind) same ∙ missing)

-- the paths that a reading wants have no text
paths_are : (xs : List (List ℕ)) (f : Option TreeFault) (paths : List (List ℕ)) → Ok paths ≡ paths_or_fault xs f → paths ≡ xs
paths_are [] (Some f) paths h = cc
paths_are [] None paths h = cc
paths_are (x ∷ xs) f paths h = cc

none_by : (o : Option (List ℕ)) → not (is_some o) ≡ true → o ≡ None
none_by None h = refl
none_by (Some x) h = cc

absent_all : (texts : Files) (first : List ℕ) (read : List Group) (f : Option TreeFault) (paths : List (List ℕ))
    → Ok paths ≡ paths_or_fault (absent_paths texts first read) f
    → All (λ (path : List ℕ). file_at texts path ≡ None) paths
absent_all texts first read f paths h =
    let is = paths_are (absent_paths texts first read) f paths h in
    let passes = filter_passes (λ (path : List ℕ). not (is_some (file_at texts path))) (without_repeats (filter_map sourced_path read ++ first ∷ [])) in
    All-same (λ (path : List ℕ). file_at texts path ≡ None) paths (absent_paths texts first read) is
    (All-weaker (λ (path : List ℕ). not (is_some (file_at texts path)) ≡ true) (λ (path : List ℕ). file_at texts path ≡ None)
    (λ path none. none_by (file_at texts path) none) (absent_paths texts first read) passes)

-- where each wanted file was tried, the reading lacks only files that may count as missing
pub lacks_by_tried : (content_of : List ℕ → FileContent) (root first : List ℕ) (texts : Files) (paths : List (List ℕ)) (a b : ℕ)
    → AreWanted texts first (Ok paths) → AreTried content_of root paths texts a b → LacksOnlyMissing content_of root first texts a b
lacks_by_tried content_of root first texts paths a b w t =
    lacks_some paths w (λ k d lt. t k d lt (absent_all texts first w.0.read w.0.fault paths w.2 k d lt))

pub not_more : (m n : ℕ) → nat_lt m n ≡ false → n ≤ m
not_more m n h = grind (arith, nat_tests)

-- where a reading wants no path, it lacks no file
pub lacks_by_fault : (content_of : List ℕ → FileContent) (root first : List ℕ) (texts : Files) (a b : ℕ) (fault : TreeFault)
    → (fault ≡ no_memory) ⊎ AreWanted texts first (Err fault) → fault.kind ≢ OutOfMemory → LacksOnlyMissing content_of root first texts a b
lacks_by_fault content_of root first texts a b fault (inl e) k = absurd (k (ap (λ (f : TreeFault). f.kind) e))
lacks_by_fault content_of root first texts a b fault (inr w) k = lacks_none fault w

pub any_err : {T E : Type 0} (r : Result T E) (P : E → Type 0) → ((e : E) → P e) → IfErr r P
any_err (Ok x) P h = tt
any_err (Err e) P h = h e

-- by the test of its look-up a path has a text, or none
pub has_text : {B : Type 0} (f : B → List ℕ) (found : Option B) (test : Bool) (text : Option (List ℕ)) → test ≡ is_some found → test ≡ true
    → option_map f found ≡ text → text ≢ None
has_text f None test text e t m = λ none. cc
has_text f (Some x) test text e t m = λ none. cc

pub lacks_text : {B : Type 0} (f : B → List ℕ) (found : Option B) (test : Bool) (text : Option (List ℕ)) → test ≡ is_some found → test ≡ false
    → option_map f found ≡ text → text ≡ None
lacks_text f None test text e t m = sym m
lacks_text f (Some x) test text e t m = cc
