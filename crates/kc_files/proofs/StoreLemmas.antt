-- The files and folders that a store has.
use Rattle.std.proofs.Common.{◌^◌, ⊎_elim}
use Rattle.kc_files.proofs.Common.{◌≡◌, ℕ, ◌-◌, ◌<◌, ◌≤◌, Bool, ◌||◌, List, [], ◌∷◌, ◌++◌, Option, Some, None, refl, sym, ap, ◌∙◌, subst, arith, is_some, option_map, Result, Ok, Err, IfOk, file_of, seen_as, keyword_in_table, World, has_file, TreeContents, StaysKnown, FileRead, FolderRead, names}
use Rattle.kc_files.proofs.Common.{too_many, unlisted, KnownFiles, Agrees, Grows}
use Rattle.kc_value.specs.FileContents.{FileContent, unknown, absent, known}
use Rattle.kc_value.specs.Streams.{one_failure_more}
use Rattle.kc_files.specs.declared.file_bytes.FileRead.{FileRead as CodeFile}
use Rattle.kc_files.specs.TreeContents.{HasRisen, FolderContent}
use Rattle.kc_files.specs.between.KnownFiles.{missing, unreadable, whole, too_long, is_there, AreBytes, IsUnreadable, MatchFile, MatchFolder, AreAsKnown}
use Rattle.kc_files.proofs.TableLemmas.{stays_found, found_or_new, found_as}

pub stays_same : (t : TreeContents) → StaysKnown t t
stays_same t = record { same = refl; rising = omega arith }

pub stays_twice : (a b c : TreeContents) → StaysKnown a b → StaysKnown b c → StaysKnown a c
stays_twice a b c g h = record {
  same = h.same ∙ ap (λ (t : TreeContents). let u : TreeContents = record t { failures = c.failures } in u) g.same;
  rising = omega (arith, g.rising, h.rising);
}

-- what is known of a file or a folder is the same afterwards
pub file_stays : (a b : TreeContents) (path : List ℕ) → StaysKnown a b → b.file path ≡ a.file path
file_stays a b path g = ap (λ (t : TreeContents). t.file path) g.same

pub folder_stays : (a b : TreeContents) (folder : List ℕ) → StaysKnown a b → b.folder folder ≡ a.folder folder
folder_stays a b folder g = ap (λ (t : TreeContents). t.folder folder) g.same

not_over : (a b c d : ℕ) → a ≤ b → b ≤ c → c ≤ d → HasRisen b c → a < 2 ^ 64 - 1 → d ≤ a → ⊥
not_over a b c d l m n h lt k = omega (arith, h (omega arith))

-- a count that rose meanwhile
pub rises_over : (a b c d : ℕ) → a ≤ b → b ≤ c → c ≤ d → HasRisen b c → HasRisen a d
rises_over a b c d l m n h = λ lt. (let over = not_over a b c d l m n h lt in omega (arith, over))

file_over : (content : FileContent) (a b c d : ℕ) (read : FileRead) → a ≤ b → b ≤ c → c ≤ d → MatchFile content b c read → MatchFile content a d read
file_over unknown a b c d read l m n h = tt
file_over absent a b c d read l m n h = h
file_over (known all) a b c d missing l m n h = h
file_over (known all) a b c d unreadable l m n h = rises_over a b c d l m n h
file_over (known all) a b c d (whole bytes) l m n h = h
file_over (known all) a b c d too_long l m n h = h

folder_over : (content : FolderContent) (a b c d : ℕ) (read : FolderRead) → a ≤ b → b ≤ c → c ≤ d → MatchFolder content b c read
    → MatchFolder content a d read
folder_over None a b c d read l m n h = tt
folder_over (Some all) a b c d (names ns) l m n h = h
folder_over (Some all) a b c d too_many l m n h = h
folder_over (Some all) a b c d unlisted l m n h = rises_over a b c d l m n h

pub grows_same : (contents : TreeContents) (store : KnownFiles) → Grows contents contents store store
grows_same contents store = record { rising = omega arith; worlds = λ w h. h; matched = λ failed le h. h }

pub grows_twice : (k l m : TreeContents) (a b c : KnownFiles) → Grows k l a b → Grows l m b c → Grows k m a c
grows_twice k l m a b c g h = record {
  rising = omega (arith, g.rising, h.rising);
  worlds = λ w x. g.worlds w (h.worlds w x);
  matched = λ failed le x. h.matched failed (omega (arith, le, g.rising)) (g.matched failed le x);
}

-- files and folders that were read agree with what is known of the tree afterwards
as_known_later : (k l : TreeContents) (failed : ℕ) (store : KnownFiles) → StaysKnown k l → failed ≤ k.failures → AreAsKnown k failed store
    → AreAsKnown l failed store
as_known_later k l failed store stays le h = record {
  files = λ p r e. subst (λ (content : FileContent). MatchFile content failed l.failures r) (sym (file_stays k l p stays))
      (file_over (k.file p) failed failed k.failures l.failures r (omega arith) le stays.rising (h.files p r e));
  folders = λ p r e. subst (λ (content : FolderContent). MatchFolder content failed l.failures r) (sym (folder_stays k l p stays))
      (folder_over (k.folder p) failed failed k.failures l.failures r (omega arith) le stays.rising (h.folders p r e));
}

pub grows_later : (k l : TreeContents) (store : KnownFiles) → StaysKnown k l → Grows k l store store
grows_later k l store stays = record { rising = stays.rising; worlds = λ w h. h; matched = λ failed le h. as_known_later k l failed store stays le h }

-- the known files grow by one more file whose result of reading agrees with its known content
pub file_more : (k l : TreeContents) (store : KnownFiles) (path : List ℕ) (read : FileRead) → StaysKnown k l
    → MatchFile (k.file path) k.failures l.failures read
    → Grows k l store (record store { files = store.files ++ (path, read) ∷ [] })
file_more k l store path read stays m = record {
  rising = stays.rising;
  worlds = λ w h. record { files = λ p r e. h.files p r (stays_found store.files (path, read) p r e); there = λ p r e. h.there p r (stays_found store.files (path, read) p r e); folders = h.folders };
  matched = λ failed le h.
      let later = as_known_later k l failed store stays le h in
      let new : MatchFile (l.file path) failed l.failures read = subst (λ (content : FileContent). MatchFile content failed l.failures read)
      (sym (file_stays k l path stays))
      (file_over (k.file path) failed k.failures l.failures l.failures read le stays.rising (omega arith) m) in
      record {
        files = λ p r e. ⊎_elim (λ f. later.files p r f) (λ f. subst (λ q. MatchFile (l.file q) failed l.failures r) (sym f.0)
            (subst (λ (s : FileRead). MatchFile (l.file path) failed l.failures s) (sym f.1) new)) (found_or_new store.files path p read r e);
        folders = later.folders;
      };
}

-- and so it does once the file is closed, and its failures are counted
pub closed_matched : (content : FileContent) (own own_after before opened closed : ℕ) (read : FileRead) → own ≡ 0 → before ≤ opened → opened ≤ closed
    → (0 < own_after → HasRisen opened closed) → MatchFile content own own_after read → MatchFile content before closed read
closed_matched unknown own own_after before opened closed read z l m up h = tt
closed_matched absent own own_after before opened closed read z l m up h = h
closed_matched (known all) own own_after before opened closed missing z l m up h = h
closed_matched (known all) own own_after before opened closed unreadable z l m up h =
    rises_over before opened closed closed l m (omega arith) (up (let own_rose : own < own_after = h (omega arith) in omega arith))
closed_matched (known all) own own_after before opened closed (whole bytes) z l m up h = h
closed_matched (known all) own own_after before opened closed too_long z l m up h = h

pub read_matched : {E : Type 0} (content : FileContent) (own own_after before opened closed : ℕ) (r : Result CodeFile E) → own ≡ 0 → before ≤ opened
    → opened ≤ closed → (0 < own_after → HasRisen opened closed) → IfOk r (λ read. MatchFile content own own_after (file_of read))
    → IfOk r (λ read. MatchFile content before closed (file_of read))
read_matched content own own_after before opened closed (Err e) z l m up h = tt
read_matched content own own_after before opened closed (Ok read) z l m up h =
    closed_matched content own own_after before opened closed (file_of read) z l m up h

-- the count of a reader's failures rises by a read that fails
pub one_more_rises : (n m k : ℕ) → m ≡ n → k ≡ one_failure_more m → HasRisen n k
one_more_rises n m k e h = λ lt. omega (arith, e, h)

-- the known folders grow by one more folder whose result of listing agrees with its known content
pub folder_more : (k l : TreeContents) (store : KnownFiles) (folder : List ℕ) (read : FolderRead) → StaysKnown k l
    → MatchFolder (k.folder folder) k.failures l.failures read
    → Grows k l store (record store { folders = store.folders ++ (folder, read) ∷ [] })
folder_more k l store folder read stays m = record {
  rising = stays.rising;
  worlds = λ w h. record { files = h.files; there = h.there; folders = λ p r e. h.folders p r (stays_found store.folders (folder, read) p r e) };
  matched = λ failed le h.
      let later = as_known_later k l failed store stays le h in
      let new : MatchFolder (l.folder folder) failed l.failures read = subst (λ (content : FolderContent). MatchFolder content failed l.failures read)
      (sym (folder_stays k l folder stays))
      (folder_over (k.folder folder) failed k.failures l.failures l.failures read le stays.rising (omega arith) m) in
      record {
        files = later.files;
        folders = λ p r e. ⊎_elim (λ f. later.folders p r f) (λ f. subst (λ q. MatchFolder (l.folder q) failed l.failures r) (sym f.0)
            (subst (λ (s : FolderRead). MatchFolder (l.folder folder) failed l.failures s) (sym f.1) new)) (found_or_new store.folders folder p read r e);
      };
}

there_by_read : (read : FileRead) (bytes : Option (List ℕ)) (unread : Bool) → AreBytes read bytes → IsUnreadable read unread
    → (is_some bytes || unread) ≡ is_there read
there_by_read missing bytes unread h k = ap (λ b. is_some b || unread) h ∙ k
there_by_read unreadable bytes unread h k = ap (λ b. is_some b || unread) h ∙ k
there_by_read (whole b) bytes unread h k = ap (λ b. is_some b || unread) h
there_by_read too_long bytes unread (more, h, l) k = ap (λ b. is_some b || unread) h

pub there_by : (store : KnownFiles) (path : List ℕ) (read : FileRead) → keyword_in_table store.files path ≡ Some read → (w : World) → Agrees w store
    → has_file w path ≡ is_there read
there_by store path read e w a = there_by_read read (w.bytes path) (w.unreadable path) (a.files path read e) (a.there path read e)

-- the shared result of reading a file is the one that the store has for the path
pub shared_found : {E : Type 0} (r : Result CodeFile E) (read : CodeFile) (table : List (List ℕ × CodeFile)) (path : List ℕ) → keyword_in_table table path ≡ Some read
    → IfOk r (λ copy. file_of copy ≡ file_of read) → IfOk r (λ copy. keyword_in_table (seen_as file_of table) path ≡ Some (file_of copy))
shared_found (Err e) read table path h f = tt
shared_found (Ok copy) read table path h f = found_as file_of table path ∙ ap (option_map file_of) h ∙ ap Some (sym f)
