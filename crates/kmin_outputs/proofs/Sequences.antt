-- Configuration files, one after another: what they mean, and where a run ends among them.
use Rattle.kmin_outputs.proofs.Common.{◌≡◌, ◌≢◌, ℕ, Bool, true, List, [], ◌∷◌, ◌++◌, Option, Some, Result, Ok, Err, IfOk, map, length, refl, sym, ap, ◌∙◌, subst, append-nil, append_assoc, ◌⊎◌, inl, inr, Bor, Tree, UserValue, FileFormat, LoadKind, Malformed, NotUtf8, LineTooLong, TooManyLines, Read}
use Rattle.kmin_outputs.proofs.Common.{OutOfMemory, TooLarge, Fragment, notice_pair, ReportsFault, FileContent, RunError, ErrorLine, notice_lines, tree_notice_line, fault_line, SpelledBytes, TakesLines, FilesMean, StopsAmongFiles, AllowsNotices, ChoiceLine, choice_lines_from, ReadFiles, IsLoaded}
use Rattle.kmin_outputs.proofs.Common.{AreLoaded, AreRead, lists_of, StopsLoad, at_file, for_memory, load_lines, load_status, lines_append}
use Rattle.std.specs.Io.KnownBytes.{Consumes, IsAtEnd}
use Rattle.std.proofs.lemmas.List.{nil_from_length}
use Rattle.kc_dotconfig_model.specs.ConfigLines.{LineMeaning}
use Rattle.kc_dotconfig_model.specs.ConfigFiles.{file_assignment, merged_users, merged_files, notices_from}
use Rattle.kc_dotconfig_model.specs.LoadFaults.{IsFirstFault, complete}
use Rattle.kc_dotconfig.specs.Fragments.{users_of}
use Rattle.kc_dotconfig.specs.ReadResults.{IsReadAs, IsFileRefused}
use Rattle.kmin_report.specs.Reports.{file_notices}
use Rattle.kmin_report.specs.StandardError as taking
use Rattle.kmin_outputs.specs.Outputs.{none, file}
use Rattle.kmin_outputs.specs.Stops as stops
use Rattle.kmin_outputs.specs.Stops.{refused, unread, noticed}
use Rattle.std.proofs.lemmas.List.{map-append}
use Rattle.std.specs.Global.{Vec}
use Rattle.kc_value.specs.FileContents.{OpensAs}
use Rattle.kc_value.proofs.KnownContents.{rest_of, whole_content}
use Rattle.kmin_outputs.specs.between.LoadStops.{StopsAtPath, fragment_notices}
use Rattle.kmin_report.proofs.Lists.{map_twice}

pub notices_are : (tree : Tree) (path : List ℕ) (fragment : Fragment) (meanings : List LineMeaning) → map notice_pair fragment.notices.items ≡ notices_from 1 meanings
    → fragment_notices tree path fragment ≡ file_notices tree path meanings
notices_are tree path fragment meanings e =
    map_twice (tree_notice_line tree path) notice_pair fragment.notices.items ∙ ap (map (tree_notice_line tree path)) e

module _ (content : FileContent) (format : FileFormat) (tree : Tree) (path : List ℕ) (before after : Option (List ℕ))
    (opens : OpensAs content (Some before)) where
  -- a configuration file that was opened, read and accepted, and whose notices were reported, is loaded
  pub loaded_from : (taken taken_after : SpelledBytes) (failed failed_after : ℕ) (fragment : Fragment) → IsReadAs format tree before after fragment
      → TakesLines taken failed (fragment_notices tree path fragment) taken_after failed_after
      → IsLoaded content format tree path fragment taken failed taken_after failed_after
  loaded_from taken taken_after failed failed_after fragment r t = record {
    bytes = r.known;
    meanings = r.meanings;
    matches = whole_content content before after r.known opens r.consumed r.ended;
    accepted = r.accepted;
    means = r.has_meaning;
    users = r.users;
    noted = r.noted;
    chosen = r.chosen;
    reported = subst (λ lines. TakesLines taken failed lines taken_after failed_after) (notices_are tree path fragment r.meanings r.noted) t;
  }

  refused_sides : (strict : Bool) (bytes : List ℕ) (kind : LoadKind) (number : ℕ) → Consumes before after bytes
      → (IsAtEnd after × IsFirstFault format tree complete bytes kind number)
      ⊎ ((rest : List ℕ) → IsFirstFault format tree complete (bytes ++ rest) kind number)
      → 4 ≡ load_status kind → load_lines path number kind ≡ fault_line path number kind ∷ []
      → StopsAtPath content format strict tree path (load_status kind) (load_lines path number kind)
  refused_sides strict bytes kind number h (inl k) s l =
      at_file (refused bytes kind number (whole_content content before after bytes opens h k.0) k.1 (sym s) l)
  refused_sides strict bytes kind number h (inr k) s l =
      let w = rest_of content before after bytes opens h in
      at_file (refused (bytes ++ w.0) kind number w.1 (k w.0) (sym s) l)

  refused_file : (strict : Bool) (kind : LoadKind) (number : ℕ) → IsFileRefused format tree before after kind number
      → 4 ≡ load_status kind → load_lines path number kind ≡ fault_line path number kind ∷ []
      → StopsAtPath content format strict tree path (load_status kind) (load_lines path number kind)
  refused_file strict kind number r s l = refused_sides strict r.known kind number r.consumed r.first s l

  by_kind : (strict : Bool) (read_failed read_failed_after : ℕ) (kind : LoadKind) (number : ℕ)
      → ReportsFault format tree before after read_failed read_failed_after kind number
      → StopsAtPath content format strict tree path (load_status kind) (load_lines path number kind)
  by_kind strict f g OutOfMemory number t = for_memory refl refl
  by_kind strict f g Read number t =
      let w = rest_of content before after t.0.known opens t.0.consumed in
      at_file (unread t.0.known w.0 number w.1 t.0.first refl refl)
  by_kind strict f g Malformed number t = refused_file strict Malformed number t refl refl
  by_kind strict f g NotUtf8 number t = refused_file strict NotUtf8 number t refl refl
  by_kind strict f g LineTooLong number t = refused_file strict LineTooLong number t refl refl
  by_kind strict f g TooManyLines number t = refused_file strict TooManyLines number t refl refl
  by_kind strict f g TooLarge number t = refused_file strict TooLarge number t refl refl

  -- a configuration file that was opened, but not accepted, ends a run with the lines that were reported
  pub stopped_at : (strict : Bool) (read_failed read_failed_after status : ℕ) (taken taken_after : SpelledBytes) (failed failed_after : ℕ)
      → StopsLoad format tree path before after read_failed read_failed_after status taken failed taken_after failed_after
      → (lines : List ErrorLine) × StopsAtPath content format strict tree path status lines × TakesLines taken failed lines taken_after failed_after
  stopped_at strict f g status taken taken_after failed failed_after s = (
    load_lines path s.number s.kind,
    subst (λ n. StopsAtPath content format strict tree path n (load_lines path s.number s.kind)) (sym s.status_is)
        (by_kind strict f g s.kind s.number s.fault),
    s.reported,
  )

map_nil : {A B : Type 0} (f : A → B) (xs : List A) → map f xs ≡ [] → xs ≡ []
map_nil f [] e = refl
map_nil f (x ∷ xs) e = cc

-- a file that was read and is refused for its notices
notices_there : (fragment : Fragment) (meanings : List LineMeaning) → map notice_pair fragment.notices.items ≡ notices_from 1 meanings
    → fragment.notices.items ≢ [] → notices_from 1 meanings ≢ []
notices_there fragment meanings e h n = h (map_nil notice_pair fragment.notices.items (e ∙ n))

pub stopped_noticed : (content : FileContent) (format : FileFormat) (strict : Bool) (tree : Tree) (path : List ℕ) (fragment : Fragment) (status : ℕ)
    (taken taken_after : SpelledBytes) (failed failed_after : ℕ)
    → IsLoaded content format tree path fragment taken failed taken_after failed_after → strict ≡ true → fragment.notices.items ≢ [] → status ≡ 4
    → (lines : List ErrorLine) × StopsAtPath content format strict tree path status lines × TakesLines taken failed lines taken_after failed_after
stopped_noticed content format strict tree path fragment status taken taken_after failed failed_after l s h e = (
  file_notices tree path l.meanings,
  at_file (noticed l.bytes l.meanings l.matches l.accepted l.means (s, notices_there fragment l.meanings l.noted h) e refl),
  l.reported,
)

-- files after files
pub mean_append : (content_of : List ℕ → FileContent) (format : FileFormat) (strict : Bool) (tree : Tree) (ys : List (List ℕ)) (ns : List (List LineMeaning))
    (xs : List (List ℕ)) (ms : List (List LineMeaning))
    → FilesMean content_of format strict tree ys ns → FilesMean content_of format strict tree xs ms → FilesMean content_of format strict tree (xs ++ ys)
    (ms ++ ns)
mean_append content_of format strict tree ys ns xs ms k none = k
mean_append content_of format strict tree ys ns xs ms k (file path bytes more own rest matches accepted means allowed h) =
    file path bytes (more ++ ys) own (rest ++ ns) matches accepted means allowed (mean_append content_of format strict tree ys ns more rest k h)

pub merged_files_append : (tree : Tree) (users : List (Option UserValue)) (ms ns : List (List LineMeaning))
    → merged_files tree users (ms ++ ns) ≡ merged_files tree (merged_files tree users ms) ns
merged_files_append tree users [] ns = refl
merged_files_append tree users (m ∷ ms) ns = merged_files_append tree (merged_users (file_assignment tree m) users) ms ns

pub notices_append : (content_of : List ℕ → FileContent) (format : FileFormat) (strict : Bool) (tree : Tree) (ys : List (List ℕ)) (ns : List (List LineMeaning))
    (xs : List (List ℕ)) (ms : List (List LineMeaning))
    → FilesMean content_of format strict tree xs ms → notice_lines tree (xs ++ ys) (ms ++ ns) ≡ notice_lines tree xs ms ++ notice_lines tree ys ns
notices_append content_of format strict tree ys ns xs ms none = refl
notices_append content_of format strict tree ys ns xs ms (file path bytes more own rest matches accepted means allowed h) =
    ap (λ lines. file_notices tree path own ++ lines) (notices_append content_of format strict tree ys ns more rest h)
    ∙ sym (append_assoc (file_notices tree path own) (notice_lines tree more rest) (notice_lines tree ys ns))

unfoldable pub loaded_one : (content_of : List ℕ → FileContent) (format : FileFormat) (strict : Bool) (tree : Tree) (path : List ℕ)
    (before after : List (Option UserValue)) (fragment : Fragment) (taken taken_after : SpelledBytes) (failed failed_after : ℕ)
    → IsLoaded (content_of path) format tree path fragment taken failed taken_after failed_after
    → AllowsNotices strict (map notice_pair fragment.notices.items)
    → after ≡ merged_users (users_of tree fragment.assigns.items) before
    → AreLoaded content_of format strict tree (path ∷ []) before after taken failed taken_after failed_after
loaded_one content_of format strict tree path before after fragment taken taken_after failed failed_after l a e = record {
  meanings = l.meanings ∷ [];
  mean = file path l.bytes [] l.meanings [] l.matches l.accepted l.means (λ s. sym l.noted ∙ a s) none;
  users_are = e ∙ ap (λ users. merged_users users before) l.users;
  reported = subst (λ lines. TakesLines taken failed lines taken_after failed_after) (sym (append-nil (file_notices tree path l.meanings))) l.reported;
}

unfoldable pub loaded_append : (content_of : List ℕ → FileContent) (format : FileFormat) (strict : Bool) (tree : Tree) (xs ys : List (List ℕ))
    (before between after : List (Option UserValue)) (taken middle taken_after : SpelledBytes) (failed failed_middle failed_after : ℕ)
    → AreLoaded content_of format strict tree xs before between taken failed middle failed_middle
    → AreLoaded content_of format strict tree ys between after middle failed_middle taken_after failed_after
    → AreLoaded content_of format strict tree (xs ++ ys) before after taken failed taken_after failed_after
loaded_append content_of format strict tree xs ys before between after taken middle taken_after failed failed_middle failed_after h k = record {
  meanings = h.meanings ++ k.meanings;
  mean = mean_append content_of format strict tree ys k.meanings xs h.meanings k.mean h.mean;
  users_are = k.users_are ∙ ap (λ users. merged_files tree users k.meanings) h.users_are ∙ sym (merged_files_append tree before h.meanings k.meanings);
  reported =
      subst (λ lines. TakesLines taken failed lines taken_after failed_after)
      (sym (notices_append content_of format strict tree ys k.meanings xs h.meanings h.mean))
      (lines_append taken middle failed failed_middle _ _ taken_after failed_after h.reported k.reported);
}

-- the lists of lines of members with one more
pub lists_pushed : (old new : List (Vec ChoiceLine)) (lines : Vec ChoiceLine) → new ≡ old ++ lines ∷ [] → lists_of new ≡ lists_of old ++ lines.items ∷ []
lists_pushed old new lines e = ap lists_of e ∙ map-append (λ (l : Vec ChoiceLine). l.items) old (lines ∷ [])

-- files that are loaded, with their lines of members
module _ (content_of : List ℕ → FileContent) (format : FileFormat) (strict : Bool) (tree : Tree) where
  unfoldable pub read_one : (path : List ℕ) (before after : List (Option UserValue)) (fragment : Fragment) (lists_before lists : List (List ChoiceLine))
      (taken taken_after : SpelledBytes) (failed failed_after : ℕ)
      → IsLoaded (content_of path) format tree path fragment taken failed taken_after failed_after
      → AllowsNotices strict (map notice_pair fragment.notices.items)
      → after ≡ merged_users (users_of tree fragment.assigns.items) before → lists ≡ lists_before ++ fragment.chosen.items ∷ []
      → AreRead content_of format strict tree (path ∷ []) before after lists_before lists taken failed taken_after failed_after
  unfolding loaded_one
  read_one path before after fragment lists_before lists taken taken_after failed failed_after l a e m = record {
    loaded = loaded_one content_of format strict tree path before after fragment taken taken_after failed failed_after l a e;
    chosen_are = m ∙ ap (λ (own : List ChoiceLine). lists_before ++ own ∷ []) l.chosen;
  }

  pub read_none : (paths : List (Bor (List ℕ))) (before users : List (Option UserValue)) (lists_before lists : List (List ChoiceLine)) (taken : SpelledBytes) (failed : ℕ)
      → length paths ≡ 0 → users ≡ before → lists ≡ lists_before
      → AreRead content_of format strict tree (map (λ (path : Bor (List ℕ)). path.now) paths) before users lists_before lists taken failed taken failed
  read_none paths before users lists_before lists taken failed n e m =
      rw (nil_from_length paths n)
      (record { loaded = record { meanings = []; mean = none; users_are = e; reported = taking.none }; chosen_are = m ∙ sym (append-nil lists_before) })

  unfoldable pub read_append : (xs ys : List (List ℕ)) (before between after : List (Option UserValue)) (lists_before lists_between lists : List (List ChoiceLine))
      (taken middle taken_after : SpelledBytes) (failed failed_middle failed_after : ℕ)
      → AreRead content_of format strict tree xs before between lists_before lists_between taken failed middle failed_middle
      → AreRead content_of format strict tree ys between after lists_between lists middle failed_middle taken_after failed_after
      → AreRead content_of format strict tree (xs ++ ys) before after lists_before lists taken failed taken_after failed_after
  unfolding loaded_append
  read_append xs ys before between after lists_before lists_between lists taken middle taken_after failed failed_middle failed_after h k = record {
    loaded = loaded_append content_of format strict tree xs ys before between after taken middle taken_after failed failed_middle failed_after h.loaded k.loaded;
    chosen_are =
        k.chosen_are ∙ ap (λ (l : List (List ChoiceLine)). l ++ map (choice_lines_from 1) k.loaded.meanings) h.chosen_are
        ∙ append_assoc lists_before (map (choice_lines_from 1) h.loaded.meanings) (map (choice_lines_from 1) k.loaded.meanings)
        ∙ ap (λ (l : List (List ChoiceLine)). lists_before ++ l) (sym (map-append (choice_lines_from 1) h.loaded.meanings k.loaded.meanings));
  }

  pub read_rest : (xs ys all : List (List ℕ)) (before between : List (Option UserValue)) (lists_before lists_between : List (List ChoiceLine))
      (taken middle taken_after : SpelledBytes) (failed failed_middle failed_after : ℕ) (r : Result ReadFiles RunError)
      → all ≡ xs ++ ys → AreRead content_of format strict tree xs before between lists_before lists_between taken failed middle failed_middle
      → IfOk r (λ read. AreRead content_of format strict tree ys between read.config.users lists_between (lists_of read.chosen.items) middle failed_middle taken_after failed_after)
      → IfOk r (λ read. AreRead content_of format strict tree all before read.config.users lists_before (lists_of read.chosen.items) taken failed taken_after failed_after)
  read_rest xs ys all before between lists_before lists_between taken middle taken_after failed failed_middle failed_after (Err e) s h k = tt
  read_rest xs ys all before between lists_before lists_between taken middle taken_after failed failed_middle failed_after (Ok read) s h k =
      rw s (read_append xs ys before between read.config.users lists_before lists_between (lists_of read.chosen.items) taken middle taken_after failed
      failed_middle failed_after h k)

-- at the one file of these
path_stops : (content_of : List ℕ → FileContent) (format : FileFormat) (strict : Bool) (tree : Tree) (path : List ℕ) (status : ℕ) (lines : List ErrorLine)
    → StopsAtPath (content_of path) format strict tree path status lines → StopsAmongFiles content_of format strict tree (path ∷ []) status lines
path_stops content_of format strict tree path status lines (at_file s) = stops.at_file [] [] path lines [] refl none s refl
path_stops content_of format strict tree path status lines (for_memory s e) = stops.for_memory [] (path ∷ []) [] refl none s e

-- with more files after these
more_stops : (content_of : List ℕ → FileContent) (format : FileFormat) (strict : Bool) (tree : Tree) (xs more : List (List ℕ)) (status : ℕ)
    (lines : List ErrorLine)
    → StopsAmongFiles content_of format strict tree xs status lines → StopsAmongFiles content_of format strict tree (xs ++ more) status lines
more_stops content_of format strict tree xs more status lines (stops.at_file front back path own meanings p m s e) =
    stops.at_file front (back ++ more) path own meanings (ap (λ ps. ps ++ more) p ∙ append_assoc front (path ∷ back) more) m s e
more_stops content_of format strict tree xs more status lines (stops.for_memory front back meanings p m s e) =
    stops.for_memory front (back ++ more) meanings (ap (λ ps. ps ++ more) p ∙ append_assoc front back more) m s e

-- after files that were accepted
later_stops : (content_of : List ℕ → FileContent) (format : FileFormat) (strict : Bool) (tree : Tree) (xs ys : List (List ℕ))
    (ms : List (List LineMeaning)) (status : ℕ) (lines : List ErrorLine)
    → FilesMean content_of format strict tree xs ms
    → StopsAmongFiles content_of format strict tree ys status lines → StopsAmongFiles content_of format strict tree (xs ++ ys) status (notice_lines tree xs ms ++ lines)
later_stops content_of format strict tree xs ys ms status lines h (stops.at_file front back path own meanings p m s e) =
    stops.at_file (xs ++ front) back path own (ms ++ meanings) (ap (λ ps. xs ++ ps) p ∙ sym (append_assoc xs front (path ∷ back)))
    (mean_append content_of format strict tree front meanings xs ms m h) s
    (ap (λ ls. notice_lines tree xs ms ++ ls) e ∙ sym (append_assoc (notice_lines tree xs ms) (notice_lines tree front meanings) own)
    ∙ ap (λ ls. ls ++ own) (sym (notices_append content_of format strict tree front meanings xs ms h)))
later_stops content_of format strict tree xs ys ms status lines h (stops.for_memory front back meanings p m s e) =
    stops.for_memory (xs ++ front) back (ms ++ meanings) (ap (λ ps. xs ++ ps) p ∙ sym (append_assoc xs front back))
    (mean_append content_of format strict tree front meanings xs ms m h) s
    (ap (λ ls. notice_lines tree xs ms ++ ls) e ∙ sym (notices_append content_of format strict tree front meanings xs ms h))

module _ (content_of : List ℕ → FileContent) (format : FileFormat) (strict : Bool) (tree : Tree) (status : ℕ) (taken : SpelledBytes) (failed : ℕ)
    (taken_after : SpelledBytes) (failed_after : ℕ) where
  pub stopped_path : (path : List ℕ)
      → (lines : List ErrorLine) × StopsAtPath (content_of path) format strict tree path status lines × TakesLines taken failed lines taken_after failed_after
      → (lines : List ErrorLine) × StopsAmongFiles content_of format strict tree (path ∷ []) status lines
      × TakesLines taken failed lines taken_after failed_after
  stopped_path path h = (h.0, path_stops content_of format strict tree path status h.0 h.1, h.2)

  pub stopped_more : (xs more all : List (List ℕ)) → all ≡ xs ++ more
      → (lines : List ErrorLine) × StopsAmongFiles content_of format strict tree xs status lines × TakesLines taken failed lines taken_after failed_after
      → (lines : List ErrorLine) × StopsAmongFiles content_of format strict tree all status lines × TakesLines taken failed lines taken_after failed_after
  stopped_more xs more all e h = (h.0, rw e (more_stops content_of format strict tree xs more status h.0 h.1), h.2)

  pub stopped_later : (xs ys all : List (List ℕ)) (before users : List (Option UserValue)) (middle : SpelledBytes) (failed_middle : ℕ) → all ≡ xs ++ ys
      → AreLoaded content_of format strict tree xs before users taken failed middle failed_middle
      → (lines : List ErrorLine) × StopsAmongFiles content_of format strict tree ys status lines × TakesLines middle failed_middle lines taken_after failed_after
      → (lines : List ErrorLine) × StopsAmongFiles content_of format strict tree all status lines × TakesLines taken failed lines taken_after failed_after
  stopped_later xs ys all before users middle failed_middle e l h = (
    notice_lines tree xs l.meanings ++ h.0,
    rw e (later_stops content_of format strict tree xs ys l.meanings status h.0 l.mean h.1),
    lines_append taken middle failed failed_middle _ _ taken_after failed_after l.reported h.2,
  )

  pub stopped_for_memory : (xs more all : List (List ℕ)) (before users : List (Option UserValue)) → all ≡ xs ++ more → status ≡ 6
      → AreLoaded content_of format strict tree xs before users taken failed taken_after failed_after
      → (lines : List ErrorLine) × StopsAmongFiles content_of format strict tree all status lines × TakesLines taken failed lines taken_after failed_after
  stopped_for_memory xs more all before users e s l = (notice_lines tree xs l.meanings, stops.for_memory xs more l.meanings e l.mean s refl, l.reported)

pub mapped : (paths : List (Bor (List ℕ))) (first : Bor (List ℕ)) (rest : List (Bor (List ℕ))) → paths ≡ first ∷ rest
    → map (λ (path : Bor (List ℕ)). path.now) paths ≡ (first.now ∷ []) ++ map (λ (path : Bor (List ℕ)). path.now) rest
mapped paths first rest e = ap (map (λ (path : Bor (List ℕ)). path.now)) e
