-- Files that a reading doesn't meet change nothing.
use Rattle.std.proofs.Common.{◌≢◌}
use Rattle.kc_tree_model.proofs.Common.{◌≡◌, ℕ, zero, suc, ◌+◌, Bool, true, false, not, cond, List, [], ◌∷◌, Option, Some, None, Result, Ok, Err, refl, ap, sym, ◌∙◌, subst, length, filter_map, is_some, nat_lt, sum_by, cons_option, AllByRecursion, Language, TreeKind, MissingFile, SourceLoop}
use Rattle.kc_tree_model.proofs.Common.{TreeFault, LogicalLine, Statement, head, attribute, path_of_head, Block, Group, Position, sourced_path, file_end, innermost, FileSource, bytes_in, size_in, files_read, open_files, is_in_list, MAX_TREE_BYTES, MAX_OPEN_FILES, with_statement, with_group}
use Rattle.kc_tree_model.proofs.Common.{path_to_read, Outcome, at_file_end, continue_after_file, continue_after_source, continue_after_statement, continue_after_line, read_lines, read_file, read_root}
use Rattle.std.specs.List.{fold}
use Rattle.kc_tree_model.specs.LogicalLines.{lines_of}
use Rattle.kc_tree_model.specs.Limits.{source_fault}
use Rattle.kc_tree_model.specs.TreeReading.{statement_on_line}
use Rattle.kc_tree_model.specs.MoreFiles.{LacksNoFile, AreAmong, MoreFilesChangeNothing}

-- a source without a fault of its own is there
passed : (loop there : Bool) (rest : Option TreeKind) → cond loop (Some SourceLoop) (cond (not there) (Some MissingFile) rest) ≡ None → there ≡ true
passed true there rest e = cc
passed false true rest e = refl
passed false false rest e = cc

-- an absent file is a loop or missing
absent : (loop : Bool) (rest : Option TreeKind) → cond loop (Some SourceLoop) (Some MissingFile) ≢ Some MissingFile
    → cond loop (Some SourceLoop) rest ≡ cond loop (Some SourceLoop) (Some MissingFile)
absent true rest h = refl
absent false rest h = absurd (h refl)

-- a file without a fault after these
sub_lacks : (rest : List Group → Outcome) (at : Position) (o : Outcome) (k : Option TreeFault) → o.fault ≡ k → LacksNoFile (continue_after_file rest at o k)
    → LacksNoFile o
sub_lacks rest at o (Some fault) e lacks = lacks
sub_lacks rest at o None e lacks = λ f h. (let z : Some f ≡ None = sym h ∙ e in cc)

kind_lacks : (sub : List ℕ → List Group → Outcome) (rest : List Group → Outcome) (at : Position) (path : List ℕ) (read : List Group) (k : Option TreeKind)
    → LacksNoFile (continue_after_source sub rest at path read k) → k ≢ Some MissingFile
kind_lacks sub rest at path read None lacks = λ e. cc
kind_lacks sub rest at path read (Some kind) lacks = λ e. lacks _ refl (let z : kind ≡ MissingFile = cc in z)

module _ (language : Language) (bytes more : List ℕ → Option (List ℕ)) (number : List ℕ → ℕ) (root : List ℕ) (among : AreAmong bytes more) where
  -- the two readings
  abbrev few : FileSource
  few = record { language = language; bytes = bytes; number = number; root = root }

  abbrev many : FileSource
  many = record { language = language; bytes = more; number = number; root = root }

  abbrev IsThere : List ℕ → Type 0
  IsThere path = is_some (bytes path) ≡ true

  bytes_by : (path : List ℕ) (o : Option (List ℕ)) → bytes path ≡ o → is_some o ≡ true → bytes_in few path ≡ bytes_in many path
  bytes_by path None e h = cc
  bytes_by path (Some text) e h = rw (e, among path text e) refl

  same_bytes : (path : List ℕ) → IsThere path → bytes_in few path ≡ bytes_in many path
  same_bytes path h = bytes_by path (bytes path) refl h

  same_folds : (paths : List (List ℕ)) (n : ℕ) → AllByRecursion IsThere paths → fold (λ a x. a + size_in few x) n paths
      ≡ fold (λ a x. a + size_in many x) n paths
  same_folds [] n all = refl
  same_folds (path ∷ paths) n all =
      ap (λ k. fold (λ a x. a + size_in few x) (n + k) paths) (ap length (same_bytes path all.0)) ∙ same_folds paths (n + size_in many path) all.1

  same_sizes : (paths : List (List ℕ)) → AllByRecursion IsThere paths → sum_by (size_in few) paths ≡ sum_by (size_in many) paths
  same_sizes paths all = same_folds paths 0 all

  -- each file that was sourced is there
  abbrev AreThere : List Group → Type 0
  AreThere read = AllByRecursion IsThere (filter_map sourced_path read)

  fault_by : (read : List Group) (path : List ℕ) (o : Option (List ℕ)) → bytes path ≡ o → IsThere root → AreThere read
      → source_fault few read path ≢ Some MissingFile → source_fault many read path ≡ source_fault few read path
  unfolding source_fault
  fault_by read path None e first there lacks = rw e (absent (is_in_list path (open_files few read)) _ (rw e at lacks))
  fault_by read path (Some text) e first there lacks = rw (e, among path text e, same_sizes (files_read few read) (first, there)) refl

  same_fault : (read : List Group) (path : List ℕ) → IsThere root → AreThere read → source_fault few read path ≢ Some MissingFile
      → source_fault many read path ≡ source_fault few read path
  same_fault read path first there lacks = fault_by read path (bytes path) refl first there lacks

  there_unless_fault : (read : List Group) (path : List ℕ) → source_fault few read path ≡ None → IsThere path
  unfolding source_fault
  there_unless_fault read path e = passed (is_in_list path (open_files few read)) (is_some (bytes path)) _ e

  -- one reading goes on as the other, and each file that it sourced is there
  abbrev IsSame : (o p : Outcome) → Type 0
  IsSame o p = (p ≡ o) × (o.fault ≡ None → AreThere o.read)

  abbrev GoesOnAs : (f g : List Group → Outcome) → Type 0
  GoesOnAs f g = (read : List Group) → AreThere read → LacksNoFile (f read) → IsSame (f read) (g read)

  more_there : (o : Option (List ℕ)) (paths : List (List ℕ)) → o ≡ None → AllByRecursion IsThere paths → AllByRecursion IsThere (cons_option o paths)
  more_there None paths e all = all
  more_there (Some path) paths e all = cc

  there_by_line : (read : List Group) (at : Position) (s : Option Statement) → path_to_read s ≡ None → AreThere read → AreThere (with_statement at s read)
  there_by_line read at None e all = all
  there_by_line read at (Some (head h)) e all = more_there (path_of_head h) (filter_map sourced_path read) e all
  there_by_line [] at (Some (attribute a)) e all = all
  there_by_line (g ∷ before) at (Some (attribute a)) e all = all

  there_by_source : (read : List Group) (at : Position) (s : Option Statement) (path : List ℕ) → path_to_read s ≡ Some path → IsThere path → AreThere read
      → AreThere (with_statement at s read)
  there_by_source read at None path e one all = cc
  there_by_source read at (Some (attribute a)) path e one all = cc
  there_by_source read at (Some (head h)) path e one all = subst (λ o. AllByRecursion IsThere (cons_option o (filter_map sourced_path read))) (sym e) (one, all)

  module _ (first : IsThere root) (f g : List ℕ → List Group → Outcome) (subs : (path : List ℕ) → IsThere path → GoesOnAs (f path) (g path)) where
    after_file : (p q : List Group → Outcome) (at : Position) (o : Outcome) (k : Option TreeFault) → o.fault ≡ k → GoesOnAs p q
        → (o.fault ≡ None → AreThere o.read)
        → LacksNoFile (continue_after_file p at o k) → IsSame (continue_after_file p at o k) (continue_after_file q at o k)
    after_file p q at o (Some fault) e same there lacks = (refl, there)
    after_file p q at o None e same there lacks = same (with_group at file_end o.read) (there e) lacks

    after_source : (p q : List Group → Outcome) (at : Position) (path : List ℕ) (read : List Group) (k : Option TreeKind) → GoesOnAs p q
        → (k ≡ None → IsThere path × AreThere read)
        → LacksNoFile (continue_after_source f p at path read k) → IsSame (continue_after_source f p at path read k) (continue_after_source g q at path read k)
    after_source p q at path read (Some kind) same there lacks = (refl, λ e. cc)
    after_source p q at path read None same there lacks =
        let sub = subs path (there refl).0 read (there refl).1 (sub_lacks p at (f path read) (f path read).fault refl lacks) in
        let after = after_file p q at (f path read) (f path read).fault refl same sub.1 lacks in
        (ap (λ (o : Outcome). continue_after_file q at o o.fault) sub.0 ∙ after.0, after.1)

    after_statement : (p q : List Group → Outcome) (at : Position) (read : List Group) (s : Option Statement) (path : Option (List ℕ)) → path_to_read s ≡ path
        → GoesOnAs p q → AreThere read
        → LacksNoFile (continue_after_statement f p few at read s path) → IsSame (continue_after_statement f p few at read s path)
        (continue_after_statement g q many at read s path)
    after_statement p q at read s None e same there lacks = same (with_statement at s read) (there_by_line read at s e there) lacks
    after_statement p q at read s (Some path) e same there lacks =
        let k = source_fault few read path in
        let after = after_source p q at path (with_statement at s read) k same
        (λ none. (let one = there_unless_fault read path none in (one, there_by_source read at s path e one there))) lacks in (
          ap (continue_after_source g q at path (with_statement at s read))
              (same_fault read path first there (kind_lacks f p at path (with_statement at s read) k lacks)) ∙ after.0,
          after.1,
        )

    after_line : (p q : List Group → Outcome) (at : Position) (read : List Group) (x : Result (Option Statement) TreeKind) → GoesOnAs p q → AreThere read
        → LacksNoFile (continue_after_line f p few at read x) → IsSame (continue_after_line f p few at read x) (continue_after_line g q many at read x)
    after_line p q at read (Err kind) same there lacks = (refl, λ e. cc)
    after_line p q at read (Ok s) same there lacks = after_statement p q at read s (path_to_read s) refl same there lacks

    there_at_end : (file : ℕ) (read : List Group) (k : Option (Group × Block)) → AreThere read → AreThere (at_file_end file read k).read
    there_at_end file read None all = all
    there_at_end file read (Some k) all = all

    after_lines : (file : ℕ) (ls : List LogicalLine) → GoesOnAs (read_lines f few file ls) (read_lines g many file ls)
    after_lines file [] = λ read there lacks. (refl, λ e. there_at_end file read (innermost read) there)
    after_lines file (l ∷ ls) = λ read there lacks.
        after_line (read_lines f few file ls) (read_lines g many file ls) (record { file = file; line = l.number }) read (statement_on_line language read l)
        (after_lines file ls) there lacks

  same_file : IsThere root → (n : ℕ) (path : List ℕ) → IsThere path → GoesOnAs (read_file n few path) (read_file n many path)
  same_file first zero path here = λ read there lacks. (refl, λ e. there)
  same_file first (suc n) path here =
      subst (λ text. GoesOnAs (read_file (suc n) few path) (read_lines (read_file n many) many (number path) (lines_of text))) (same_bytes path here)
      (after_lines first (read_file n few) (read_file n many) (same_file first n) (number path) (lines_of (bytes_in few path)))

  either_same : (large : Bool) (x y z : Outcome) → (LacksNoFile z → y ≡ z) → LacksNoFile (cond large x z) → cond large x y ≡ cond large x z
  either_same true x y z h lacks = refl
  either_same false x y z h lacks = h lacks

  root_by : (o : Option (List ℕ)) → bytes root ≡ o → LacksNoFile (read_root few o) → read_root many (more root) ≡ read_root few o
  root_by None e lacks = absurd (lacks _ refl refl)
  root_by (Some text) e lacks =
      let first : IsThere root = ap is_some e in
      ap (read_root many) (among root text e)
      ∙ either_same (nat_lt MAX_TREE_BYTES (length text)) _ (read_file MAX_OPEN_FILES many root []) (read_file MAX_OPEN_FILES few root [])
      (λ l. (same_file first MAX_OPEN_FILES root first [] tt l).0) lacks

pub more_files : MoreFilesChangeNothing
more_files language bytes more number root among lacks = root_by language bytes more number root among (bytes root) refl lacks
