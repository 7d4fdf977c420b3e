-- Files that agree on all paths that a reading meets are read alike.
use Rattle.kc_expansion.proofs.Common.{◌≡◌, ℕ, zero, suc, ◌+◌, Bool, true, false, ◌||◌, cond, List, [], ◌∷◌, Option, Some, None, Result, Ok, Err, refl, ap, sym, ◌∙◌, subst, length, bytes_eq, filter_map, is_some, nat_lt, sum_by, cons_option, nat_list_eq_equiv, MAX_TREE_BYTES}
use Rattle.kc_expansion.proofs.Common.{MAX_OPEN_FILES, Language, TreeKind, TreeFault, Block, file_at, index_of_file, LogicalLine, Statement, head, attribute, path_of_head, Group, Position, sourced_path, file_end, innermost, is_in_list, FileSource, size_in, files_read}
use Rattle.kc_expansion.proofs.Common.{open_files, with_statement, with_group, path_to_read, at_file_end, continue_after_file, continue_after_source, continue_after_statement, continue_after_line, read_lines, read_root, returned, paths_read, text_of_key}
use Rattle.std.specs.List.{fold, AllByRecursion}
use Rattle.kc_tree_model.specs.LogicalLines.{lines_of}
use Rattle.kc_tree_model.specs.Limits.{bytes_in, source_fault}
use Rattle.kc_tree_model.specs.SourceFaults.{fault_of_source}
use Rattle.kc_tree_model.specs.declared.source_faults.TheConstants.{TREE_KINDS}
use Rattle.kc_tree_model.specs.TreeReading.{statement_on_line, Outcome, read_file, reading}
use Rattle.kc_macros_model.specs.Worlds.{expansion}
use Rattle.kc_expansion.specs.TreeLaws.{IsGivenBack, ReadingsStay}
use Rattle.kc_expansion.proofs.AcceptedTrees.{accepted_trees_stay, unfolded_none}

-- a reading without a fault has none in a part of it
part_none : (p : List Group → Outcome) (at : Position) (o : Outcome) (k : Option TreeFault) → o.fault ≡ k → (continue_after_file p at o k).fault ≡ None
    → o.fault ≡ None
part_none p at o (Some f) e h = h
part_none p at o None e h = e

end_read : (file : ℕ) (read : List Group) (o : Option (Group × Block)) → (at_file_end file read o).read ≡ read
end_read file read None = refl
end_read file read (Some o) = refl

module _ (language : Language) (known other : List ℕ → Option (List ℕ)) (number : List ℕ → ℕ) (root : List ℕ) where
  abbrev first : FileSource
  first = record { language = language; bytes = known; number = number; root = root }

  abbrev second : FileSource
  second = record { language = language; bytes = other; number = number; root = root }

  abbrev IsSame : List ℕ → Type 0
  IsSame path = other path ≡ known path

  abbrev AreSame : List Group → Type 0
  AreSame read = AllByRecursion IsSame (filter_map sourced_path read)

  same_bytes : (path : List ℕ) → IsSame path → bytes_in second path ≡ bytes_in first path
  same_bytes path h = ap (λ o. elim o as (λ _. List ℕ) [ None ↦ [] | Some bytes ↦ bytes ]) h

  same_folds : (paths : List (List ℕ)) (n : ℕ) → AllByRecursion IsSame paths → fold (λ a x. a + size_in second x) n paths
      ≡ fold (λ a x. a + size_in first x) n paths
  same_folds [] n all = refl
  same_folds (path ∷ paths) n all = ap (λ k. fold (λ a x. a + size_in second x) (n + k) paths) (ap length (same_bytes path all.0))
      ∙ same_folds paths (n + size_in first path) all.1

  same_sizes : (paths : List (List ℕ)) → AllByRecursion IsSame paths → sum_by (size_in second) paths ≡ sum_by (size_in first) paths
  same_sizes paths all = same_folds paths 0 all

  same_fault : (read : List Group) (path : List ℕ) → IsSame root → AreSame read → IsSame path → source_fault second read path ≡ source_fault first read path
  unfolding source_fault
  same_fault read path r all h =
      ap (λ o. fault_by (is_some o) (sum_by (size_in second) (files_read first read) + length (elim o as (λ _. List ℕ) [ None ↦ [] | Some bytes ↦ bytes ]))) h
      ∙ ap (λ n. fault_by (is_some (known path)) (n + size_in first path)) (same_sizes (files_read first read) (r, all))
    where
      fault_by : Bool → ℕ → Option TreeKind
      fault_by there size =
          fault_of_source TREE_KINDS (is_in_list path (open_files first read)) there (length (open_files first read)) (length (files_read first read)) size

  -- what was read before is read after
  abbrev GoesUp : (List Group → Outcome) → Type 0
  GoesUp f = (read : List Group) → (f read).fault ≡ None → AreSame (f read).read → AreSame read

  same_before : (o : Option (List ℕ)) (paths : List (List ℕ)) → AllByRecursion IsSame (cons_option o paths) → AllByRecursion IsSame paths
  same_before None paths all = all
  same_before (Some path) paths all = all.1

  statement_up : (at : Position) (s : Option Statement) (read : List Group) → AreSame (with_statement at s read) → AreSame read
  statement_up at None read all = all
  statement_up at (Some (head h)) read all = same_before (path_of_head h) (filter_map sourced_path read) all
  statement_up at (Some (attribute a)) [] all = all
  statement_up at (Some (attribute a)) (g ∷ before) all = all

  path_same : (at : Position) (s : Option Statement) (path : List ℕ) (read : List Group) → path_to_read s ≡ Some path → AreSame (with_statement at s read)
      → IsSame path
  path_same at None path read e all = let z : ⊥ = cc in absurd z
  path_same at (Some (attribute a)) path read e all = let z : ⊥ = cc in absurd z
  path_same at (Some (head h)) path read e all = (subst (λ o. AllByRecursion IsSame (cons_option o (filter_map sourced_path read))) e all).0

  module _ (f : List ℕ → List Group → Outcome) (ups : (path : List ℕ) → GoesUp (f path)) where
    file_up : (p : List Group → Outcome) (at : Position) (o : Outcome) (k : Option TreeFault) → GoesUp p → o.fault ≡ k
        → (continue_after_file p at o k).fault ≡ None → AreSame (continue_after_file p at o k).read → AreSame o.read
    file_up p at o (Some t) up e h all = all
    file_up p at o None up e h all = up (with_group at file_end o.read) h all

    source_up : (p : List Group → Outcome) (at : Position) (path : List ℕ) (read : List Group) (k : Option TreeKind) → GoesUp p
        → (continue_after_source f p at path read k).fault ≡ None → AreSame (continue_after_source f p at path read k).read → AreSame read
    source_up p at path read (Some k) up h all = let z : ⊥ = cc in absurd z
    source_up p at path read None up h all =
        let o = f path read in ups path read (part_none p at o o.fault refl h) (file_up p at o o.fault up refl h all)

    path_up : (p : List Group → Outcome) (at : Position) (read : List Group) (s : Option Statement) (path : Option (List ℕ)) → GoesUp p
        → (continue_after_statement f p first at read s path).fault ≡ None → AreSame (continue_after_statement f p first at read s path).read
        → AreSame (with_statement at s read)
    path_up p at read s None up h all = up (with_statement at s read) h all
    path_up p at read s (Some path) up h all = source_up p at path (with_statement at s read) (source_fault first read path) up h all

    line_up : (p : List Group → Outcome) (at : Position) (read : List Group) (x : Result (Option Statement) TreeKind) → GoesUp p
        → (continue_after_line f p first at read x).fault ≡ None → AreSame (continue_after_line f p first at read x).read → AreSame read
    line_up p at read (Err k) up h all = let z : ⊥ = cc in absurd z
    line_up p at read (Ok s) up h all = statement_up at s read (path_up p at read s (path_to_read s) up h all)

    lines_up : (file : ℕ) (ls : List LogicalLine) → GoesUp (read_lines f first file ls)
    lines_up file [] = λ read h all. subst AreSame (end_read file read (innermost read)) all
    lines_up file (l ∷ ls) = λ read h all. line_up (read_lines f first file ls) (record { file = file; line = l.number }) read
        (statement_on_line language read l) (lines_up file ls) h all

  whole_up : (n : ℕ) (path : List ℕ) → GoesUp (read_file n first path)
  whole_up zero path = λ read h all. all
  whole_up (suc n) path = lines_up (read_file n first) (λ p. whole_up n p) (number path) (lines_of (bytes_in first path))

  -- readings of files that agree
  abbrev GoesSame : (f g : List Group → Outcome) → Type 0
  GoesSame f g = (read : List Group) → (f read).fault ≡ None → AreSame (f read).read → g read ≡ f read

  module _ (root_same : IsSame root) (f g : List ℕ → List Group → Outcome) (ups : (path : List ℕ) → GoesUp (f path))
      (subs : (path : List ℕ) → IsSame path → GoesSame (f path) (g path)) where
    file_same : (p q : List Group → Outcome) (at : Position) (o : Outcome) (k : Option TreeFault) → GoesSame p q → (continue_after_file p at o k).fault ≡ None
        → AreSame (continue_after_file p at o k).read → continue_after_file q at o k ≡ continue_after_file p at o k
    file_same p q at o (Some t) same h all = refl
    file_same p q at o None same h all = same (with_group at file_end o.read) h all

    source_same : (p q : List Group → Outcome) (at : Position) (path : List ℕ) (read : List Group) (k : Option TreeKind) → GoesUp p → GoesSame p q → IsSame path
        → (continue_after_source f p at path read k).fault ≡ None
        → AreSame (continue_after_source f p at path read k).read → continue_after_source g q at path read k ≡ continue_after_source f p at path read k
    source_same p q at path read (Some k) up same here h all = refl
    source_same p q at path read None up same here h all =
        let o = f path read in
        ap (λ (x : Outcome). continue_after_file q at x x.fault) (subs path here read (part_none p at o o.fault refl h)
        (file_up f ups p at o o.fault up refl h all))
        ∙ file_same p q at o o.fault same h all

    statement_same : (p q : List Group → Outcome) (at : Position) (read : List Group) (s : Option Statement) (path : Option (List ℕ)) → path_to_read s ≡ path
        → GoesUp p → GoesSame p q → (continue_after_statement f p first at read s path).fault ≡ None
        → AreSame (continue_after_statement f p first at read s path).read → continue_after_statement g q second at read s path
        ≡ continue_after_statement f p first at read s path
    statement_same p q at read s None e up same h all = same (with_statement at s read) h all
    statement_same p q at read s (Some path) e up same h all =
        let met = path_up f ups p at read s (Some path) up h all in
        let here = path_same at s path read e met in
        ap (continue_after_source g q at path (with_statement at s read)) (same_fault read path root_same (statement_up at s read met) here)
        ∙ source_same p q at path (with_statement at s read) (source_fault first read path) up same here h all

    line_same : (p q : List Group → Outcome) (at : Position) (read : List Group) (x : Result (Option Statement) TreeKind) → GoesUp p → GoesSame p q
        → (continue_after_line f p first at read x).fault ≡ None → AreSame (continue_after_line f p first at read x).read
        → continue_after_line g q second at read x ≡ continue_after_line f p first at read x
    line_same p q at read (Err k) up same h all = let z : ⊥ = cc in absurd z
    line_same p q at read (Ok s) up same h all = statement_same p q at read s (path_to_read s) refl up same h all

    lines_same : (file : ℕ) (ls : List LogicalLine) → GoesSame (read_lines f first file ls) (read_lines g second file ls)
    lines_same file [] = λ read h all. refl
    lines_same file (l ∷ ls) = λ read h all.
        line_same (read_lines f first file ls) (read_lines g second file ls) (record { file = file; line = l.number }) read (statement_on_line language read l)
        (lines_up f ups file ls) (lines_same file ls) h all

  whole_same : IsSame root → (n : ℕ) (path : List ℕ) → IsSame path → GoesSame (read_file n first path) (read_file n second path)
  whole_same root_same zero path here = λ read h all. refl
  whole_same root_same (suc n) path here =
      subst (λ text. GoesSame (read_file (suc n) first path) (read_lines (read_file n second) second (number path) (lines_of text)))
      (sym (same_bytes path here))
      (lines_same root_same (read_file n first) (read_file n second) (λ p. whole_up n p) (λ p e. whole_same root_same n p e) (number path)
      (lines_of (bytes_in first path)))

  either_same : (large : Bool) (x y z : Outcome) → (z.fault ≡ None → AreSame z.read → y ≡ z) → (cond large x z).fault ≡ None → AreSame (cond large x z).read
      → cond large x y ≡ cond large x z
  either_same true x y z f h all = refl
  either_same false x y z f h all = f h all

  root_same : (o : Option (List ℕ)) → known root ≡ o → IsSame root → (read_root first o).fault ≡ None → AreSame (read_root first o).read
      → read_root second (other root) ≡ read_root first o
  root_same None e here h all = let z : ⊥ = cc in absurd z
  root_same (Some text) e here h all =
      ap (read_root second) (here ∙ e)
      ∙ either_same (nat_lt MAX_TREE_BYTES (length text)) _ (read_file MAX_OPEN_FILES second root []) (read_file MAX_OPEN_FILES first root [])
      (λ h all. whole_same here MAX_OPEN_FILES root here [] h all) h all

  -- what holds of each path of a list
  all_listed : (paths : List (List ℕ)) → ((path : List ℕ) → is_in_list path paths ≡ true → IsSame path) → AllByRecursion IsSame paths
  all_listed [] f = tt
  all_listed (p ∷ ps) f = (
    f p (ap (λ b. b || is_in_list p ps) (nat_list_eq_equiv.refl p)),
    all_listed ps
        (λ path e. f path (either (bytes_eq p path) (is_in_list path ps) e)),
  )
    where
      either : (a b : Bool) → b ≡ true → (a || b) ≡ true
      either true b e = refl
      either false b e = e

-- the reader reads the expanded files of a tree that it accepts just as it reads the tree itself
pub readings_stay : ReadingsStay
unfolding reading
readings_stay w files root expanded accepted among ending =
    let g : IsGivenBack files root (expansion w root) = accepted_trees_stay w files root accepted among in
    let same : g.expanded ≡ expanded = (let e : returned g.expanded ≡ returned expanded = sym g.ending ∙ ending in cc) in
    let all = all_listed files.language (file_at files) (text_of_key expanded) (index_of_file files) root (paths_read files root)
    (λ path e. ap (λ fs. text_of_key fs path) (sym same) ∙ g.texts path ∙ ap (λ b. cond b (file_at files path) None) e) in
    root_same files.language (file_at files) (text_of_key expanded) (index_of_file files) root (file_at files root) refl all.0
    (unfolded_none w files root among accepted) all.1
