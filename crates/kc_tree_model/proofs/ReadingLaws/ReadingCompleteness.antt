-- What the relation gives is what is read.
use Rattle.kc_tree_model.proofs.Common.{◌≡◌, ◌≤◌, ◌+◌, ℕ, zero, suc, cond, List, [], ◌∷◌, Option, Some, None, refl, ap, sym, ◌∙◌, length, arith, lt-ltb, MAX_TREE_BYTES, MAX_OPEN_FILES, TreeKind, TooMany, TreeFault, LogicalLine, source, head, Group, Position, of_head, FileSource, bytes_in}
use Rattle.kc_tree_model.proofs.Common.{with_group, Outcome, ended_by_fault, at_file_end, continue_after_file, continue_after_source, continue_after_statement, continue_after_line, read_lines, read_file, read_root, reading_from, Appends, nothing, statement, SourcesPath, SourcesLines}
use Rattle.kc_tree_model.proofs.Common.{place, IsRead, at_end, line, sourced, ComesTo, here, past_line, past_file, into_file, FaultAt, of_line, of_source, of_end, HasFirstFile, IsWholeReading, IsCutReading, no_file, large_file, comes_to_fault}
use Rattle.std.proofs.lemmas.Bool.{le-ltb}
use Rattle.kc_tree_model.specs.LogicalLines.{lines_of}
use Rattle.kc_tree_model.specs.Limits.{source_fault}
use Rattle.kc_tree_model.specs.TreeReading.{statement_on_line}
use Rattle.kc_tree_model.proofs.LineLaws.LogicalLines.{lines_are_so}
use Rattle.kc_tree_model.proofs.NestedTrees.FileCoverage.{each_file_read}
use Rattle.kc_tree_model.proofs.ReadingLaws.LineFaults.{line_of_nothing, line_of_statement, line_of_fault}

pub bytes_by : (o : Option (List ℕ)) (bytes : List ℕ) → o ≡ Some bytes → elim o as (λ _. List ℕ) [ None ↦ [] | Some text ↦ text ] ≡ bytes
bytes_by None bytes e = cc
bytes_by (Some text) bytes e = cc

module _ (r : FileSource) where
  -- a line that appends
  appended : (sub : List ℕ → List Group → Outcome) (rest : List Group → Outcome) (at : Position) (l : LogicalLine) (read next : List Group)
      → Appends r at l read next
      → continue_after_line sub rest r at read (statement_on_line r.language read l) ≡ rest next
  appended sub rest at l read next (nothing faultless none) = ap (continue_after_line sub rest r at read) (line_of_nothing r.language read l faultless none)
  appended sub rest at l read next (statement {s = s} faultless form same) =
      ap (continue_after_line sub rest r at read) (line_of_statement r.language read l s faultless form)
      ∙ ap (continue_after_statement sub rest r at read (Some s)) same

  -- a `source`, up to its own fault
  sourced_line : (sub : List ℕ → List Group → Outcome) (rest : List Group
      → Outcome) (at : Position) (l : LogicalLine) (read : List Group) (path : List ℕ) (k : Option TreeKind)
      → SourcesPath r read l path → source_fault r read path ≡ k
      → continue_after_line sub rest r at read (statement_on_line r.language read l) ≡ continue_after_source sub rest at path
      (with_group at (of_head (source path)) read) k
  sourced_line sub rest at l read path k s e =
      ap (continue_after_line sub rest r at read) (line_of_statement r.language read l (head (source path)) s.faultless s.form)
      ∙ ap (continue_after_source sub rest at path (with_group at (of_head (source path)) read)) e

  -- from as many files that may be open on, the lines have this outcome
  abbrev Reads : ℕ → ℕ → List LogicalLine → List Group → Outcome → Type 0
  Reads n file ls read o = (m : ℕ) → n ≤ m → read_lines (read_file m r) r file ls read ≡ o

  -- the lines of a file that is sourced, then its end, or its fault
  through_file : (n m file : ℕ) (l : LogicalLine) (ls lines : List LogicalLine) (read : List Group) (path : List ℕ) (inner o : Outcome)
      → SourcesLines r read l path lines
      → Reads n (r.number path) lines (with_group (place file l) (of_head (source path)) read) inner → suc n ≤ m
      → continue_after_file (read_lines (read_file m r) r file ls) (place file l) inner inner.fault ≡ o
      → read_lines (read_file m r) r file (l ∷ ls) read ≡ o
  through_file n zero file l ls lines read path inner o s h few e = absurd (omega arith)
  through_file n (suc m) file l ls lines read path inner o s h few e =
      let next : List Group = with_group (place file l) (of_head (source path)) read in
      let sub : read_file (suc m) r path next ≡ inner = ap (λ x. read_lines (read_file m r) r (r.number path) x next) ((lines_are_so (bytes_in r path) lines).1 s.has_lines)
      ∙ h m (omega arith) in
      sourced_line (read_file (suc m) r) (read_lines (read_file (suc m) r) r file ls) (place file l) l read path None s.sources
      s.faultless
      ∙ ap (λ (x : Outcome). continue_after_file (read_lines (read_file (suc m) r) r file ls) (place file l) x x.fault) sub
      ∙ e

  pub lines_read : {file : ℕ} {ls : List LogicalLine} {read after : List Group} → IsRead r file ls read after
      → (n : ℕ) × Reads n file ls read (record { read = after; fault = None })
  lines_read (at_end {file = file} {read = read} e) = (0, λ m few. ap (at_file_end file read) e)
  lines_read (line {file = file} {l = l} {ls = ls} {read = read} {next = next} a d) =
      let (n, h) = lines_read d in
      (n, λ m few. appended (read_file m r) (read_lines (read_file m r) r file ls) (place file l) l read next a ∙ h m few)
  lines_read (sourced {file = file} {l = l} {ls = ls} {lines = lines} {read = read} {within = within} {after = after} {path = path} s d rest) =
      let (n, h) = lines_read d in
      let (k, j) = lines_read rest in (
        suc (n + k),
        λ m few. through_file n m file l ls lines read path (record { read = within; fault = None })
            (record { read = after; fault = None }) s h (omega arith) (j m (omega arith)),
      )

  module _ (at : ℕ) (rest : List LogicalLine) (there : List Group) (o : Outcome) (fault : TreeFault) (cut : o.fault ≡ Some fault)
      (ends : (m : ℕ) → read_lines (read_file m r) r at rest there ≡ o) where
    comes_there : {file : ℕ} {ls : List LogicalLine} {read : List Group} → ComesTo r at rest there file ls read → (n : ℕ) × Reads n file ls read o
    comes_there here = (0, λ m few. ends m)
    comes_there (past_line {file = file} {l = l} {ls = ls} {read = read} {next = next} a d) =
        let (n, h) = comes_there d in
        (n, λ m few. appended (read_file m r) (read_lines (read_file m r) r file ls) (place file l) l read next a ∙ h m few)
    comes_there (past_file {file = file} {l = l} {ls = ls} {lines = lines} {read = read} {within = within} {path = path} s d more) =
        let (n, h) = lines_read d in
        let (k, j) = comes_there more in
        (suc (n + k), λ m few. through_file n m file l ls lines read path (record { read = within; fault = None }) o s h (omega arith) (j m (omega arith)))
    comes_there (into_file {file = file} {l = l} {ls = ls} {lines = lines} {read = read} {path = path} s d) =
        let (n, h) = comes_there d in (
          suc n,
          λ m few. through_file n m file l ls lines read path o o s h few
              (ap (continue_after_file (read_lines (read_file m r) r file ls) (place file l) o) cut),
        )

  fault_there : (file : ℕ) (read : List Group) (rest : List LogicalLine) (o : Outcome) → FaultAt r file read rest o
      → ((m : ℕ) → read_lines (read_file m r) r file rest read ≡ o) × ((fault : TreeFault) × (o.fault ≡ Some fault))
  fault_there file read _ _ (of_line {l = l} {ls = ls} {kind = kind} first) = (
    (λ m. ap (continue_after_line (read_file m r) (read_lines (read_file m r) r file ls) r (place file l) read) (line_of_fault r.language read l kind first)),
    (_, refl),
  )
  fault_there file read _ _ (of_source {l = l} {ls = ls} {path = path} {kind = kind} s first) = (
    (λ m. sourced_line (read_file m r) (read_lines (read_file m r) r file ls) (place file l) l read path (Some kind) s first),
    (_, refl),
  )
  fault_there file read _ _ (of_end e) = ((λ m. ap (at_file_end file read) e), (_, refl))

  -- the first file
  root_read : (n : ℕ) (lines : List LogicalLine) (o : Outcome) → HasFirstFile r lines → Reads n (r.number r.root) lines [] o → reading_from r ≡ o
  root_read n lines o b h =
      let all : lines_of (bytes_in r r.root) ≡ lines = ap lines_of (bytes_by (r.bytes r.root) b.0 b.1) ∙ (lines_are_so b.0 lines).1 b.3 in
      let more : suc (MAX_OPEN_FILES + n) ≡ MAX_OPEN_FILES + suc n = omega arith in
      ap (read_root r) b.1
      ∙ ap (λ large. cond large (ended_by_fault (record { file = r.number r.root; line = 0 }) TooMany []) (read_file MAX_OPEN_FILES r r.root []))
      (le-ltb MAX_TREE_BYTES (length b.0) b.2)
      ∙ sym (each_file_read r (suc n))
      ∙ ap (λ k. read_file k r r.root []) (sym more)
      ∙ ap (λ x. read_lines (read_file (MAX_OPEN_FILES + n) r) r (r.number r.root) x []) all
      ∙ h (MAX_OPEN_FILES + n) (omega arith)

  pub whole_read : (groups : List Group) → IsWholeReading r groups → reading_from r ≡ record { read = groups; fault = None }
  whole_read groups w = let (n, h) = lines_read w.2 in root_read n w.0 (record { read = groups; fault = None }) w.1 h

  pub cut_read : (o : Outcome) → IsCutReading r o → (reading_from r ≡ o) × ((fault : TreeFault) × (o.fault ≡ Some fault))
  cut_read _ (no_file e) = (ap (read_root r) e, (_, refl))
  cut_read _ (large_file {bytes = bytes} e large) = (
    ap (read_root r) e
        ∙ ap (λ b. cond b (ended_by_fault (record { file = r.number r.root; line = 0 }) TooMany []) (read_file MAX_OPEN_FILES r r.root []))
        (lt-ltb MAX_TREE_BYTES (length bytes) large),
    (_, refl),
  )
  cut_read o (comes_to_fault {first = first} {rest = rest} {file = file} {read = read} b c f) =
      let x = fault_there file read rest o f in
      let (n, h) = comes_there file rest read o x.1.0 x.1.1 x.0 c in
      (root_read n first o b h, x.1)
