-- No file is left unread: a `source` after as many open files as may be is TooDeep before.
use Rattle.kc_tree_model.proofs.Common.{◌≡◌, ℕ, zero, suc, ◌+◌, ◌<◌, ◌≤◌, List, [], ◌∷◌, ◌++◌, Option, Some, None, Result, Ok, Err, refl, ap, sym, ◌∙◌, length, drop, arith, filter_map, cons_option, TreeKind}
use Rattle.kc_tree_model.proofs.Common.{TreeFault, LogicalLine, Head, config, choice, menu, condition, comment, source, Statement, head, attribute, block_of_head, path_of_head, Block, Group, Position, GroupHead, of_head, file_end, from_head, open_blocks, sourced_path, innermost, FileSource}
use Rattle.kc_tree_model.proofs.Common.{bytes_in, open_files, MAX_OPEN_FILES, with_statement, with_group, path_to_read, Outcome, continue_after_file, continue_after_source, continue_after_statement, continue_after_line, read_lines, read_file}
use Rattle.kc_tree_model.specs.LogicalLines.{lines_of}
use Rattle.kc_tree_model.specs.Limits.{source_fault}
use Rattle.kc_tree_model.specs.TreeReading.{statement_on_line}
use Rattle.kc_tree_model.proofs.SourceFaults.{faultless_source}
use Rattle.kc_tree_model.proofs.NestedTrees.OpenTrees.{EndsMatch, ends_first}
use Rattle.kc_tree_model.proofs.NestedTrees.LineFits.{Fits, line_fits}
use Rattle.kc_tree_model.proofs.NestedTrees.OpenBlocks.{popped}
use Rattle.kc_tree_model.proofs.NestedTrees.ReadingNests.{AllBlocks, Since, Closes, Reads, after_given, source_group, file_closes}

-- blocks of a file are no files
no_file : (w : GroupHead) (b : Block) → from_head block_of_head w ≡ Some b → from_head path_of_head w ≡ None
no_file (of_head (config name)) b e = refl
no_file (of_head choice) b e = refl
no_file (of_head (menu title)) b e = refl
no_file (of_head (condition c)) b e = refl
no_file (of_head (comment title)) b e = refl
no_file (of_head (source path)) b e = cc
no_file x b e = refl

pub no_files : (gs hs : List Group) → AllBlocks gs → filter_map sourced_path (gs ++ hs) ≡ filter_map sourced_path hs
no_files [] hs own = refl
no_files (g ∷ gs) hs own = ap (λ o. cons_option o (filter_map sourced_path (gs ++ hs))) (no_file g.head own.0.0 own.0.1) ∙ no_files gs hs own.1

-- as many files are open now as where the current file began
pub same_files : (r : FileSource) (start read : List Group) → Since start read → length (open_files r read) ≡ length (open_files r start)
same_files r start read s =
    ap (λ gs. length (r.root ∷ filter_map sourced_path gs)) s.opened ∙ ap (λ ps. length (r.root ∷ ps)) (no_files s.blocks (open_blocks 0 start) s.own)

-- one more file is open after the group of a `source`
pub one_more_file : (r : FileSource) (read : List Group) (at : Position) (path : List ℕ)
    → length (open_files r (source_group read at path ∷ read)) ≡ suc (length (open_files r read))
unfolding source_group
one_more_file r read at path = refl

-- if a `source` has no fault, fewer files than MAX_OPEN_FILES are open before it
pub has_room : (r : FileSource) (read : List Group) (path : List ℕ) → source_fault r read path ≡ None → length (open_files r read) < MAX_OPEN_FILES
has_room r read path h = (faultless_source r read path h).few_open

-- two readings of lines that agree after what was read since a file began
abbrev Agree : List Group → (List Group → Outcome) → (List Group → Outcome) → Type 0
Agree start f g = (read : List Group) → Since start read → f read ≡ g read

-- two readings of files that agree one file further within
abbrev AgreeWithin : FileSource → List Group → (List ℕ → List Group → Outcome) → (List ℕ → List Group → Outcome) → Type 0
AgreeWithin r start f g = (path : List ℕ) (inner : List Group) → innermost inner ≡ None → EndsMatch inner → length (open_files r start) < MAX_OPEN_FILES
    → length (open_files r inner) ≡ suc (length (open_files r start)) → f path inner ≡ g path inner

module _ (r : FileSource) (start : List Group) (first : innermost start ≡ None) (f g : List ℕ → List Group → Outcome) (closes : Reads f)
    (within : AgreeWithin r start f g) where
  same_after : (p q : List Group → Outcome) (at : Position) (read : List Group) (path : List ℕ) (o : Outcome) (k : Option TreeFault) → o.fault ≡ k
      → Agree start p q → Since start read
      → (o.fault ≡ None → Closes (source_group read at path ∷ read) o.read) → continue_after_file p at o k ≡ continue_after_file q at o k
  unfolding source_group
  same_after p q at read path o (Some k) e agree s c = refl
  same_after p q at read path o None e agree s c =
      let closed = c e in
      let back : open_blocks 0 (with_group at file_end o.read) ≡ open_blocks 0 read = popped
      (record { number = length o.read; at = at; head = file_end; attributes = [] }) o.read refl ∙ ap (drop 1) closed.opened in
      agree (with_group at file_end o.read) (record {
        blocks = s.blocks;
        own = s.own;
        opened = back ∙ s.opened;
        matched = ((λ x. ap (λ os. ends_first os file_end) closed.opened), closed.matched);
      })

  same_source : (p q : List Group → Outcome) (at : Position) (read : List Group) (path : List ℕ) (k : Option TreeKind) → source_fault r read path ≡ k
      → Agree start p q → Since start read
      → continue_after_source f p at path (source_group read at path ∷ read) k ≡ continue_after_source g q at path (source_group read at path ∷ read) k
  unfolding source_group Reads
  same_source p q at read path (Some k) e agree s = refl
  same_source p q at read path None e agree s =
      let o = f path (source_group read at path ∷ read) in
      let room = has_room r read path e in
      let same = same_files r start read s in
      let matched : EndsMatch (source_group read at path ∷ read) = ((λ c. cc), s.matched) in
      let agreed : f path (source_group read at path ∷ read) ≡ g path (source_group read at path ∷ read) = within path (source_group read at path ∷ read) refl
      matched (omega (arith, room, same)) (one_more_file r read at path ∙ ap suc same) in
      same_after p q at read path o o.fault refl agree s (λ h. closes path (source_group read at path ∷ read) refl matched h)
      ∙ ap (λ (x : Outcome). continue_after_file q at x x.fault) agreed

  same_head : (p q : List Group → Outcome) (at : Position) (read : List Group) (x : Head) (path : Option (List ℕ)) → path_of_head x ≡ path → Agree start p q
      → Since start read → Fits read (Some (head x))
      → continue_after_statement f p r at read (Some (head x)) path ≡ continue_after_statement g q r at read (Some (head x)) path
  unfolding source_group
  same_head p q at read x None e agree s fits = agree (with_statement at (Some (head x)) read) (after_given start read at (Some (head x)) first s e fits)
  same_head p q at read (source y) (Some path) e agree s fits =
      let same : y ≡ path = cc in
      ap (λ z. continue_after_source f p at path (with_statement at (Some (head (source z))) read) (source_fault r read path)) same
      ∙ same_source p q at read path (source_fault r read path) refl agree s
      ∙ sym (ap (λ z. continue_after_source g q at path (with_statement at (Some (head (source z))) read) (source_fault r read path)) same)
  same_head p q at read x (Some path) e agree s fits = cc

  same_statement : (p q : List Group → Outcome) (at : Position) (read : List Group) (x : Option Statement) (path : Option (List ℕ)) → path_to_read x ≡ path
      → Agree start p q → Since start read → Fits read x
      → continue_after_statement f p r at read x path ≡ continue_after_statement g q r at read x path
  same_statement p q at read (Some (head x)) path e agree s fits = same_head p q at read x path e agree s fits
  same_statement p q at read (Some (attribute a)) None e agree s fits =
      agree (with_statement at (Some (attribute a)) read) (after_given start read at (Some (attribute a)) first s e fits)
  same_statement p q at read (Some (attribute a)) (Some path) e agree s fits = cc
  same_statement p q at read None None e agree s fits = agree read s
  same_statement p q at read None (Some path) e agree s fits = cc

  same_line : (p q : List Group → Outcome) (at : Position) (read : List Group) (x : Result (Option Statement) TreeKind)
      → ((o : Option Statement) → x ≡ Ok o → Fits read o) → Agree start p q → Since start read
      → continue_after_line f p r at read x ≡ continue_after_line g q r at read x
  same_line p q at read (Err k) fits agree s = refl
  same_line p q at read (Ok o) fits agree s = same_statement p q at read o (path_to_read o) refl agree s (fits o refl)

  same_lines : (file : ℕ) (ls : List LogicalLine) → Agree start (read_lines f r file ls) (read_lines g r file ls)
  same_lines file [] = λ read s. refl
  same_lines file (l ∷ ls) = λ read s. same_line (read_lines f r file ls) (read_lines g r file ls) (record { file = file; line = l.number }) read
      (statement_on_line r.language read l) (line_fits r.language read l) (same_lines file ls) s

same_file : (m n : ℕ) (r : FileSource) (path : List ℕ) (start : List Group) → m ≤ n → innermost start ≡ None → EndsMatch start
    → length (open_files r start) ≤ MAX_OPEN_FILES → MAX_OPEN_FILES < length (open_files r start) + m
    → read_file m r path start ≡ read_file n r path start
same_file zero n r path start le first matched few many = absurd (omega arith)
same_file (suc m) zero r path start le first matched few many = absurd (omega arith)
same_file (suc m) (suc n) r path start le first matched few many =
    same_lines r start first (read_file m r) (read_file n r) (file_closes m r)
    (λ inner_path inner inner_first inner_matched room more. same_file m n r inner_path inner (omega arith) inner_first inner_matched (omega arith)
    (omega arith))
    (r.number path) (lines_of (bytes_in r path)) start (record { blocks = []; own = tt; opened = refl; matched = matched })

-- the reading of a tree's first file is the same if more files than MAX_OPEN_FILES may be open
pub each_file_read : (r : FileSource) (more : ℕ) → read_file (MAX_OPEN_FILES + more) r r.root [] ≡ read_file MAX_OPEN_FILES r r.root []
each_file_read r more = sym (same_file MAX_OPEN_FILES (MAX_OPEN_FILES + more) r r.root [] (omega arith) refl tt (omega arith) (omega arith))
