-- What is read is what the relation gives.
use Rattle.kc_tree_model.proofs.Common.{◌≡◌, ◌≤◌, ◌<◌, ◌+◌, ℕ, zero, suc, Bool, true, false, cond, List, [], ◌∷◌, Option, Some, None, Result, Ok, Err, refl, ap, sym, ◌∙◌, subst, length, drop, arith, ◌↔◌, nat_lt, ltb-true, ltb-false, MAX_TREE_BYTES, MAX_OPEN_FILES, TreeKind, TooMany}
use Rattle.kc_tree_model.proofs.Common.{TreeFault, LogicalLine, source, Statement, head, attribute, Block, Group, of_head, file_end, innermost, open_blocks, FileSource, bytes_in, open_files, with_statement, with_group, path_to_read, Outcome, ended_by_fault, at_file_end, continue_after_file}
use Rattle.kc_tree_model.proofs.Common.{continue_after_source, continue_after_statement, continue_after_line, read_lines, read_file, read_root, reading_from, HasForm, Appends, nothing, statement, SourcesPath, SourcesLines, place, IsRead, at_end, line, sourced, ComesTo, here, past_line}
use Rattle.kc_tree_model.proofs.Common.{past_file, into_file, FaultAt, of_line, of_source, of_end, HasFirstFile, IsWholeReading, IsCutReading, no_file, large_file, comes_to_fault}
use Rattle.kc_tree_model.specs.LogicalLines.{lines_of}
use Rattle.kc_tree_model.specs.Limits.{source_fault}
use Rattle.kc_tree_model.specs.TreeReading.{statement_on_line}
use Rattle.kc_tree_model.proofs.LineLaws.LogicalLines.{lines_are_so}
use Rattle.kc_tree_model.proofs.NestedTrees.OpenTrees.{EndsMatch, ends_first}
use Rattle.kc_tree_model.proofs.NestedTrees.LineFits.{Fits, line_fits}
use Rattle.kc_tree_model.proofs.NestedTrees.OpenBlocks.{popped}
use Rattle.kc_tree_model.proofs.NestedTrees.ReadingNests.{Since, Closes, Reads, after_given, source_group, file_closes}
use Rattle.kc_tree_model.proofs.NestedTrees.FileCoverage.{same_files, one_more_file, has_room}
use Rattle.kc_tree_model.proofs.ReadingLaws.LineFaults.{IsFaultless, LineIs, line_is}
use Rattle.kc_tree_model.proofs.ReadingLaws.ReadingCompleteness.{bytes_by, whole_read, cut_read}

-- the relation of reading comes from these remaining lines of a file to a fault that ends the reading with outcome `o`
pub record Cut (r : FileSource) (file : ℕ) (ls : List LogicalLine) (read : List Group) (o : Outcome) : Type 0 where
  pub at : ℕ
  pub rest : List LogicalLine
  pub there : List Group
  pub comes : ComesTo r at rest there file ls read
  pub fault : FaultAt r at there rest o

pub record Has (r : FileSource) (file : ℕ) (ls : List LogicalLine) (read : List Group) (o : Outcome) : Type 0 where
  pub whole : o.fault ≡ None → IsRead r file ls read o.read
  pub cut : (fault : TreeFault) → o.fault ≡ Some fault → Cut r file ls read o

-- the relation has each outcome of these lines, after what was read since a file began
abbrev HasAll : FileSource → List Group → ℕ → List LogicalLine → (List Group → Outcome) → Type 0
HasAll r start file ls p = (read : List Group) → Since start read → Has r file ls read (p read)

some_or_none : (o : Option TreeFault) (fault : TreeFault) → o ≡ None → o ≡ Some fault → ⊥
some_or_none o fault e h = cc

module _ (r : FileSource) where
  has_past_line : (file : ℕ) (l : LogicalLine) (ls : List LogicalLine) (read next : List Group) (o : Outcome) → Appends r (place file l) l read next
      → Has r file ls next o → Has r file (l ∷ ls) read o
  has_past_line file l ls read next o a h =
      record {
        whole = λ e. line a (h.whole e);
        cut = λ fault e. (let c = h.cut fault e in record { at = c.at; rest = c.rest; there = c.there; comes = past_line a c.comes; fault = c.fault });
      }

  has_fault : (file : ℕ) (ls : List LogicalLine) (read : List Group) (o : Outcome) (fault : TreeFault) → o.fault ≡ Some fault → FaultAt r file read ls o
      → Has r file ls read o
  has_fault file ls read o fault e f =
      record {
        whole = λ h. absurd (some_or_none o.fault fault h e);
        cut = λ _ _. record { at = file; rest = ls; there = read; comes = here; fault = f };
      }

  at_last : (file : ℕ) (read : List Group) (o : Option (Group × Block)) → innermost read ≡ o → Has r file [] read (at_file_end file read o)
  at_last file read None e = record { whole = λ h. at_end e; cut = λ fault h. absurd (some_or_none None fault refl h) }
  at_last file read (Some block) e = has_fault file [] read _ _ refl (of_end e)

  module _ (start : List Group) (first : innermost start ≡ None) (f : List ℕ → List Group → Outcome) (closes : Reads f)
      (within : (path : List ℕ) (inner : List Group) → innermost inner ≡ None → EndsMatch inner → length (open_files r start) < MAX_OPEN_FILES
      → length (open_files r inner) ≡ suc (length (open_files r start)) → Has r (r.number path) (lines_of (bytes_in r path)) inner (f path inner)) where
    -- after the file of a `source`
    has_after : (p : List Group
        → Outcome) (file : ℕ) (l : LogicalLine) (ls : List LogicalLine) (read : List Group) (path : List ℕ) (o : Outcome) (k : Option TreeFault) → o.fault ≡ k
        → HasAll r start file ls p → Since start read → SourcesLines r read l path (lines_of (bytes_in r path))
        → Has r (r.number path) (lines_of (bytes_in r path)) (source_group read (place file l) path ∷ read) o
        → (o.fault ≡ None → Closes (source_group read (place file l) path ∷ read) o.read) → Has r file (l ∷ ls) read (continue_after_file p (place file l) o k)
    unfolding source_group
    has_after p file l ls read path o (Some fault) e rest s sources h c =
        let cut = h.cut fault e in
        record {
          whole = λ x. absurd (some_or_none o.fault fault x e);
          cut = λ _ _. record { at = cut.at; rest = cut.rest; there = cut.there; comes = into_file sources cut.comes; fault = cut.fault };
        }
    has_after p file l ls read path o None e rest s sources h c =
        let closed = c e in
        let next : List Group = with_group (place file l) file_end o.read in
        let back : open_blocks 0 next ≡ open_blocks 0 read = popped
        (record { number = length o.read; at = place file l; head = file_end; attributes = [] }) o.read refl ∙ ap (drop 1) closed.opened in
        let after = rest next (record {
          blocks = s.blocks;
          own = s.own;
          opened = back ∙ s.opened;
          matched = ((λ x. ap (λ os. ends_first os file_end) closed.opened), closed.matched);
        }) in
        record {
          whole = λ x. sourced sources (h.whole e) (after.whole x);
          cut = λ fault x. (let cut = after.cut fault x in record {
            at = cut.at;
            rest = cut.rest;
            there = cut.there;
            comes = past_file sources
                (h.whole e) cut.comes;
            fault = cut.fault;
          });
        }

    has_source : (p : List Group → Outcome) (file : ℕ) (l : LogicalLine) (ls : List LogicalLine) (read : List Group) (path : List ℕ) (k : Option TreeKind)
        → source_fault r read path ≡ k
        → SourcesPath r read l path → HasAll r start file ls p → Since start read
        → Has r file (l ∷ ls) read (continue_after_source f p (place file l) path (source_group read (place file l) path ∷ read) k)
    unfolding source_group Reads
    has_source p file l ls read path (Some kind) e sources rest s = has_fault file (l ∷ ls) read _ _ refl (of_source sources e)
    has_source p file l ls read path None e sources rest s =
        let next : List Group = source_group read (place file l) path ∷ read in
        let same = same_files r start read s in
        let matched : EndsMatch next = ((λ c. cc), s.matched) in
        let room : length (open_files r start) < MAX_OPEN_FILES = omega (arith, has_room r read path e, same) in
        let sub = within path next refl matched room (one_more_file r read (place file l) path ∙ ap suc same) in
        has_after p file l ls read path (f path next) (f path next).fault refl rest s
        (record { sources = sources; faultless = e; has_lines = (lines_are_so (bytes_in r path) (lines_of (bytes_in r path))).0 refl }) sub (λ h. closes path next refl matched h)

    has_statement : (p : List Group
        → Outcome) (file : ℕ) (l : LogicalLine) (ls : List LogicalLine) (read : List Group) (s : Statement) (path : Option (List ℕ)) → path_to_read
        (Some s) ≡ path
        → IsFaultless r.language read l → HasForm r.language l s → Fits read (Some s) → HasAll r start file ls p → Since start read
        → Has r file (l ∷ ls) read (continue_after_statement f p r (place file l) read (Some s) path)
    unfolding source_group
    has_statement p file l ls read s None e faultless form fits rest since =
        has_past_line file l ls read (with_statement (place file l) (Some s) read) _ (statement faultless form e)
        (rest (with_statement (place file l) (Some s) read) (after_given start read (place file l) (Some s) first since e fits))
    has_statement p file l ls read (head (source y)) (Some path) e faultless form fits rest since =
        let same : y ≡ path = cc in
        subst (λ x. Has r file (l ∷ ls) read
        (continue_after_source f p (place file l) x (with_group (place file l) (of_head (source y)) read) (source_fault r read x))) same
        (has_source p file l ls read y (source_fault r read y) refl (record { faultless = faultless; form = form }) rest since)
    has_statement p file l ls read (head x) (Some path) e faultless form fits rest since = cc
    has_statement p file l ls read (attribute a) (Some path) e faultless form fits rest since = cc

    has_line : (p : List Group → Outcome) (file : ℕ) (l : LogicalLine) (ls : List LogicalLine) (read : List Group) (x : Result (Option Statement) TreeKind)
        → LineIs r.language read l x
        → ((o : Option Statement) → x ≡ Ok o → Fits read o) → HasAll r start file ls p → Since start read
        → Has r file (l ∷ ls) read (continue_after_line f p r (place file l) read x)
    has_line p file l ls read (Err kind) is fits rest s = has_fault file (l ∷ ls) read _ _ refl (of_line is)
    has_line p file l ls read (Ok None) is fits rest s = has_past_line file l ls read read _ (nothing is.0 is.1) (rest read s)
    has_line p file l ls read (Ok (Some x)) is fits rest s = has_statement p file l ls read x (path_to_read (Some x)) refl is.0 is.1 (fits (Some x) refl) rest s

    has_lines : (file : ℕ) (ls : List LogicalLine) → HasAll r start file ls (read_lines f r file ls)
    has_lines file [] = λ read s. at_last file read (innermost read) refl
    has_lines file (l ∷ ls) = λ read s.
        has_line (read_lines f r file ls) file l ls read (statement_on_line r.language read l) (line_is r.language read l) (line_fits r.language read l)
        (has_lines file ls) s

has_file : (n : ℕ) (r : FileSource) (path : List ℕ) (start : List Group) → innermost start ≡ None → EndsMatch start
    → length (open_files r start) ≤ MAX_OPEN_FILES
    → MAX_OPEN_FILES < length (open_files r start) + n → Has r (r.number path) (lines_of (bytes_in r path)) start (read_file n r path start)
has_file zero r path start first matched few many = absurd (omega arith)
has_file (suc n) r path start first matched few many =
    has_lines r start first (read_file n r) (file_closes n r)
    (λ inner_path inner inner_first inner_matched room more. has_file n r inner_path inner inner_first inner_matched (omega arith) (omega arith))
    (r.number path) (lines_of (bytes_in r path)) start (record { blocks = []; own = tt; opened = refl; matched = matched })

-- the relation has the reading from the first file on
record HasReading (r : FileSource) (o : Outcome) : Type 0 where
  whole : o.fault ≡ None → IsWholeReading r o.read
  cut : (fault : TreeFault) → o.fault ≡ Some fault → IsCutReading r o

module _ (r : FileSource) where
  cut_only : (o : Outcome) (fault : TreeFault) → o.fault ≡ Some fault → IsCutReading r o → HasReading r o
  cut_only o fault e h = record { whole = λ x. absurd (some_or_none o.fault fault x e); cut = λ _ _. h }

  root_within : (bytes : List ℕ) → r.bytes r.root ≡ Some bytes → length bytes ≤ MAX_TREE_BYTES → HasReading r (read_file MAX_OPEN_FILES r r.root [])
  root_within bytes e small =
      let has = has_file MAX_OPEN_FILES r r.root [] refl tt (omega arith) (omega arith) in
      let begins : HasFirstFile r (lines_of (bytes_in r r.root)) =
      (bytes, e, small, (lines_are_so bytes (lines_of (bytes_in r r.root))).0 (ap lines_of (sym (bytes_by (r.bytes r.root) bytes e)))) in
      record {
        whole = λ x. (lines_of (bytes_in r r.root), begins, has.whole x);
        cut = λ fault x. (let cut = has.cut fault x in comes_to_fault begins cut.comes cut.fault);
      }

  root_sized : (bytes : List ℕ) (b : Bool) → r.bytes r.root ≡ Some bytes → nat_lt MAX_TREE_BYTES (length bytes) ≡ b
      → HasReading r (cond b (ended_by_fault (record { file = r.number r.root; line = 0 }) TooMany []) (read_file MAX_OPEN_FILES r r.root []))
  root_sized bytes true e large = cut_only _ _ refl (large_file e (ltb-true MAX_TREE_BYTES (length bytes) large))
  root_sized bytes false e small = root_within bytes e (ltb-false MAX_TREE_BYTES (length bytes) small)

  root_by : (o : Option (List ℕ)) → r.bytes r.root ≡ o → HasReading r (read_root r o)
  root_by None e = cut_only _ _ refl (no_file e)
  root_by (Some bytes) e = root_sized bytes (nat_lt MAX_TREE_BYTES (length bytes)) e refl

  has_reading : HasReading r (reading_from r)
  has_reading = root_by (r.bytes r.root) refl

pub whole_related : (r : FileSource) (groups : List Group) → (reading_from r ≡ record { read = groups; fault = None }) ↔ IsWholeReading r groups
whole_related r groups = (
  (λ e. subst (IsWholeReading r) (ap (λ (o : Outcome). o.read) e) ((has_reading r).whole (ap (λ (o : Outcome). o.fault) e))),
  whole_read r groups,
)

pub one_whole : (r : FileSource) (groups others : List Group) → IsWholeReading r groups → IsWholeReading r others → groups ≡ others
one_whole r groups others a b = ap (λ (o : Outcome). o.read) (sym (whole_read r groups a) ∙ whole_read r others b)

pub cut_related : (r : FileSource) (groups : List Group) (fault : TreeFault)
    → (reading_from r ≡ record { read = groups; fault = Some fault }) ↔ IsCutReading r (record { read = groups; fault = Some fault })
cut_related r groups fault = (
  (λ e. subst (IsCutReading r) e ((has_reading r).cut fault (ap (λ (o : Outcome). o.fault) e))),
  (λ h. (cut_read r (record { read = groups; fault = Some fault }) h).0),
)

pub whole_or_cut : (r : FileSource) (groups : List Group) (o : Outcome) → IsWholeReading r groups → IsCutReading r o → ⊥
whole_or_cut r groups o a b =
    let c = cut_read r o b in
    some_or_none o.fault c.1.0 (ap (λ (x : Outcome). x.fault) (sym c.0 ∙ whole_read r groups a)) c.1.1
