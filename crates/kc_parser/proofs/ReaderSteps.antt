-- Steps of the reading of a file.
use Rattle.kc_parser.proofs.Common.{◌≡◌, ◌⊎◌, inl, inr, ℕ, suc, zero, ◌+◌, ◌≤◌, ◌<◌, ◌-◌, Bool, true, false, List, [], ◌∷◌, length, drop, refl, ap, sym, subst, ◌∙◌, arith, cond, Option, Some, None, Result, Ok, Err, Language, TreeFault, TreeKind, OutOfMemory, head, source, Block, Group, file_end}
use Rattle.kc_parser.proofs.Common.{innermost, FileSource, bytes_in, Outcome, read_file, with_group, at_file_end, ended_by_fault, ReaderState, at_line, fault_in, line_here, ReturnsLineRead, ReturnsFileRead, IsLeft, nat_lt, slice_range, is_utf8, is_in_list, open_files}
use Rattle.kc_parser.proofs.Common.{size_in, MAX_LINE_BYTES, IsIndentedLeft}
use Rattle.std.proofs.Math.Seq.{drop-length}
use Rattle.kc_tree_model.specs.LogicalLines.{logical_lines_from, physical_lines, begins_help, lines_of, help_line_count, first_indentation}
use Rattle.kc_tree_model.specs.Limits.{source_fault, files_read}
use Rattle.kc_tree_model.specs.TreeReading.{read_lines, statement_on_line, with_statement, continue_after_line, continue_after_statement}
use Rattle.kc_parser.specs.between.ListingView.{RepresentsListing}
use Rattle.kc_lines.specs.between.LinePlaces.{IsLogicalAt, IsLineAt, is_of_help, line_of}
use Rattle.kc_parser.specs.checker.StateViews.{Describes}
use Rattle.kc_parser.specs.checker.Faults.{IsMemory}
use Rattle.kc_parser.specs.checker.Steps.{HasStatement, IsSource, IsEnded, ReturnsHelpRead, AppendsSource, IsAfter, ReturnsEndRead, IsSourceRead, ReturnsSourceRead, ReturnsSourceFile, ReturnsFile, found_size, kinds_for, left_from, IsOneRead, indented}
use Rattle.kc_lines.proofs.ContinuedLines.{logical_step, help_step}
use Rattle.std.specs.Prelude.{sum_by, take_while, is_ok}
use Rattle.std.proofs.lemmas.List.Sums.{take_while-cons}
use Rattle.std.proofs.Math.Dec.{eqb-suc-zero}
use Rattle.std.specs.Str.{IsUtf8}
use Rattle.std.proofs.lemmas.Str.{is_utf8-from_IsUtf8, IsUtf8-from_is_utf8}
use Rattle.kc_tree_model.specs.SourceFaults.{fault_of_source}
use Rattle.kc_tree_model.specs.declared.source_faults.SourceKinds.{SourceKinds}
use Rattle.kc_tree_model.specs.declared.source_faults.TheConstants.{TREE_KINDS}
use Rattle.kc_parser.specs.declared.state.SourceFile.{SourceFile}
use Rattle.kc_tree_model.specs.declared.fault.TreeKind.TheVariants.{LineTooLong, NotUtf8, SourceLoop}
use Rattle.kc_lines.specs.declared.lines.PhysicalLine.{PhysicalLine}

-- a reading that ended with a fault by one outcome ended with it by any equal outcome
pub ended_as : (r : FileSource) (o p : Outcome) (new : ReaderState) (f : TreeFault) → o ≡ p → IsEnded r p new f → IsEnded r o new f
ended_as r o p new f e h = let P : Outcome → Type 0 = λ q. IsEnded r q new f in subst P (sym e) h

-- if a reader's state describes some statements, its listing represents them
pub shown_of : (r : FileSource) (p : ReaderState) (read : List Group) → Describes r p read → RepresentsListing p.listing read
unfolding Describes
shown_of r p read d = d.shows

module _ (r : FileSource) (sub : List ℕ → List Group → Outcome) (file : ℕ) (bytes : List ℕ) (at number : ℕ) (before : List Group) (text : List ℕ)
    (next lines : ℕ) (here : at < length bytes) (cut : IsLogicalAt bytes at text next lines) where
  -- the line at the front, and the lines after it
  front : left_from sub r file bytes at number before
      ≡ continue_after_line sub (read_lines sub r file (logical_lines_from 0 (cond (begins_help text) (help_line_count (physical_lines (drop next bytes))) 0)
      (number + lines) (physical_lines (drop next bytes)))) r (at_line file number) before (statement_on_line r.language before (line_here number text))
  front = ap (λ ls. read_lines sub r file ls before) (logical_step bytes at number text next lines here cut)

  pub one_faulty : (new : ReaderState) (k : TreeKind) (f : TreeFault) → ReturnsLineRead r file number text before new (Err k)
      → (k ≡ OutOfMemory → IsMemory f) → IsMemory f ⊎ (f ≡ fault_in file number k) → IsEnded r (left_from sub r file bytes at number before) new f
  one_faulty new k f (inl m) a t = inl (a m)
  one_faulty new k f (inr h) a (inl m) = inl m
  one_faulty new k f (inr h) a (inr e) =
      ended_as r (left_from sub r file bytes at number before) (ended_by_fault (at_line file number) k before) new f
      (front ∙ ap (continue_after_line sub (read_lines sub r file (logical_lines_from 0
      (cond (begins_help text) (help_line_count (physical_lines (drop next bytes))) 0) (number + lines) (physical_lines (drop next bytes)))) r
      (at_line file number) before) h.0)
      (inr (ap Some (sym e), h.1))

  statement_left : (help : Bool) (new : ReaderState) (s : HasStatement r file number text before help new)
      → left_from sub r file bytes at number before ≡ read_lines sub r file
      (logical_lines_from 0 (cond help (help_line_count (physical_lines (drop next bytes))) 0) (number + lines) (physical_lines (drop next bytes)))
      (with_statement (at_line file number) s.statement before)
  statement_left help new s = front ∙ rw (s.gives, s.no_path, s.begins) refl

  pub one_next : (new : ReaderState) → HasStatement r file number text before false new → IsOneRead r sub file bytes at number before new next lines
  one_next new s = record { now = with_statement (at_line file number) s.statement before; describes = s.describes; left = statement_left false new s }

  pub one_help : (new : ReaderState) (count : ℕ) (p : ℕ × ℕ) → HasStatement r file number text before true new
      → count ≡ help_line_count (physical_lines (drop next bytes))
      → ReturnsHelpRead file bytes next (number + lines) count (Ok p) → IsOneRead r sub file bytes at number before new p.0 (lines + p.1)
  one_help new count p s e h = record {
    now = with_statement (at_line file number) s.statement before;
    describes = s.describes;
    left = statement_left true new s
        ∙ ap (λ n. read_lines sub r file (logical_lines_from 0 n (number + lines) (physical_lines (drop next bytes)))
        (with_statement (at_line file number) s.statement before)) (sym e)
        ∙ h.0 sub r (with_statement (at_line file number) s.statement before)
        ∙ ap (λ n. left_from sub r file bytes p.0 n (with_statement (at_line file number) s.statement before)) (omega arith);
  }

  pub one_help_faulty : (new : ReaderState) (count : ℕ) (f : TreeFault) → HasStatement r file number text before true new
      → count ≡ help_line_count (physical_lines (drop next bytes))
      → ReturnsHelpRead file bytes next (number + lines) count (Err f) → IsEnded r (left_from sub r file bytes at number before) new f
  one_help_faulty new count f s e (inl m) = inl m
  one_help_faulty new count f s e (inr h) =
      ended_as r (left_from sub r file bytes at number before) (record { read = with_statement (at_line file number) s.statement before; fault = Some f }) new f
      (statement_left true new s
      ∙ ap (λ n. read_lines sub r file (logical_lines_from 0 n (number + lines) (physical_lines (drop next bytes)))
      (with_statement (at_line file number) s.statement before)) (sym e)
      ∙ h sub r (with_statement (at_line file number) s.statement before))
      (inr (refl, shown_of r new (with_statement (at_line file number) s.statement before) s.describes))

  source_left : (path : List ℕ) (middle : ReaderState) → IsSource r number text path before middle
      → left_from sub r file bytes at number before ≡ continue_after_statement sub
      (read_lines sub r file (logical_lines_from 0 0 (number + lines) (physical_lines (drop next bytes)))) r (at_line file number) before
      (Some (head (source path))) (Some path)
  source_left path middle s = front ∙ rw (s.gives, s.begins) refl

  pub one_source : (path : List ℕ) (middle new : ReaderState) → IsSource r number text path before middle → IsSourceRead r sub file number path before new
      → IsOneRead r sub file bytes at number before new next lines
  one_source path middle new s t =
      record {
        now = t.now;
        describes = t.describes;
        left = source_left path middle s
            ∙ t.left (read_lines sub r file (logical_lines_from 0 0 (number + lines) (physical_lines (drop next bytes))));
      }

  pub one_source_faulty : (path : List ℕ) (middle new : ReaderState) (f : TreeFault) → IsSource r number text path before middle
      → ReturnsSourceRead r sub file number path before new (Err f) → IsEnded r (left_from sub r file bytes at number before) new f
  one_source_faulty path middle new f s (inl m) = inl m
  one_source_faulty path middle new f s (inr t) =
      ended_as r (left_from sub r file bytes at number before) t.outcome new f
      (source_left path middle s ∙ t.is (read_lines sub r file (logical_lines_from 0 0 (number + lines) (physical_lines (drop next bytes)))))
      (inr (t.fault_is, t.shows))

-- reading a file is reading its logical lines, where one file fewer may be open within another
pub file_lines : (depth : ℕ) (r : FileSource) (path : List ℕ) (before : List Group) → 0 < depth
    → read_file depth r path before ≡ read_lines (read_file (depth - 1) r) r (r.number path) (lines_of (bytes_in r path)) before
file_lines zero r path before h = absurd (omega arith)
file_lines (suc n) r path before h = ap (λ k. read_lines (read_file k r) r (r.number path) (lines_of (bytes_in r path)) before) (omega arith)

-- at the beginning of a file, with the line number 1, all its lines are left to read
pub all_left : (r : FileSource) (sub : List ℕ → List Group → Outcome) (file : ℕ) (bytes : List ℕ) (before : List Group) (l : ReaderState) → Describes r l before
    → IsLeft r sub file bytes before l 0 1
unfolding lines_of
all_left r sub file bytes before l d = record { now = before; describes = d; left = refl }

ended_read : (file : ℕ) (read : List Group) (o : Option (Group × Block)) → (at_file_end file read o).read ≡ read
ended_read file read None = refl
ended_read file read (Some o) = refl

-- no lines are left at the end
end_left : (r : FileSource) (sub : List ℕ → List Group → Outcome) (file : ℕ) (bytes : List ℕ) (number at : ℕ) (now : List Group) → length bytes ≤ at
    → at ≤ length bytes → left_from sub r file bytes at number now ≡ at_file_end file now (innermost now)
end_left r sub file bytes number at now a b = let e : at ≡ length bytes = omega arith in rw (e, drop-length bytes) refl

pub file_ended : (r : FileSource) (sub : List ℕ → List Group → Outcome) (file : ℕ) (bytes : List ℕ) (before : List Group) (new : ReaderState) (at number : ℕ)
    (result : Result (Unit {0}) TreeFault)
    → length bytes ≤ at → at ≤ length bytes
    → (l : IsLeft r sub file bytes before new at number) → ReturnsEndRead file l.now result
    → ReturnsFileRead r (read_lines sub r file (lines_of bytes) before) new result
file_ended r sub file bytes before new at number (Ok u) a b l h =
    let e = sym l.left ∙ end_left r sub file bytes number at l.now a b in
    let d = ended_read file l.now (innermost l.now) in
    let P : Outcome → Type 0 = λ o. (o.fault ≡ None) × Describes r new o.read in
    subst P (sym e) (h, rw d l.describes)
file_ended r sub file bytes before new at number (Err f) a b l h =
    let e = sym l.left ∙ end_left r sub file bytes number at l.now a b in
    let d = ended_read file l.now (innermost l.now) in
    ended_as r (read_lines sub r file (lines_of bytes) before) (at_file_end file l.now (innermost l.now)) new f e
    (inr (h, rw d (shown_of r new l.now l.describes)))

-- a sourced file and its end
module _ (r : FileSource) (sub : List ℕ → List Group → Outcome) (file line : ℕ) (path : List ℕ) (before : List Group) where
  pub not_sourced : (new : ReaderState) (f : TreeFault) → AppendsSource r file line path before new (Err f)
      → ReturnsSourceRead r sub file line path before new (Err f)
  not_sourced new f (inl m) = inl m
  not_sourced new f (inr h) = inr (record {
    outcome = ended_by_fault (at_line file line) h.0 (with_statement (at_line file line) (Some (head (source path))) before);
    is = λ rest. rw h.1 refl;
    fault_is = ap Some (sym h.2);
    shows = h.3;
  })

  pub file_faulty : (new : ReaderState) (f : TreeFault) → source_fault r before path ≡ None
      → IsEnded r (sub path (with_statement (at_line file line) (Some (head (source path))) before)) new f
      → ReturnsSourceRead r sub file line path before new (Err f)
  file_faulty new f s (inl m) = inl m
  file_faulty new f s (inr h) = inr (record {
    outcome = sub path (with_statement (at_line file line) (Some (head (source path))) before);
    is = λ rest. rw (s, h.0) refl;
    fault_is = h.0;
    shows = h.1;
  })

  pub source_done : (new : ReaderState) (result : Result (Unit {0}) TreeFault) → source_fault r before path ≡ None
      → (sub path (with_statement (at_line file line) (Some (head (source path))) before)).fault ≡ None
      → IsAfter r file line (sub path (with_statement (at_line file line) (Some (head (source path))) before)).read new result
      → ReturnsSourceRead r sub file line path before new result
  source_done new (Ok u) s n a = record {
    now = with_group (at_line file line) file_end (sub path (with_statement (at_line file line) (Some (head (source path))) before)).read;
    describes = a;
    left = λ rest. rw (s, n) refl;
  }
  source_done new (Err f) s n a = inl a

-- a logical line of more than `MAX_LINE_BYTES` bytes has the fault `LineTooLong`
pub too_long : (language : Language) (read : List Group) (number : ℕ) (help : Bool) (text : List ℕ) → nat_lt MAX_LINE_BYTES (length text) ≡ true
    → statement_on_line language read (record { number = number; text = text; help = help }) ≡ Err LineTooLong
unfolding statement_on_line
too_long language read number help text e = rw e refl

pub no_text : (language : Language) (read : List Group) (number : ℕ) (help : Bool) (text : List ℕ) → nat_lt MAX_LINE_BYTES (length text) ≡ false
    → is_utf8 text ≡ false → statement_on_line language read (record { number = number; text = text; help = help }) ≡ Err NotUtf8
unfolding statement_on_line
no_text language read number help text e u = rw (e, u) refl

help_is_no_statement : (language : Language) (read : List Group) (number : ℕ) (text : List ℕ)
    → nat_lt MAX_LINE_BYTES (length text) ≡ false → is_utf8 text ≡ true
    → statement_on_line language read (record { number = number; text = text; help = true }) ≡ Ok None
unfolding statement_on_line
help_is_no_statement language read number text e u = rw (e, u) refl

-- one line of a help text
help_one : (sub : List ℕ → List Group → Outcome) (r : FileSource) (read : List Group) (file : ℕ) (bytes : List ℕ) (begin n left : ℕ) (p : PhysicalLine)
    → 0 < left → IsLineAt bytes begin p
    → nat_lt MAX_LINE_BYTES (length (slice_range bytes begin p.end)) ≡ false → is_utf8 (slice_range bytes begin p.end) ≡ true
    → read_lines sub r file (logical_lines_from 0 left n (physical_lines (drop begin bytes))) read ≡ read_lines sub r file
    (logical_lines_from 0 (left - 1) (n + 1) (physical_lines (drop p.next bytes))) read
help_one sub r read file bytes begin n zero p h l e u = absurd (omega arith)
help_one sub r read file bytes begin n (suc k) p h l e u =
    ap (λ ls. read_lines sub r file ls read) (help_step bytes begin n k p l)
    ∙ ap (continue_after_line sub (read_lines sub r file (logical_lines_from 0 k (n + 1) (physical_lines (drop p.next bytes)))) r (at_line file n) read)
    (help_is_no_statement r.language read n (slice_range bytes begin p.end) e u)
    ∙ ap (λ j. read_lines sub r file (logical_lines_from 0 j (n + 1) (physical_lines (drop p.next bytes))) read) (omega arith)

-- `n` lines are indented so far
indented_one : (columns : ℕ) (bytes : List ℕ) (begin : ℕ) (p : PhysicalLine) → IsLineAt bytes begin p → is_of_help columns (line_of bytes begin p) ≡ true
    → indented columns bytes begin ≡ suc (indented columns bytes p.next)
indented_one columns bytes begin p l e =
    ap (λ ls. length (take_while (is_of_help columns) ls)) l.lines
    ∙ ap length (take_while-cons (is_of_help columns) (line_of bytes begin p) (physical_lines (drop p.next bytes)))
    ∙ ap (λ (t : Bool). length (cond t (line_of bytes begin p ∷ take_while (is_of_help columns) (physical_lines (drop p.next bytes))) [])) e

indented_none : (columns : ℕ) (bytes : List ℕ) (begin : ℕ) (p : PhysicalLine) → IsLineAt bytes begin p → is_of_help columns (line_of bytes begin p) ≡ false
    → indented columns bytes begin ≡ 0
indented_none columns bytes begin p l e = rw (l.lines, e) refl

indented_end : (columns : ℕ) (bytes : List ℕ) (begin : ℕ) → length bytes ≤ begin → begin ≤ length bytes → indented columns bytes begin ≡ 0
indented_end columns bytes begin a b = let e : begin ≡ length bytes = omega arith in rw (e, drop-length bytes) refl

module _ (file : ℕ) (bytes : List ℕ) (at number columns begin lines : ℕ) (h : IsIndentedLeft file bytes at number columns begin lines) where
  -- no line is left
  help_done : indented columns bytes begin ≡ 0 → ReturnsHelpRead file bytes at number (indented columns bytes at) (Ok (begin, lines))
  help_done e = (
    λ sub r read. h.is sub r read ∙ ap (λ n. read_lines sub r file (logical_lines_from 0 n (number + lines) (physical_lines (drop begin bytes))) read) e,
    h.later,
    h.within,
    h.few,
  )

  pub help_at_end : length bytes ≤ begin → ReturnsHelpRead file bytes at number (indented columns bytes at) (Ok (begin, lines))
  help_at_end a = help_done (indented_end columns bytes begin a h.within)

  module _ (p : PhysicalLine) (l : IsLineAt bytes begin p) where
    pub help_stops : is_of_help columns (line_of bytes begin p) ≡ false → ReturnsHelpRead file bytes at number (indented columns bytes at) (Ok (begin, lines))
    help_stops e = help_done (indented_none columns bytes begin p l e)

    pub indented_more : is_of_help columns (line_of bytes begin p) ≡ true → nat_lt MAX_LINE_BYTES (length (slice_range bytes begin p.end)) ≡ false
        → is_utf8 (slice_range bytes begin p.end) ≡ true
        → IsIndentedLeft file bytes at number columns p.next (lines + 1)
    indented_more i e u =
        let n = indented_one columns bytes begin p l i in
        record {
          is = λ sub r read. h.is sub r read ∙ help_one sub r read file bytes begin (number + lines) (indented columns bytes begin) p (omega (arith, n)) l e u
              ∙ ap (λ k. read_lines sub r file (logical_lines_from 0 k (number + lines + 1) (physical_lines (drop p.next bytes))) read) (omega (arith, n))
              ∙ ap (λ k. read_lines sub r file (logical_lines_from 0 (indented columns bytes p.next) k (physical_lines (drop p.next bytes))) read)
              (omega arith);
          later = let f = l.forward in let g = h.later in omega (arith, l.start, l.end);
          within = l.within;
          few = let f = l.forward in let g = h.few in omega arith;
        }

    pub help_faulty : (kind : TreeKind) (f : TreeFault) → is_of_help columns (line_of bytes begin p) ≡ true
        → ((language : Language) (read : List Group) → statement_on_line language read
        (record { number = number + lines; text = slice_range bytes begin p.end; help = true }) ≡ Err kind)
        → f ≡ fault_in file (number + lines) kind → ReturnsHelpRead file bytes at number (indented columns bytes at) (Err f)
    help_faulty kind f i gives e = inr (λ sub r read.
        h.is sub r read
        ∙ ap (λ k. read_lines sub r file (logical_lines_from 0 k (number + lines) (physical_lines (drop begin bytes))) read)
        (indented_one columns bytes begin p l i)
        ∙ ap (λ ls. read_lines sub r file ls read) (help_step bytes begin (number + lines) (indented columns bytes p.next) p l)
        ∙ ap (continue_after_line sub (read_lines sub r file (logical_lines_from 0 (indented columns bytes p.next) (number + lines + 1)
        (physical_lines (drop p.next bytes)))) r (at_line file (number + lines)) read) (gives r.language read)
        ∙ ap (λ t. record { read = read; fault = Some t }) (sym e))

-- a whole help text by its indentation
help_as : (file : ℕ) (bytes : List ℕ) (at number count other : ℕ) (result : Result (ℕ × ℕ) TreeFault) → count ≡ other
    → ReturnsHelpRead file bytes at number count result → ReturnsHelpRead file bytes at number other result
help_as file bytes at number count other result e h = let P : ℕ → Type 0 = λ n. ReturnsHelpRead file bytes at number n result in subst P e h

no_indentation : (bytes : List ℕ) (at : ℕ) → first_indentation (physical_lines (drop at bytes)) ≡ 0 → help_line_count (physical_lines (drop at bytes)) ≡ 0
no_indentation bytes at e = rw e refl

an_indentation : (bytes : List ℕ) (at columns : ℕ) → columns ≡ first_indentation (physical_lines (drop at bytes)) → (columns ≡ 0 → ⊥)
    → indented columns bytes at ≡ help_line_count (physical_lines (drop at bytes))
an_indentation bytes at zero e h = absurd (h refl)
an_indentation bytes at (suc k) e h = rw (← e, eqb-suc-zero k) refl

pub help_nothing : (file : ℕ) (bytes : List ℕ) (at number : ℕ) → at ≤ length bytes → first_indentation (physical_lines (drop at bytes)) ≡ 0
    → ReturnsHelpRead file bytes at number (help_line_count (physical_lines (drop at bytes))) (Ok (at, 0))
help_nothing file bytes at number w e =
    help_as file bytes at number 0 (help_line_count (physical_lines (drop at bytes))) (Ok (at, 0)) (sym (no_indentation bytes at e)) (
      λ sub r read. ap (λ n. read_lines sub r file (logical_lines_from 0 0 n (physical_lines (drop at bytes))) read) (omega arith),
      omega arith,
      w,
      omega
          arith,
    )

pub help_by : (file : ℕ) (bytes : List ℕ) (at number columns : ℕ) (result : Result (ℕ × ℕ) TreeFault)
    → columns ≡ first_indentation (physical_lines (drop at bytes)) → (columns ≡ 0 → ⊥)
    → ReturnsHelpRead file bytes at number (indented columns bytes at) result
    → ReturnsHelpRead file bytes at number (help_line_count (physical_lines (drop at bytes))) result
help_by file bytes at number columns result e n h =
    help_as file bytes at number (indented columns bytes at) (help_line_count (physical_lines (drop at bytes))) result (an_indentation bytes at columns e n) h

pub utf8_holds : (bs : List ℕ) → IsUtf8 bs → is_utf8 bs ≡ true
utf8_holds bs h = is_utf8-from_IsUtf8 bs h

not_true : (b : Bool) → (b ≡ true → ⊥) → b ≡ false
not_true true h = absurd (h refl)
not_true false h = refl

pub utf8_fails : (bs : List ℕ) → (IsUtf8 bs → ⊥) → is_utf8 bs ≡ false
utf8_fails bs h = not_true (is_utf8 bs) (λ e. h (IsUtf8-from_is_utf8 bs e))

-- the file of a `source`, or why there is none
module _ (r : FileSource) (before : List Group) (path : List ℕ) where
  -- the first fault of the `source`, where its file was found or not
  abbrev fault_by : Result SourceFile TreeKind → Option TreeKind
  fault_by found =
      fault_of_source (kinds_for found) (is_in_list path (open_files r before)) (is_ok found) (length (open_files r before)) (length (files_read r before))
      (sum_by (size_in r) (files_read r before) + found_size found)

  pub fault_seen : (found : Result SourceFile TreeKind) (fault : Option TreeKind) (is_open there : Bool) (open_count files bytes size : ℕ) (kinds : SourceKinds TreeKind)
      → fault ≡ fault_of_source kinds is_open there open_count files (bytes + size) → kinds ≡ kinds_for found → is_in_list path (open_files r before) ≡ is_open
      → there ≡ is_ok found → length (open_files r before) ≡ open_count → files ≡ length (files_read r before)
      → bytes ≡ sum_by (size_in r) (files_read r before) → size ≡ found_size found → fault ≡ fault_by found
  fault_seen found fault is_open there open_count files bytes size kinds e k a b c d f g = e ∙ rw (k, sym a, b, sym c, d, f, g) refl

  -- the first fault of the `source` of the model, if a file is there or not
  abbrev fault_if_there : Bool → Option TreeKind
  fault_if_there there =
      fault_of_source TREE_KINDS (is_in_list path (open_files r before)) there (length (open_files r before)) (length (files_read r before))
      (sum_by (size_in r) (files_read r before) + size_in r path)

  fault_of_found : (o : SourceFile) → ReturnsFile r path (Ok o) → source_fault r before path ≡ fault_by (Ok o)
  unfolding source_fault
  fault_of_found o h = ap fault_if_there h.0
      ∙ ap (λ bytes. fault_of_source TREE_KINDS (is_in_list path (open_files r before)) true (length (open_files r before)) (length (files_read r before))
      (sum_by (size_in r) (files_read r before) + length bytes)) (sym h.2)

  pub source_returned : (found : Result SourceFile TreeKind) → ReturnsFile r path found → fault_by found ≡ None → ReturnsSourceFile r path before found
  source_returned (Ok o) h e = (fault_of_found o h ∙ e, h.1, h.2)
  source_returned (Err k) h e = absurd (by_test (is_in_list path (open_files r before)) e)
    where
      by_test : (b : Bool) → cond b (Some SourceLoop) (Some k) ≡ None → ⊥
      by_test true e = cc
      by_test false e = cc

  pub source_refused : (found : Result SourceFile TreeKind) (kind : TreeKind) → ReturnsFile r path found → fault_by found ≡ Some kind
      → ReturnsSourceFile r path before (Err kind)
  unfolding source_fault
  source_refused (Ok o) kind h e = inr (fault_of_found o h ∙ e)
  source_refused (Err k) kind (inl m) e = by_test (is_in_list path (open_files r before)) _ e
    where
      by_test : (b : Bool) (rest : Option TreeKind) → cond b (Some SourceLoop) (Some k) ≡ Some kind → (kind ≡ OutOfMemory) ⊎ (cond b (Some SourceLoop) rest ≡ Some kind)
      by_test true rest e = inr e
      by_test false rest e = inl (let z : kind ≡ k = cc in z ∙ m)
  source_refused (Err k) kind (inr m) e =
      inr (ap fault_if_there m.1 ∙ ap (λ x. cond (is_in_list path (open_files r before)) (Some SourceLoop) (Some x)) (sym m.0) ∙ e)
