-- The lines of a file that is read, one after another.
use Rattle.kc_expansion.proofs.Common.{◌≡◌, ℕ, ◌+◌, ◌<◌, ◌≤◌, ◌++◌, Bool, List, Some, false, length, take, drop, refl, ap, ◌∙◌, subst, arith, ◌-◌, split_at_newlines, physical_lines, returned, Program, returns, ReadingState, WrittenLine, progress, written_line, SourceReader, place, short_line}
use Rattle.kc_expansion.proofs.Common.{source_followed, line_written, lines_written, Stop, tokens_of, source_sort_of, place_of, ends, end_of_stop, IsLogicalAt, FileRun, lines_from, Leads, is_first_continued, IsHelpPassed, IsWrittenTo, IsCopiedLine, text_up_to, LineStart, WrittenFile}
use Rattle.std.specs.Cow.{cow_slice_items}
use Rattle.kc_expansion.specs.between.Reads.{Reads}
use Rattle.kc_expansion.specs.checker.FileLines.{IsFileLine, line_of_file, PassesLine, MeetsSource, IsMet}
use Rattle.kc_expansion.specs.declared.file_lines.FileLine.{FileLine}
use Rattle.kc_expansion.specs.declared.file_lines.SourceHere.{SourceHere}
use Rattle.kc_expansion.specs.declared.file_lines.LineHere.{LineHere}
use Rattle.kc_expansion.specs.declared.file_lines.LineHere.TheVariants as kinds
use Rattle.kc_expansion.proofs.FileProgramLemmas.{leads_on, leads_then, reads_on, reads_early, reads_returns}
use Rattle.kc_expansion.proofs.LinesLeftLemmas.{line_stopped, line_passed, written_after, stayed, written_next}

-- a logical line of a file that begins at `start` ends at a place whose number is small
pub file_line : (bytes : List ℕ) (start : LineStart) (line : FileLine) (lines : ℕ) → start.at < length bytes → start.number ≤ start.at + 1
    → IsLogicalAt bytes start.at (cow_slice_items line.text) line.after.at lines → line.after.number ≡ start.number + lines → IsFileLine bytes start line
file_line bytes start line lines there few logical number = record {
  there = there;
  lines = lines;
  logical = logical;
  number = number;
  few = omega (arith, few, number, logical.few, logical.forward);
}

module _ (sub : SourceReader) (file : List ℕ) {bytes : List ℕ} {start : LineStart} {line : FileLine} (l : IsFileLine bytes start line) (s : ReadingState)
    {before : WrittenFile} (w : IsWrittenTo bytes start before) where
  abbrev own : List ℕ
  own = cow_slice_items line.text

  abbrev done : List ℕ
  done = text_up_to before start.at

  -- where the writing of a line stops, the reading of the lines of its file stops in the same way
  pub line_halted : {a b : FileRun} (stop : Stop) → Reads a b (line_of_file sub file bytes start own s) (end_of_stop stop)
      → Reads a b (lines_from sub file bytes start before s) (end_of_stop stop)
  line_halted stop r = line_stopped sub file start l.there l.logical s done stop r

  -- where a line was written, the reading goes on after the line and its help text
  line_goes : {a b : FileRun} (t : ReadingState) (out : WrittenFile) {help : Bool} {past : LineStart} (new : List ℕ) → IsHelpPassed bytes line.after help past
      → out.original.value.items ≡ bytes → out.copied ≤ line.after.at
      → text_up_to out line.after.at ≡ done ++ lines_written (take l.lines (split_at_newlines (drop start.at bytes))) own new
      → Reads a b (line_of_file sub file bytes start own s) (ends (returned (written_line new help t)))
      → PassesLine a b sub file bytes start s before t out past
  line_goes t out {past = past} new passed o c x r = record {
    written = written_next out w l.logical refl l.number passed o c;
    forward = omega (arith, passed.from, l.logical.forward);
    leads = line_passed sub file start l.there l.logical s done new t refl l.number passed (text_up_to out past.at)
        (written_after sub file start l.there l.logical s done new t refl l.number passed out o c x) r;
  }

  -- where a line stays, the reading goes on after the line and its help text
  pub stays_here : {a : FileRun} {shown : List ℕ} → shown ≡ own → {help : Bool} → IsCopiedLine shown help → {past : LineStart}
      → IsHelpPassed bytes line.after help past → PassesLine a a sub file bytes start s before s before past
  stays_here d {help = help} y passed =
      let joined = is_first_continued (physical_lines (drop start.at bytes)) in
      line_goes s before own passed w.original (let c : before.copied ≤ line.after.at = omega (arith, w.copied, l.logical.forward) in c)
      (stayed before bytes start.at line.after.at l.lines own w.original w.copied
      (let c : start.at ≤ line.after.at = omega (arith, l.logical.forward) in c) l.logical.whole)
      (reads_returns (subst (λ x. line_written sub (place file start.number) joined x s ≡ returns (written_line x help s)) d
      (y.written sub (place file start.number) joined s)))

  -- where a line was written over, the reading goes on after the line and its help text
  pub changes_here : {a b : FileRun} (t : ReadingState) {out : WrittenFile} {help : Bool} {text new written : List ℕ} → text ≡ own → written ≡ new
      → {past : LineStart} → IsHelpPassed bytes line.after help past → out.original.value.items ≡ bytes → out.copied ≤ line.after.at
      → ((lines : ℕ) → split_at_newlines (drop line.after.at bytes) ≡ drop lines (split_at_newlines (drop start.at bytes))
      → text_up_to out line.after.at ≡ done ++ lines_written (take lines (split_at_newlines (drop start.at bytes))) text written)
      → Reads a b (line_of_file sub file bytes start own s) (ends (returned (written_line new help t)))
      → PassesLine a b sub file bytes start s before t out past
  changes_here t {out = out} {new = new} {written = written} d e passed o c x r =
      let ls = take l.lines (split_at_newlines (drop start.at bytes)) in
      line_goes t out new passed o c (x l.lines l.logical.whole ∙ ap (λ z. done ++ lines_written ls z written) d ∙ ap (λ z. done ++ lines_written ls own z) e) r

-- the program that writes a line of a file, by the line as the code has it
pub line_shown : (P : Program WrittenLine → Type 0) (sub : SourceReader) (file bytes : List ℕ) (start : LineStart) (s : ReadingState)
    {text shown : List ℕ} {joined : Bool} → shown ≡ text → joined ≡ is_first_continued (physical_lines (drop start.at bytes))
    → P (line_written sub (place file start.number) joined shown s) → P (line_of_file sub file bytes start text s)
line_shown P sub file bytes start s {text = text} {joined = joined} d j h =
    subst (λ x. P (line_written sub (place file start.number) x text s)) j (subst (λ y. P (line_written sub (place file start.number) joined y s)) d h)

pub line_leads : {a b : FileRun} {q : Program WrittenLine} (sub : SourceReader) (file bytes : List ℕ) (start : LineStart) (s : ReadingState)
    {text shown : List ℕ} {joined : Bool} → shown ≡ text → joined ≡ is_first_continued (physical_lines (drop start.at bytes))
    → Leads a (line_written sub (place file start.number) joined shown s) b q → Leads a (line_of_file sub file bytes start text s) b q
line_leads {a = a} {b = b} {q = q} sub file bytes start s d j h = line_shown (λ p. Leads a p b q) sub file bytes start s d j h

-- what became of a line of a file that sources files
pub meets_source : (a b : FileRun) (sub : SourceReader) (file bytes : List ℕ) (start : LineStart) (s : ReadingState) (before : WrittenFile) (t : ReadingState)
    (out : WrittenFile) {x : LineHere} {here : SourceHere} → x ≡ kinds.Sources here → IsMet a b sub file bytes start s before t out x
    → MeetsSource a b sub file bytes start s before t out here
meets_source a b sub file bytes start s before t out e m = subst (IsMet a b sub file bytes start s before t out) e m

-- a line whose files are read first
module _ {a b d : FileRun} {sub : SourceReader} {file bytes : List ℕ} {start : LineStart} {s t : ReadingState} {before out : WrittenFile} {here : SourceHere}
    (w : IsWrittenTo bytes start before) (m : MeetsSource a b sub file bytes start s before t out here) where
  pub source_halts : (stop : Stop)
      → Reads b d (source_followed sub (place_of here.at) (tokens_of here.source.tokens.items) (source_sort_of here.source.sort)
      (Some here.source.given.items) t) (end_of_stop stop)
      → Reads a d (lines_from sub file bytes start before s) (end_of_stop stop)
  source_halts stop r = line_halted sub file m.line s w stop (reads_on m.leads (reads_early (short_line (place_of here.at) false) stop r))

  pub source_lands : {text : List ℕ} {v : ReadingState}
      → Reads b d (source_followed sub (place_of here.at) (tokens_of here.source.tokens.items) (source_sort_of here.source.sort)
      (Some here.source.given.items) t) (ends (returned (progress text v)))
      → Leads a (line_of_file sub file bytes start (cow_slice_items here.line.text) s) d (short_line (place_of here.at) false (progress text v))
  source_lands r = leads_then m.leads (leads_on (short_line (place_of here.at) false) r)

-- where the lines of a file are read in turn, one begins within the file, and none is left at its end
module _ (bytes : List ℕ) {n at : ℕ} (e : n ≡ length bytes) where
  pub there_shown : {shown : List ℕ} → shown ≡ bytes → at < n → at < length shown
  there_shown h l = omega (arith, ap length h)

  pub comes_nearer : {next : ℕ} → at < n → at < next → length bytes - next < length bytes - at
  comes_nearer l h = omega arith

  pub lines_ended : n ≤ at → length bytes ≤ at
  lines_ended h = omega arith

  pub lines_end : {original : List ℕ} → original ≡ bytes → at ≤ length bytes → n ≤ at → length original ≡ at
  lines_end h w l = omega (arith, ap length h)
