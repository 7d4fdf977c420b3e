-- Physical lines that a backslash at the end joins with the next line.
use Rattle.std.proofs.Common.{◌≡◌, ℕ, suc, zero, ◌+◌, ◌≤◌, ◌<◌, Bool, true, false, List, [], ◌∷◌, ◌++◌, length, drop, take, refl, ap, sym, ◌∙◌, arith, cond, ◌-◌, ◌==◌, length-drop, drop-drop, append_assoc}
use Rattle.std.proofs.lemmas.List.{length-map}
use Rattle.std.proofs.lemmas.List.{length-take-le}
use Rattle.std.proofs.Math.Seq.{drop-length}
use Rattle.std.specs.Prelude.{slice_range}
use Rattle.kc_tree_model.specs.LogicalLines.{PhysicalLine as LineView, split_at_newlines, with_first_byte, physical_lines, without_last, is_continued, joined_bytes, continuation_count, logical_lines_from, begins_help, help_line_count}
use Rattle.kc_lines.specs.declared.lines.PhysicalLine.{PhysicalLine}
use Rattle.kc_lines.specs.between.LinePlaces.{line_of, whole_line, IsLineAt, IsLogicalAt, AreJoined}
use Rattle.kc_lines.proofs.CutSteps.{take_less}

joined_alone : (l : LineView) (ls : List LineView) → is_continued l ≡ false → joined_bytes (l ∷ ls) ≡ l.text
joined_alone l ls e = rw e refl

joined_more : (l : LineView) (ls : List LineView) → is_continued l ≡ true → joined_bytes (l ∷ ls) ≡ without_last l.text ++ joined_bytes ls
joined_more l ls e = rw e refl

lines_alone : (l : LineView) (ls : List LineView) → is_continued l ≡ false → continuation_count (l ∷ ls) ≡ 0
lines_alone l [] e = refl
lines_alone l (m ∷ ls) e = rw e refl

lines_more : (l : LineView) (ls : List LineView) → is_continued l ≡ true → 0 < length ls → continuation_count (l ∷ ls) ≡ suc (continuation_count ls)
lines_more l [] e h = absurd (omega arith)
lines_more l (m ∷ ls) e h = rw e refl

-- a list of one byte or more has a line
byte_before_some : (b : ℕ) (ls : List LineView) → 0 < length (with_first_byte b ls)
byte_before_some b [] = omega arith
byte_before_some b (l ∷ ls) = omega arith

cut_some_by : (t : Bool) (b : ℕ) (ls : List LineView) → 0 < length (cond t (record { text = []; ended = true } ∷ ls) (with_first_byte b ls))
cut_some_by true b ls = omega arith
cut_some_by false b ls = byte_before_some b ls

lines_some : (bs : List ℕ) → 0 < length bs → 0 < length (physical_lines bs)
lines_some [] h = absurd (omega arith)
lines_some (b ∷ bs) h = simp length-map (cut_some_by (b == 10) b (split_at_newlines bs))

-- a line without its last byte
without_last_is : (bytes : List ℕ) (begin end : ℕ) → end ≤ length bytes → begin ≤ end
    → without_last (slice_range bytes begin end) ≡ slice_range bytes begin (end - 1)
without_last_is bytes begin end h s =
    let n : length (take (end - begin) (drop begin bytes)) ≡ end - begin = length-take-le (end - begin) (drop begin bytes)
    (omega (arith, length-drop begin bytes)) in
    rw n (take_less (end - begin - 1) (end - begin) (drop begin bytes) (omega arith) ∙ ap (λ k. take k (drop begin bytes)) (omega arith))

pub drop_one_more : (n : ℕ) (l : LineView) (ls all : List LineView) → l ∷ ls ≡ drop n all → ls ≡ drop (n + 1) all
drop_one_more n l ls all e = ap (drop 1) e ∙ drop-drop 1 n all

module _ (bytes : List ℕ) (at begin : ℕ) (text : List ℕ) (lines : ℕ) (p : PhysicalLine) (so_far : AreJoined bytes at begin text lines)
    (h : begin < length bytes) (l : IsLineAt bytes begin p) where
  pub joined_stops : is_continued (line_of bytes begin p) ≡ false → IsLogicalAt bytes at (text ++ slice_range bytes begin p.end) p.next (lines + 1)
  joined_stops e =
      let ls = physical_lines (drop p.next bytes) in
      let one : continuation_count (physical_lines (drop begin bytes)) ≡ 0 = ap continuation_count l.lines ∙ lines_alone (line_of bytes begin p) ls e in
      let n = so_far.lines_are h in
      record {
        text_is = sym (ap (λ t. text ++ t) (ap joined_bytes l.lines ∙ joined_alone (line_of bytes begin p) ls e)) ∙ so_far.text_is;
        lines_are = omega arith;
        rest = drop_one_more lines (line_of bytes begin p) ls (physical_lines (drop at bytes)) (sym l.lines ∙ so_far.rest);
        whole = drop_one_more lines (whole_line bytes begin p) (split_at_newlines (drop p.next bytes)) (split_at_newlines (drop at bytes))
            (sym l.whole ∙ so_far.whole);
        forward = omega arith;
        within = l.within;
        few = omega arith;
      }

  pub joined_goes_on : is_continued (line_of bytes begin p) ≡ true → AreJoined bytes at p.next (text ++ slice_range bytes begin (p.end - 1)) (lines + 1)
  joined_goes_on e =
      let ls = physical_lines (drop p.next bytes) in
      let n = so_far.lines_are h in
      let w = without_last_is bytes begin p.end (omega arith) l.start in
      record {
        text_is = append_assoc text (slice_range bytes begin (p.end - 1)) (joined_bytes ls)
            ∙ sym (ap (λ t. text ++ t) (ap joined_bytes l.lines ∙ joined_more (line_of bytes begin p) ls e ∙ ap (λ t. t ++ joined_bytes ls) w))
            ∙ so_far.text_is;
        lines_are = λ m. let k = ap continuation_count l.lines ∙ lines_more (line_of bytes begin p) ls e
            (lines_some (drop p.next bytes) (omega (arith, length-drop p.next bytes))) in omega arith;
        at_end = λ m. let k : continuation_count (physical_lines (drop begin bytes)) ≡ 0 = ap continuation_count
            (l.lines ∙ ap (λ r. line_of bytes begin p ∷ physical_lines r) (ap (λ j. drop j bytes) m ∙ drop-length bytes)) in omega arith;
        rest = drop_one_more lines (line_of bytes begin p) ls (physical_lines (drop at bytes)) (sym l.lines ∙ so_far.rest);
        whole = drop_one_more lines (whole_line bytes begin p) (split_at_newlines (drop p.next bytes)) (split_at_newlines (drop at bytes))
            (sym l.whole ∙ so_far.whole);
        within = l.within;
        few = omega arith;
      }

-- a physical line without a backslash at its end is a logical line by itself
pub line_alone : (bytes : List ℕ) (at : ℕ) (p : PhysicalLine) → IsLineAt bytes at p → is_continued (line_of bytes at p) ≡ false
    → IsLogicalAt bytes at (slice_range bytes at p.end) p.next 1
line_alone bytes at p l e = record {
  text_is = sym (ap joined_bytes l.lines ∙ joined_alone (line_of bytes at p) (physical_lines (drop p.next bytes)) e);
  lines_are = sym (ap suc (ap continuation_count l.lines ∙ lines_alone (line_of bytes at p) (physical_lines (drop p.next bytes)) e));
  rest = sym (ap (drop 1) l.lines);
  whole = sym (ap (drop 1) l.whole);
  forward = l.forward;
  within = l.within;
  few = omega arith;
}

-- joined physical lines after the first one of a logical line are passed over
logical_after : (joined help n : ℕ) (ls : List LineView) → logical_lines_from joined help n ls ≡ logical_lines_from 0 help (n + joined) (drop joined ls)
logical_after zero help n [] = refl
logical_after zero help n (l ∷ ls) = ap (λ k. logical_lines_from 0 help k (l ∷ ls)) (omega arith)
logical_after (suc joined) zero n [] = refl
logical_after (suc joined) (suc help) n [] = refl
logical_after (suc joined) help n (l ∷ ls) = logical_after joined help (n + 1) ls ∙ ap (λ k. logical_lines_from 0 help k (drop joined ls)) (omega arith)

logical_front : (n : ℕ) (ls : List LineView) → 0 < length ls
    → logical_lines_from 0 0 n ls ≡ record { number = n; text = joined_bytes ls; help = false } ∷ logical_lines_from 0
    (cond (begins_help (joined_bytes ls)) (help_line_count (drop (suc (continuation_count ls)) ls)) 0) (n + suc (continuation_count ls))
    (drop (suc (continuation_count ls)) ls)
logical_front n [] h = absurd (omega arith)
logical_front n (l ∷ ls) h =
    ap (λ r. record { number = n; text = joined_bytes (l ∷ ls); help = false } ∷ r)
    (logical_after (continuation_count (l ∷ ls)) (cond (begins_help (joined_bytes (l ∷ ls))) (help_line_count (drop (continuation_count (l ∷ ls)) ls)) 0)
    (n + 1) ls ∙ ap (λ k. logical_lines_from 0 (cond (begins_help (joined_bytes (l ∷ ls))) (help_line_count (drop (continuation_count (l ∷ ls)) ls)) 0) k
    (drop (continuation_count (l ∷ ls)) ls)) (omega arith))

-- the logical lines from `at` on are the one that begins at `at`, and those after it
pub logical_step : (bytes : List ℕ) (at n : ℕ) (text : List ℕ) (next lines : ℕ) → at < length bytes → IsLogicalAt bytes at text next lines
    → logical_lines_from 0 0 n (physical_lines (drop at bytes)) ≡ record { number = n; text = text; help = false } ∷ logical_lines_from 0
    (cond (begins_help text) (help_line_count (physical_lines (drop next bytes))) 0) (n + lines) (physical_lines (drop next bytes))
logical_step bytes at n text next lines h l =
    let t = l.text_is in
    let k = l.lines_are in
    let r = l.rest in
    rw (r, t, k) (logical_front n (physical_lines (drop at bytes)) (lines_some (drop at bytes) (omega (arith, length-drop at bytes))))

-- within a help text, the lines from `at` on are the physical line that begins at `at`, and those after it
pub help_step : (bytes : List ℕ) (at n help : ℕ) (p : PhysicalLine) → IsLineAt bytes at p
    → logical_lines_from 0 (suc help) n (physical_lines (drop at bytes)) ≡ record { number = n; text = slice_range bytes at p.end; help = true }
    ∷ logical_lines_from 0 help (n + 1) (physical_lines (drop p.next bytes))
help_step bytes at n help p l = ap (logical_lines_from 0 (suc help) n) l.lines
