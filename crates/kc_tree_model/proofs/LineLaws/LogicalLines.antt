-- The logical lines of a file are those of the grammar of lines.
use Rattle.std.proofs.Common.{◌≡◌, ℕ, zero, suc, ◌+◌, ◌<◌, ◌≤◌, Bool, true, false, cond, List, [], ◌∷◌, ◌++◌, length, drop, map, refl, ap, sym, ◌∙◌, subst, length-append, arith}
use Rattle.std.specs.Prelude.{◌↔◌}
use Rattle.std.proofs.Math.Seq.{drop-append_seam}
use Rattle.kc_tree_model.specs.LogicalLines.{PhysicalLine, LogicalLine, without_return, joined_bytes, continuation_count, begins_help, help_line_count, logical_lines_from, lines_of, physical_lines, split_at_newlines}
use Rattle.kc_tree_model.specs.LineGrammar.{IsJoined, help_lines, AreLogical, IsInLines}
use Rattle.kc_tree_model.specs.LineGrammar.AreLogical.{none, line, with_help}
use Rattle.kc_tree_model.proofs.LineLaws.CutLines.{cut_lines, lines_cut}
use Rattle.kc_tree_model.proofs.LineLaws.JoinedLines.{some_joined, joined_text, joined_count, Front, front_of}
use Rattle.kc_tree_model.proofs.LineLaws.HelpTexts.{help_count, help_passed, help_of}
use Rattle.kc_tree_model.proofs.LineLaws.HelpWords.{word_of_help, none_of_help, help_of_word, help_of_none}

-- lines that belong to the line before are passed over
passed_over : (joined help n : ℕ) (ls : List PhysicalLine) → logical_lines_from joined help n ls ≡ logical_lines_from 0 help (n + joined) (drop joined ls)
passed_over zero help n [] = refl
passed_over zero help n (l ∷ ls) = ap (λ k. logical_lines_from 0 help k (l ∷ ls)) (omega arith)
passed_over (suc joined) zero n [] = refl
passed_over (suc joined) (suc help) n [] = refl
passed_over (suc joined) help n (l ∷ ls) = passed_over joined help (n + 1) ls ∙ ap (λ k. logical_lines_from 0 help k (drop joined ls)) (omega arith)

first_logical : (n : ℕ) (ls : List PhysicalLine) → 0 < length ls
    → logical_lines_from 0 0 n ls ≡ record { number = n; text = joined_bytes ls; help = false } ∷ logical_lines_from 0
    (cond (begins_help (joined_bytes ls)) (help_line_count (drop (suc (continuation_count ls)) ls)) 0) (n + suc (continuation_count ls))
    (drop (suc (continuation_count ls)) ls)
first_logical n [] some = absurd (omega arith)
first_logical n (l ∷ ls) some =
    ap (λ r. record { number = n; text = joined_bytes (l ∷ ls); help = false } ∷ r)
    (passed_over (continuation_count (l ∷ ls)) (cond (begins_help (joined_bytes (l ∷ ls))) (help_line_count (drop (continuation_count (l ∷ ls)) ls)) 0)
    (n + 1) ls ∙ ap (λ k. logical_lines_from 0 (cond (begins_help (joined_bytes (l ∷ ls))) (help_line_count (drop (continuation_count (l ∷ ls)) ls)) 0) k
    (drop (continuation_count (l ∷ ls)) ls)) (omega arith))

-- the line at the front, and what is left
front_logical : (n : ℕ) (front rest : List PhysicalLine) (text : List ℕ) → IsJoined rest front text
    → logical_lines_from 0 0 n (front ++ rest) ≡ record { number = n; text = text; help = false } ∷ logical_lines_from 0
    (cond (begins_help text) (help_line_count rest) 0) (n + length front) rest
front_logical n front rest text j =
    first_logical n (front ++ rest) (omega (arith, some_joined j, length-append front rest))
    ∙ ap (λ t. record { number = n; text = t; help = false } ∷ logical_lines_from 0
    (cond (begins_help t) (help_line_count (drop (suc (continuation_count (front ++ rest))) (front ++ rest))) 0)
    (n + suc (continuation_count (front ++ rest))) (drop (suc (continuation_count (front ++ rest))) (front ++ rest))) (joined_text j)
    ∙ ap (λ k. record { number = n; text = text; help = false } ∷ logical_lines_from 0 (cond (begins_help text) (help_line_count (drop k (front ++ rest))) 0)
    (n + k) (drop k (front ++ rest))) (joined_count j)
    ∙ ap (λ r. record { number = n; text = text; help = false } ∷ logical_lines_from 0 (cond (begins_help text) (help_line_count r) 0) (n + length front) r)
    (drop-append_seam front rest)

-- physical lines that are these logical lines by the grammar are read as exactly these
pub logical_only : {n : ℕ} {ps : List PhysicalLine} {ls : List LogicalLine} → AreLogical n ps ls → logical_lines_from 0 0 n ps ≡ ls
logical_only none = refl
logical_only {n = n} (line {front = front} {rest = rest} {text = text} j other more) =
    front_logical n front rest text j
    ∙ ap (λ t. record { number = n; text = text; help = false } ∷ logical_lines_from 0 (cond t (help_line_count rest) 0) (n + length front) rest)
    (help_of_none text other)
    ∙ ap (λ x. record { number = n; text = text; help = false } ∷ x) (logical_only more)
logical_only {n = n} (with_help {front = front} {help = help} {rest = rest} {text = text} j begins h more) =
    front_logical n front (help ++ rest) text j
    ∙ ap (λ t. record { number = n; text = text; help = false } ∷ logical_lines_from 0 (cond t (help_line_count (help ++ rest)) 0) (n + length front)
    (help ++ rest)) (help_of_word text begins)
    ∙ ap (λ k. record { number = n; text = text; help = false } ∷ logical_lines_from 0 k (n + length front) (help ++ rest)) (help_count help rest h)
    ∙ ap (λ x. record { number = n; text = text; help = false } ∷ x) (help_passed (n + length front) help rest
    ∙ ap (λ x. help_lines (n + length front) help ++ x) (logical_only more))

-- and all lines are some
abbrev Lines : ℕ → List PhysicalLine → Type 0
Lines n ps = (ls : List LogicalLine) × AreLogical n ps ls

lines_after_front : (n : ℕ) (f : PhysicalLine) (ps : List PhysicalLine)
    → ((m : ℕ) (qs : List PhysicalLine) → length qs ≤ length ps → Lines m qs) → Front (f ∷ ps)
    → Lines n (f ∷ ps)
lines_after_front n f ps rec x = by_help (begins_help x.text) refl
  where
    size : length x.rest ≤ length ps
    size = omega (arith, ap length x.parts, length-append x.front x.rest, some_joined x.is_joined)

    by_help : (t : Bool) → begins_help x.text ≡ t → Lines n (f ∷ ps)
    by_help false e =
        let more = rec (n + length x.front) x.rest size in (
          record { number = n; text = x.text; help = false } ∷ more.0,
          subst
              (λ ps. AreLogical n ps (record { number = n; text = x.text; help = false } ∷ more.0)) (sym x.parts)
              (line x.is_joined (none_of_help x.text e) more.1),
        )
    by_help true e =
        let h = help_of x.rest in
        let more = rec (n + length x.front + length h.help) h.rest (omega (arith, size, ap length h.parts, length-append h.help h.rest)) in (
          record { number = n; text = x.text; help = false } ∷ (help_lines (n + length x.front) h.help ++ more.0),
          subst (λ ps. AreLogical n ps (record { number = n; text = x.text; help = false } ∷ (help_lines (n + length x.front) h.help ++ more.0)))
              (sym (x.parts ∙ ap (λ r. x.front ++ r) h.parts))
              (with_help (subst (λ r. IsJoined r x.front x.text) h.parts x.is_joined) (word_of_help x.text e) h.is_help more.1),
        )

all_lines : (k n : ℕ) (ps : List PhysicalLine) → length ps ≤ k → Lines n ps
all_lines k n [] few = ([], none)
all_lines zero n (p ∷ ps) few = absurd (omega arith)
all_lines (suc k) n (p ∷ ps) few = lines_after_front n p ps (λ m qs l. all_lines k m qs (omega arith)) (front_of p ps)

-- the logical lines computed from a file's bytes are exactly those of the grammar of lines
pub lines_are_so : (bytes : List ℕ) (ls : List LogicalLine) → (lines_of bytes ≡ ls) ↔ IsInLines bytes ls
unfolding lines_of
lines_are_so bytes ls =
    let made = all_lines (length (physical_lines bytes)) 1 (physical_lines bytes) (omega arith) in (
      (λ e. (split_at_newlines bytes, cut_lines bytes, subst (AreLogical 1 (physical_lines bytes)) (sym (logical_only made.1) ∙ e) made.1)),
      (λ h. ap (λ ps. logical_lines_from 0 0 1 (map without_return ps)) (lines_cut h.1) ∙ logical_only h.2),
    )
