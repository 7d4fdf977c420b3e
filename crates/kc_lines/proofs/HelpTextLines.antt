-- Lines of help texts.
use Rattle.std.proofs.Common.{◌≡◌, ℕ, suc, ◌+◌, ◌≤◌, Bool, true, false, List, [], ◌∷◌, length, drop, refl, ap, sym, ◌∙◌, arith, cond}
use Rattle.std.specs.Prelude.{take_while, ◌==◌}
use Rattle.std.proofs.Math.Seq.{drop-length}
use Rattle.std.proofs.lemmas.List.Sums.{take_while-cons}
use Rattle.kc_tree_model.specs.LogicalLines.{PhysicalLine as LineView, split_at_newlines, physical_lines, first_indentation}
use Rattle.kc_lines.specs.declared.lines.PhysicalLine.{PhysicalLine}
use Rattle.kc_lines.specs.between.LinePlaces.{line_of, whole_line, IsLineAt, is_of_help, AreIndented, AreIndentedSoFar, IsHelpAt}
use Rattle.kc_lines.proofs.ContinuedLines.{drop_one_more}

taken : (p : LineView → Bool) (l : LineView) (ls : List LineView) → p l ≡ true → length (take_while p (l ∷ ls)) ≡ suc (length (take_while p ls))
taken p l ls e = ap length (take_while-cons p l ls) ∙ ap (λ b. length (cond b (l ∷ take_while p ls) [])) e

not_taken : (p : LineView → Bool) (l : LineView) (ls : List LineView) → p l ≡ false → length (take_while p (l ∷ ls)) ≡ 0
not_taken p l ls e = ap length (take_while-cons p l ls) ∙ ap (λ b. length (cond b (l ∷ take_while p ls) [])) e

module _ (columns : ℕ) (bytes : List ℕ) (at begin lines : ℕ) (so_far : AreIndentedSoFar columns bytes at begin lines) where
  pub indented_more : (p : PhysicalLine) → IsLineAt bytes begin p → is_of_help columns (line_of bytes begin p) ≡ true
      → AreIndentedSoFar columns bytes at p.next (lines + 1)
  indented_more p l e =
      let one = ap (λ ls. length (take_while (is_of_help columns) ls)) l.lines ∙ taken (is_of_help columns) (line_of bytes begin p)
      (physical_lines (drop p.next bytes)) e in
      record {
        count = omega (arith, so_far.count, one);
        whole = drop_one_more lines (whole_line bytes begin p) (split_at_newlines (drop p.next bytes)) (split_at_newlines (drop at bytes))
            (sym l.whole ∙ so_far.whole);
        within = l.within;
        few = omega (arith, so_far.few, l.forward);
      }

  pub indented_stops : (p : PhysicalLine) → IsLineAt bytes begin p → is_of_help columns (line_of bytes begin p) ≡ false
      → AreIndented columns bytes at begin lines
  indented_stops p l e =
      let none = ap (λ ls. length (take_while (is_of_help columns) ls)) l.lines ∙ not_taken (is_of_help columns) (line_of bytes begin p)
      (physical_lines (drop p.next bytes)) e in
      record { count = omega (arith, so_far.count, none); whole = so_far.whole; from = omega (arith, so_far.few); within = so_far.within; few = so_far.few }

  pub indented_end : length bytes ≤ begin → AreIndented columns bytes at begin lines
  indented_end h =
      let end : begin ≡ length bytes = omega (arith, so_far.within) in
      let none : length (take_while (is_of_help columns) (physical_lines (drop begin bytes))) ≡ 0 =
      ap (λ bs. length (take_while (is_of_help columns) (physical_lines bs))) (ap (λ k. drop k bytes) end ∙ drop-length bytes) in
      record { count = omega (arith, so_far.count, none); whole = so_far.whole; from = omega (arith, so_far.few); within = so_far.within; few = so_far.few }

pub no_help : (bytes : List ℕ) (at columns : ℕ) → at ≤ length bytes → columns ≡ first_indentation (physical_lines (drop at bytes)) → columns ≡ 0
    → IsHelpAt bytes at at 0
no_help bytes at columns h e z = record {
  count = sym (ap (λ n. cond (n == 0) 0 (length (take_while (is_of_help n) (physical_lines (drop at bytes))))) (sym e ∙ z));
  whole = refl;
  from = omega arith;
  within = h;
  few = omega arith;
}

pub some_help : (bytes : List ℕ) (at next lines columns : ℕ) → columns ≡ first_indentation (physical_lines (drop at bytes)) → (columns == 0) ≡ false
    → AreIndented columns bytes at next lines → IsHelpAt bytes at next lines
some_help bytes at next lines columns e n h = record {
  count = h.count ∙ sym (ap (λ n. cond (n == 0) 0 (length (take_while (is_of_help n) (physical_lines (drop at bytes))))) (sym e)
      ∙ ap (λ b. cond b 0 (length (take_while (is_of_help columns) (physical_lines (drop at bytes))))) n);
  whole = h.whole;
  from = h.from;
  within = h.within;
  few = h.few;
}
