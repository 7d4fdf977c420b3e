-- Help texts end by indentation.
use Rattle.std.proofs.Common.{◌==◌}
use Rattle.std.specs.Prelude.{take_while}
use Rattle.kc_tree_model.proofs.Common.{◌≡◌, ℕ, zero, suc, ◌+◌, ◌<◌, Bool, true, false, ◌||◌, ◌&&◌, cond, List, [], ◌∷◌, ◌++◌, length, refl, ap, sym, ◌∙◌, subst, arith, nat_le, list_all, and_parts, lt-ltb, eqb-true, eqb-false, PhysicalLine, help_line_count, logical_lines_from, help_lines}
use Rattle.std.proofs.lemmas.List.Sums.{take_while-cons}
use Rattle.kc_tree_model.specs.LogicalLines.{is_blank, indentation, first_indentation}
use Rattle.kc_tree_model.specs.LineGrammar.{is_of_help, begins_of_help, IsHelpText}

-- the test of the lines, where the column isn't 0
abbrev reaches : ℕ → PhysicalLine → Bool
reaches n l = is_blank l || nat_le n (indentation l)

column_none : (help : List PhysicalLine) → list_all (is_of_help 0) help ≡ true → length help ≡ 0
column_none [] all = refl
column_none (l ∷ ls) all = cc

of_help_is : (n : ℕ) (l : PhysicalLine) → 0 < n → is_of_help n l ≡ reaches n l
of_help_is n l some = ap (λ t. t && reaches n l) (lt-ltb 0 n some)

of_help_reaches : (n : ℕ) (help : List PhysicalLine) → 0 < n → list_all (is_of_help n) help ≡ true → list_all (reaches n) help ≡ true
of_help_reaches n [] some all = refl
of_help_reaches n (l ∷ ls) some all =
    let p = and_parts (is_of_help n l) (list_all (is_of_help n) ls) all in
    ap (λ t. t && list_all (reaches n) ls) (sym (of_help_is n l some) ∙ p.0) ∙ of_help_reaches n ls some p.1

-- whether the first passes
abbrev first_passes : (PhysicalLine → Bool) → List PhysicalLine → Bool
first_passes test [] = false
first_passes test (l ∷ ls) = test l

begins_reaches : (n : ℕ) (rest : List PhysicalLine) → 0 < n → begins_of_help n rest ≡ false → first_passes (reaches n) rest ≡ false
begins_reaches n [] some e = refl
begins_reaches n (l ∷ ls) some e = sym (of_help_is n l some) ∙ e

taken_none : (test : PhysicalLine → Bool) (rest : List PhysicalLine) → first_passes test rest ≡ false → length (take_while test rest) ≡ 0
taken_none test [] e = refl
taken_none test (l ∷ ls) e = ap length (take_while-cons test l ls ∙ ap (λ t. cond t (l ∷ take_while test ls) []) e)

taken_front : (test : PhysicalLine → Bool) (front rest : List PhysicalLine) → list_all test front ≡ true → first_passes test rest ≡ false
    → length (take_while test (front ++ rest)) ≡ length front
taken_front test [] rest all e = taken_none test rest e
taken_front test (l ∷ ls) rest all e =
    let p = and_parts (test l) (list_all test ls) all in
    ap length (take_while-cons test l (ls ++ rest) ∙ ap (λ t. cond t (l ∷ take_while test (ls ++ rest)) []) p.0) ∙ ap suc (taken_front test ls rest p.1 e)

len_by : (b : Bool) (n : ℕ) (help rest : List PhysicalLine) → (n == 0) ≡ b → list_all (is_of_help n) help ≡ true → begins_of_help n rest ≡ false
    → cond b 0 (length (take_while (reaches n) (help ++ rest))) ≡ length help
len_by true n help rest e all stops = sym (column_none help (subst (λ k. list_all (is_of_help k) help ≡ true) (eqb-true n 0 e) all))
len_by false n help rest e all stops =
    let some : 0 < n = above n (eqb-false n 0 e) in
    taken_front (reaches n) help rest (of_help_reaches n help some all) (begins_reaches n rest some stops)
  where
    above : (n : ℕ) → (n ≡ 0 → ⊥) → 0 < n
    above zero no_zero = absurd (no_zero refl)
    above (suc n) no_zero = omega arith

pub help_count : (help rest : List PhysicalLine) → IsHelpText help rest → help_line_count (help ++ rest) ≡ length help
help_count help rest h = len_by (first_indentation (help ++ rest) == 0) (first_indentation (help ++ rest)) help rest refl h.within h.ends

-- the physical lines of a help text at the front give its help lines, then the logical lines of the rest
pub help_passed : (n : ℕ) (help rest : List PhysicalLine)
    → logical_lines_from 0 (length help) n (help ++ rest) ≡ help_lines n help ++ logical_lines_from 0 0 (n + length help) rest
help_passed n [] rest = ap (λ k. logical_lines_from 0 0 k rest) (omega arith)
help_passed n (l ∷ ls) rest =
    ap (λ x. record { number = n; text = l.text; help = true } ∷ x) (help_passed (n + 1) ls rest
    ∙ ap (λ k. help_lines (n + 1) ls ++ logical_lines_from 0 0 k rest) (omega arith))

-- the division of physical lines into the help text at their front, which may be empty, and the rest
pub record Help (all : List PhysicalLine) : Type 0 where
  pub help : List PhysicalLine
  pub rest : List PhysicalLine
  pub parts : all ≡ help ++ rest
  pub is_help : IsHelpText help rest

record Parted (test : PhysicalLine → Bool) (all : List PhysicalLine) : Type 0 where
  front : List PhysicalLine
  rest : List PhysicalLine
  parts : all ≡ front ++ rest
  passes : list_all test front ≡ true
  stops : first_passes test rest ≡ false

parted : (test : PhysicalLine → Bool) (all : List PhysicalLine) → Parted test all
parted test [] = record { front = []; rest = []; parts = refl; passes = refl; stops = refl }
parted test (l ∷ ls) = by_test (test l) refl (parted test ls)
  where
    by_test : (t : Bool) → test l ≡ t → Parted test ls → Parted test (l ∷ ls)
    by_test true e p =
        record {
          front = l ∷ p.front;
          rest = p.rest;
          parts = ap (λ x. l ∷ x) p.parts;
          passes = ap (λ t. t && list_all test p.front) e
              ∙ p.passes;
          stops = p.stops;
        }
    by_test false e p = record { front = []; rest = l ∷ ls; parts = refl; passes = refl; stops = e }

begins_is_first : (n : ℕ) (rest : List PhysicalLine) → first_passes (is_of_help n) rest ≡ false → begins_of_help n rest ≡ false
begins_is_first n [] e = refl
begins_is_first n (l ∷ ls) e = e

pub help_of : (all : List PhysicalLine) → Help all
help_of all =
    let p = parted (is_of_help (first_indentation all)) all in
    record {
      help = p.front;
      rest = p.rest;
      parts = p.parts;
      is_help = record {
        within = subst (λ x. list_all (is_of_help (first_indentation x)) p.front ≡ true) p.parts p.passes;
        ends = subst (λ x. begins_of_help (first_indentation x) p.rest ≡ false) p.parts (begins_is_first (first_indentation all) p.rest p.stops);
      };
    }
