-- The counts of a bag of lines after one line is added or taken away.
use Rattle.std.proofs.Common.{◌≤◌}
use Rattle.std.specs.Prelude.{unwrap_or}
use Rattle.kmin_lines.proofs.Common.{◌≡◌, ℕ, ◌+◌, ◌-◌, ◌<◌, ◌==◌, Bool, true, false, cond, List, [], ◌∷◌, ◌++◌, Option, Some, length, refl, sym, ap, ◌∙◌, arith, bytes_eq, onto_first, pieces, without_one, lines_of, without_carriage_return, times_among}
use Rattle.std.proofs.lemmas.Cmp.{nat_list_eq_equiv}
use Rattle.std.proofs.lemmas.Slice.Eq.{bytes_eq-Decides}
use Rattle.std.proofs.lemmas.List.{length-map}

-- 1 if a line equals another one, else 0
abbrev pub one_if : (line other : List ℕ) → ℕ
one_if line other = cond (bytes_eq line other) 1 0

-- a line appended to a list of lines adds 1 to the occurrences of the lines that equal it, and 0 to those of others
pub times_append : (lines : List (List ℕ)) (other line : List ℕ) → times_among (lines ++ other ∷ []) line ≡ times_among lines line + one_if line other
times_append [] other line = omega arith
times_append (first ∷ lines) other line = let h = times_append lines other line in omega arith

-- taking away a line that isn't in a list of lines leaves the list as it is
absent_by : (line other : List ℕ) (lines : List (List ℕ)) (b : Bool) → cond b 1 0 + times_among lines line ≡ 0
    → (times_among lines line ≡ 0 → without_one line lines ≡ lines)
    → cond b lines (other ∷ without_one line lines) ≡ other ∷ lines
absent_by line other lines true none h = absurd (omega arith)
absent_by line other lines false none h = ap (λ rest. other ∷ rest) (h (omega arith))

pub absent : (line : List ℕ) (lines : List (List ℕ)) → times_among lines line ≡ 0 → without_one line lines ≡ lines
absent line [] none = refl
absent line (other ∷ lines) none = absent_by line other lines (bytes_eq line other) none (absent line lines)

-- taking one occurrence of a line out of a list lowers the count of that line by 1, and keeps the counts of the other lines
fewer_by : (line other any : List ℕ) (lines : List (List ℕ)) (b : Bool) → bytes_eq line other ≡ b → 0 < cond b 1 0 + times_among lines line
    → (0 < times_among lines line → times_among (without_one line lines) any + one_if any line ≡ times_among lines any)
    → times_among (cond b lines (other ∷ without_one line lines)) any + one_if any line ≡ one_if any other + times_among lines any
fewer_by line other any lines true same some h =
    let e : line ≡ other = (bytes_eq-Decides line other).0 same in
    let f : one_if any line ≡ one_if any other = ap (one_if any) e in
    omega arith
fewer_by line other any lines false same some h =
    let k : times_among (without_one line lines) any + one_if any line ≡ times_among lines any = h (omega arith) in
    let e : times_among (other ∷ without_one line lines) any ≡ one_if any other + times_among (without_one line lines) any = refl in
    omega arith

pub fewer : (line any : List ℕ) (lines : List (List ℕ)) → 0 < times_among lines line → times_among (without_one line lines) any + one_if any line
    ≡ times_among lines any
fewer line any [] some = absurd (omega arith)
fewer line any (other ∷ lines) some = fewer_by line other any lines (bytes_eq line other) refl some (fewer line any lines)

one_at_most : (b : Bool) → cond b 1 0 ≤ 1
one_at_most true = omega arith
one_at_most false = omega arith

pub times-le-length : (lines : List (List ℕ)) (line : List ℕ) → times_among lines line ≤ length lines
times-le-length [] line = omega arith
times-le-length (other ∷ lines) line = let h = times-le-length lines line in let k = one_at_most (bytes_eq line other) in omega arith

-- the count `n` of any line grows by 1 if it is the line whose count was raised by 1 (`b`), and stays if it is another line
pub set_more : (b : Bool) (count n : ℕ) (o : Option ℕ) → (b ≡ true → n ≡ count) → n ≡ unwrap_or o 0 → unwrap_or (cond b (Some (count + 1)) o) 0 ≡ n + cond b 1 0
set_more true count n o h e = let k = h refl in omega arith
set_more false count n o h e = sym e ∙ (omega arith)

pub set_less : (b : Bool) (count n m : ℕ) (o : Option ℕ) → 0 < count → (b ≡ true → n ≡ count) → n ≡ unwrap_or o 0 → m + cond b 1 0 ≡ n
    → unwrap_or (cond b (Some (count - 1)) o) 0 ≡ m
set_less true count n m o some h e f = let k = h refl in omega arith
set_less false count n m o some h e f = sym e ∙ omega arith

-- where a bag counts the lines of a list, and the count of one line is raised by 1, it counts the list with that line appended
pub added : (before after : List ℕ → Option ℕ) (lines : List (List ℕ)) (line : List ℕ) (count : ℕ)
    → ((any : List ℕ) → unwrap_or (before any) 0 ≡ times_among lines any)
    → count ≡ unwrap_or (before line) 0 → ((any : List ℕ) → after any ≡ cond (bytes_eq line any) (Some (count + 1)) (before any))
    → (any : List ℕ) → unwrap_or (after any) 0 ≡ times_among (lines ++ line ∷ []) any
added before after lines line count each is sets any =
    ap (λ o. unwrap_or o 0) (sets any)
    ∙ set_more (bytes_eq line any) count (times_among lines any) (before any)
    (λ same. let e : line ≡ any = (bytes_eq-Decides line any).0 same in sym (each any) ∙ ap (λ l. unwrap_or (before l) 0) (sym e) ∙ sym is) (sym (each any))
    ∙ ap (λ b. times_among lines any + cond b 1 0) (nat_list_eq_equiv.symm line any)
    ∙ sym (times_append lines line any)

-- where a bag counts the lines of a list, and the count of one of them is lowered by 1, it counts the list without one such line
pub taken : (before after : List ℕ → Option ℕ) (lines : List (List ℕ)) (line : List ℕ) (count : ℕ)
    → ((any : List ℕ) → unwrap_or (before any) 0 ≡ times_among lines any)
    → 0 < count → count ≡ unwrap_or (before line) 0 → ((any : List ℕ) → after any ≡ cond (bytes_eq line any) (Some (count - 1)) (before any))
    → (any : List ℕ) → unwrap_or (after any) 0 ≡ times_among (without_one line lines) any
taken before after lines line count each some is sets any =
    let there : 0 < times_among lines line = let k = each line in omega arith in
    let less : times_among (without_one line lines) any + cond (bytes_eq line any) 1 0 ≡ times_among lines any =
    ap (λ b. times_among (without_one line lines) any + cond b 1 0) (nat_list_eq_equiv.symm line any) ∙ fewer line any lines there in
    ap (λ o. unwrap_or o 0) (sets any)
    ∙ set_less (bytes_eq line any) count (times_among lines any) (times_among (without_one line lines) any) (before any) some
    (λ same. let e : line ≡ any = (bytes_eq-Decides line any).0 same in sym (each any) ∙ ap (λ l. unwrap_or (before l) 0) (sym e) ∙ sym is)
    (sym (each any)) less

-- no text has more pieces than bytes
pub length_pieces : (ender : ℕ) (text : List ℕ) → length (pieces ender text) ≤ length text
length_pieces ender [] = omega arith
length_pieces ender (c ∷ cs) = by_test (c == ender) (pieces ender cs) (length_pieces ender cs)
  where
    by_test : (b : Bool) (rest : List (List ℕ)) → length rest ≤ length cs → length (cond b ([] ∷ rest) (onto_first c rest)) ≤ length (c ∷ cs)
    by_test true rest h = omega arith
    by_test false [] h = omega arith
    by_test false (piece ∷ rest) h = omega arith

pub length_lines : (text : List ℕ) → length (lines_of text) ≤ length text
length_lines text = let h = length_pieces 10 text in let k = length-map (pieces 10 text) without_carriage_return in omega arith
