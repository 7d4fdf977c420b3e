-- Texts of which one has no line.
use Rattle.kmin_lines.proofs.Common.{◌≡◌, ℕ, suc, Bool, true, false, cond, ◌==◌, List, [], ◌∷◌, map, length, refl, sym, ◌∙◌, arith, false_from_ne_true, eqb-true, onto_first, pieces, have_same_lines, without_carriage_return}
use Rattle.kmin_lines.specs.Lines.{are_same}

-- a text that isn't empty has a line, so it hasn't the lines of an empty text
some_line : (b : ℕ) (rest : List (List ℕ)) (is_end : Bool)
    → are_same [] (map without_carriage_return (cond is_end ([] ∷ rest) (onto_first b rest))) ≡ false
some_line b rest true = refl
some_line b [] false = refl
some_line b (line ∷ lines) false = refl

differs_from_empty : (b : ℕ) (bytes : List ℕ) → have_same_lines [] (b ∷ bytes) ≡ false
differs_from_empty b bytes = some_line b (pieces 10 bytes) (b == 10)

-- an empty text has the lines of another text exactly if that is empty, too
pub same_as_empty : (text : List ℕ) → (length text == 0) ≡ have_same_lines [] text
same_as_empty [] = refl
same_as_empty (b ∷ bytes) = not_empty (length bytes) ∙ sym (differs_from_empty b bytes)
  where
    not_empty : (n : ℕ) → (suc n == 0) ≡ false
    not_empty n = false_from_ne_true (suc n == 0) (λ same. let e : suc n ≡ 0 = eqb-true (suc n) 0 same in absurd (omega arith))
