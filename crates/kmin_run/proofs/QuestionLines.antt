-- The lines of questions.
use Rattle.kmin_run.proofs.Common.{◌≡◌, ℕ, List, [], ◌∷◌, ◌++◌, Vec, refl, ap, flat_map, Global, items_of, question_line, questions_text}

-- the lines of questions that are held in vectors are those of the vectors' elements
pub mapped_lines : (asked : List (Vec ℕ Global)) → flat_map (λ (q : Vec ℕ Global). question_line q.items) asked ≡ questions_text (items_of asked)
mapped_lines [] = refl
mapped_lines (q ∷ qs) = ap (λ text. question_line q.items ++ text) (mapped_lines qs)
