-- The names of a tree's files, one after the other.
use Rattle.std.proofs.Common.{zero}
use Rattle.std.specs.Prelude.{slice_get}
use Rattle.kmin_trees.proofs.Common.{◌≡◌, ℕ, suc, ◌+◌, ◌<◌, List, [], ◌∷◌, ◌++◌, length, map, take, Option, Some, None, refl, sym, ap, ◌∙◌, arith, option_map, unwrap_or, Files, name_text}
use Rattle.kmin_trees.specs.between.FileNames.{text_at}

-- the name of a file
abbrev pub name_of_file : List ℕ × List ℕ → List ℕ
name_of_file file = name_text file.0

take_one : (files : List (List ℕ × List ℕ)) (n : ℕ) → n < length files
    → map name_of_file (take (suc n) files) ≡ map name_of_file (take n files) ++ unwrap_or (option_map name_of_file (slice_get files n)) [] ∷ []
take_one [] n lt = absurd (omega arith)
take_one (file ∷ files) zero lt = refl
take_one (file ∷ files) (suc n) lt = ap (λ names. name_of_file file ∷ names) (take_one files n (omega arith))

same_text : (file : Option (List ℕ × List ℕ))
    → unwrap_or (option_map name_text (option_map (λ (f : List ℕ × List ℕ). f.0) file)) [] ≡ unwrap_or (option_map name_of_file file) []
same_text None = refl
same_text (Some file) = refl

-- the names of one file more
pub one_more_path : (names : Files) (paths new : List (List ℕ)) (n : ℕ) (text : List ℕ) → n < length names.list
    → paths ≡ map name_of_file (take n names.list) → text ≡ text_at names n → new ≡ paths ++ text ∷ []
    → new ≡ map name_of_file (take (n + 1) names.list)
one_more_path names paths new n text lt before is pushed =
    pushed ∙ ap (λ ps. ps ++ text ∷ []) before
    ∙ ap (λ t. map name_of_file (take n names.list) ++ t ∷ []) (is ∙ same_text (slice_get names.list n)) ∙ sym (take_one names.list n lt)
    ∙ ap (λ k. map name_of_file (take k names.list)) (let next : suc n ≡ n + 1 = omega arith in next)
