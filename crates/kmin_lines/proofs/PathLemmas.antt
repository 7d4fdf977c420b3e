-- Lemmas on lists of paths: paths that aren't UTF-8, and tests of all paths of a list.
use Rattle.kmin_lines.proofs.Common.{◌≡◌, ℕ, Bool, true, false, ◌&&◌, List, ◌∷◌, ◌++◌, refl, ap, ◌∙◌, list_all, is_utf8, false_from_ne_true}
use Rattle.std.specs.Str.{IsUtf8}
use Rattle.std.proofs.lemmas.Str.{IsUtf8-from_is_utf8}
use Rattle.std.proofs.lemmas.List.Folds.{list_all-append}

pub not_utf8 : (bytes : List ℕ) → (IsUtf8 bytes → ⊥) → is_utf8 bytes ≡ false
not_utf8 bytes fails = false_from_ne_true (is_utf8 bytes) (λ holds. fails (IsUtf8-from_is_utf8 bytes holds))

-- where one path of a list fails a test, not all paths of the list pass it
pub one_fails : (test : List ℕ → Bool) (front : List (List ℕ)) (path : List ℕ) (back : List (List ℕ)) → test path ≡ false
    → list_all test (front ++ path ∷ back) ≡ false
one_fails test front path back fails = list_all-append test front (path ∷ back) ∙ ap (λ b. list_all test front && (b && list_all test back)) fails
    ∙ and_false (list_all test front)
  where
    and_false : (b : Bool) → (b && false) ≡ false
    and_false true = refl
    and_false false = refl
