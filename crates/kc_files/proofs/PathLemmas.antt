-- Folders of paths.
use Rattle.std.proofs.Common.{◌≡◌, ℕ, ◌-◌, ◌≤◌, not, ◌==◌, List, ◌++◌, length, take, drop, sym, ap, ◌∙◌, arith, reverse}
use Rattle.std.specs.List.{suffix_len}
use Rattle.std.proofs.lemmas.List.{reverse-append, reverse-reverse, length-reverse, length-drop, take-append-drop, drop_at}
use Rattle.std.proofs.lemmas.List.Sums.{suffix_len-le-length}
use Rattle.kc_macros_model.specs.TreeExpansion.{folder_of}

pub without_end : (k : ℕ) (xs : List ℕ) → k ≤ length xs → reverse (drop k (reverse xs)) ≡ take (length xs - k) xs
without_end k xs h =
    let n = length xs - k in
    let cut : reverse xs ≡ reverse (drop n xs) ++ reverse (take n xs) = ap reverse (sym (take-append-drop n xs)) ∙ reverse-append (take n xs) (drop n xs) in
    let len : length (reverse (drop n xs)) ≡ k = length-reverse (drop n xs) ∙ omega (arith, length-drop n xs) in
    ap reverse (ap (drop k) cut ∙ drop_at (reverse (drop n xs)) (reverse (take n xs)) k len) ∙ reverse-reverse (take n xs)

pub folder_is : (path : List ℕ) → folder_of path ≡ take (length path - suffix_len (λ c. not (c == 47)) path) path
folder_is path = without_end (suffix_len (λ c. not (c == 47)) path) path (suffix_len-le-length (λ c. not (c == 47)) path)
