-- Lists of paths, and of what is reported one after another.
use Rattle.std.proofs.Common.{◌≡◌, ℕ, suc, ◌+◌, ◌<◌, List, [], ◌∷◌, ◌++◌, refl, sym, ap, ◌∙◌, map, take, drop, length, get_or, drop-cons, take-append-drop}
use Rattle.std.specs.Borrow.{Bor}
use Rattle.std.proofs.lemmas.List.{take_more, map-append}

-- the map of a composition of two functions is one map after another
pub map_twice : {A B C : Type 0} (f : B → C) (g : A → B) (xs : List A) → map (λ x. f (g x)) xs ≡ map f (map g xs)
map_twice f g [] = refl
map_twice f g (x ∷ xs) = ap (λ ys. f (g x) ∷ ys) (map_twice f g xs)

-- the first k + 1 paths of a list are the first k, and the path at place k
pub paths_next : (paths : List (Bor (List ℕ))) (k : ℕ) (d : Bor (List ℕ)) → k < length paths
    → map (λ (path : Bor (List ℕ)). path.now) (take (k + 1) paths) ≡ map (λ (path : Bor (List ℕ)). path.now) (take k paths) ++ ((get_or paths k d).now ∷ [])
paths_next paths k d h =
    ap (map (λ (path : Bor (List ℕ)). path.now)) (take_more paths k d h)
    ∙ map-append (λ (path : Bor (List ℕ)). path.now) (take k paths) (get_or paths k d ∷ [])

-- a list of paths is those before place k, the path at place k, and those after it
pub paths_at : (paths : List (Bor (List ℕ))) (k : ℕ) (d : Bor (List ℕ)) → k < length paths
    → map (λ (path : Bor (List ℕ)). path.now) paths ≡ map (λ (path : Bor (List ℕ)). path.now) (take k paths)
    ++ ((get_or paths k d).now ∷ [] ++ map (λ (path : Bor (List ℕ)). path.now) (drop (suc k) paths))
paths_at paths k d h =
    ap (map (λ (path : Bor (List ℕ)). path.now)) (sym (take-append-drop k paths))
    ∙ map-append (λ (path : Bor (List ℕ)). path.now) (take k paths) (drop k paths)
    ∙ ap (λ ps. map (λ (path : Bor (List ℕ)). path.now) (take k paths) ++ map (λ (path : Bor (List ℕ)). path.now) ps) (drop-cons paths k d h)
