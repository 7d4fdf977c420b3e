-- Tests and filters of lists under a map.
use Rattle.std.proofs.Common.{◌≡◌, ℕ, ◌+◌, ◌<◌, Bool, ◌||◌, List, [], ◌∷◌, ◌++◌, length, map, get_or, take, Option, Some, None, sym, refl, ap, ◌∙◌}
use Rattle.std.specs.List.{filter_map, list_all, list_any, cons_option}
use Rattle.std.proofs.lemmas.List.{append-nil, take_more, map-append}
use Rattle.std.proofs.lemmas.List.Elements.{filter_map-append}
use Rattle.std.proofs.lemmas.List.Folds.{list_all-map}

pub all_map : {X Y : Type 0} (p : Y → Bool) (f : X → Y) (xs : List X) → list_all p (map f xs) ≡ list_all (λ x. p (f x)) xs
all_map p f xs = list_all-map p f xs

pub filter_map_map : {X Y Z : Type 0} (h : Y → Option Z) (f : X → Y) (xs : List X) → filter_map h (map f xs) ≡ filter_map (λ x. h (f x)) xs
filter_map_map h f [] = refl
filter_map_map h f (x ∷ xs) = ap (cons_option (h (f x))) (filter_map_map h f xs)

-- the mapped and filtered first i + 1 elements of a list are those of the first i, and that of the element at i if it has one
pub filter_map_more : {X Y : Type 0} (h : X → Option Y) (xs : List X) (i : ℕ) (d : X) → i < length xs
    → filter_map h (take (i + 1) xs) ≡ filter_map h (take i xs) ++ cons_option (h (get_or xs i d)) []
filter_map_more h xs i d l = ap (filter_map h) (take_more xs i d l) ∙ filter_map-append h (take i xs) (get_or xs i d ∷ [])

-- if `ys` are the values of the first i elements of a list, and the element at i has the value y, those of the first i + 1 are
-- `ys` and y
pub filter_map_some : {X Y Z : Type 0} (view : Y → Z) (h : X → Option Z) (xs : List X) (i : ℕ) (x : X) (ys : List Y) (y : Y)
    → i < length xs → x ≡ get_or xs i x → Some (view y) ≡ h x → map view ys ≡ filter_map h (take i xs)
    → map view (ys ++ y ∷ []) ≡ filter_map h (take (i + 1) xs)
filter_map_some view h xs i x ys y l e s m =
    map-append view ys (y ∷ []) ∙ ap (λ zs. zs ++ view y ∷ []) m
    ∙ ap (λ o. filter_map h (take i xs) ++ cons_option o []) (s ∙ ap h e) ∙ sym (filter_map_more h xs i x l)

pub filter_map_none : {X Z : Type 0} (h : X → Option Z) (xs : List X) (i : ℕ) (x : X) (zs : List Z)
    → i < length xs → x ≡ get_or xs i x → None ≡ h x → zs ≡ filter_map h (take i xs) → zs ≡ filter_map h (take (i + 1) xs)
filter_map_none h xs i x zs l e n m =
    m ∙ sym (append-nil (filter_map h (take i xs))) ∙ ap (λ o. filter_map h (take i xs) ++ cons_option o []) (n ∙ ap h e) ∙ sym (filter_map_more h xs i x l)

pub any_map : {X Y : Type 0} (p : Y → Bool) (f : X → Y) (xs : List X) → list_any p (map f xs) ≡ list_any (λ x. p (f x)) xs
any_map p f [] = refl
any_map p f (x ∷ xs) = ap (λ b. p (f x) || b) (any_map p f xs)
