-- Names with a space between them, one after another.
use Rattle.std.proofs.Common.{◌≡◌, ℕ, ◌+◌, ◌<◌, List, [], ◌∷◌, ◌++◌, map, take, length, get_or, codes, append_assoc, append-nil, refl, ap, sym, ◌∙◌}
use Rattle.std.specs.List.{flat_map}
use Rattle.std.proofs.lemmas.Grind.{flat_map-append}
use Rattle.std.proofs.lemmas.List.{take_more, map-append}
use Rattle.kmin_texts.specs.LineDetails.{spaced}

-- what comes between names and one more: nothing before the first
abbrev pub gap : List (List ℕ) → List ℕ
gap [] = []
gap (name ∷ names) = codes " "

-- a text has some first names, and this comes before one more
pub record HasNames (names : List (List ℕ)) (text between : List ℕ) : Type 0 where
  pub so_far : text ≡ spaced names
  pub next : between ≡ gap names

pub no_names : (text between : List ℕ) → text ≡ [] → between ≡ [] → HasNames [] text between
no_names text between h k = record { so_far = h; next = k }

one_more : (names : List (List ℕ)) (name : List ℕ) → spaced (names ++ name ∷ []) ≡ spaced names ++ (gap names ++ name)
one_more [] name = append-nil name
one_more (first ∷ names) name =
    ap (λ t. first ++ t) (flat_map-append (λ other. codes " " ++ other) names (name ∷ [])
    ∙ ap (λ t. flat_map (λ other. codes " " ++ other) names ++ t) (append-nil (codes " " ++ name)))
    ∙ sym (append_assoc first (flat_map (λ other. codes " " ++ other) names) (codes " " ++ name))

gap_after : (names : List (List ℕ)) (name : List ℕ) → gap (names ++ name ∷ []) ≡ codes " "
gap_after [] name = refl
gap_after (first ∷ names) name = refl

-- one name more
pub has_more : {A : Type 0} (f : A → List ℕ) (xs : List A) (i : ℕ) (d : A) (text between more : List ℕ) → i < length xs → HasNames (map f (take i xs)) text between
    → more ≡ text ++ (between ++ f (get_or xs i d)) → HasNames (map f (take (i + 1) xs)) more (codes " ")
has_more f xs i d text between more h before e =
    let next : map f (take (i + 1) xs) ≡ map f (take i xs) ++ (f (get_or xs i d) ∷ []) =
    ap (map f) (take_more xs i d h) ∙ map-append f (take i xs) (get_or xs i d ∷ []) in
    rw next (record {
      so_far = e ∙ ap (λ t. t ++ (between ++ f (get_or xs i d))) before.so_far
          ∙ ap (λ t. spaced (map f (take i xs)) ++ (t ++ f (get_or xs i d))) before.next ∙ sym (one_more (map f (take i xs)) (f (get_or xs i d)));
      next = sym (gap_after (map f (take i xs)) (f (get_or xs i d)));
    })
