-- Numbers, each once.
use Rattle.std.proofs.Common.{◌≡◌, ℕ, ◌+◌, ◌<◌, ◌≤◌, ◌==◌, Bool, true, false, cond, List, [], ◌∷◌, ◌++◌, length, take, get_or, sym, ◌∙◌, ap, append_assoc, append-nil, refl, arith}
use Rattle.std.specs.Prelude.{flat_map}
use Rattle.std.specs.List.{list_any}
use Rattle.std.proofs.lemmas.List.{length-append, take-append-le, take_more, take_all}
use Rattle.std.proofs.lemmas.Grind.{flat_map-append}
use Rattle.kmin_explain.specs.Names.{with_number, each_once_after, each_once}

-- a list after another
pub after_both : (found xs ys : List ℕ) → each_once_after found (xs ++ ys) ≡ each_once_after (each_once_after found xs) ys
after_both found [] ys = refl
after_both found (x ∷ xs) ys = after_both (with_number found x) xs ys

-- what is found stays in front
found_first : (found : List ℕ) (x : ℕ) → (more : List ℕ) × (with_number found x ≡ found ++ more)
found_first found x = by_test (list_any (λ t. t == x) found) where
  by_test : (b : Bool) → (more : List ℕ) × (cond b found (found ++ x ∷ []) ≡ found ++ more)
  by_test true = ([], sym (append-nil found))
  by_test false = (x ∷ [], refl)

all_first : (found xs : List ℕ) → (more : List ℕ) × (each_once_after found xs ≡ found ++ more)
all_first found [] = ([], sym (append-nil found))
all_first found (x ∷ xs) =
    let one = found_first found x in
    let rest = all_first (with_number found x) xs in
    (one.0 ++ rest.0, rest.1 ∙ ap (λ f. f ++ rest.0) one.1 ∙ append_assoc found one.0 rest.0)

-- so a list grows
pub longer : (found xs : List ℕ) → length found ≤ length (each_once_after found xs)
longer found xs = let first = all_first found xs in omega (arith, ap length first.1, length-append found first.0)

-- the numbers to go on with from one number more are found
module _ (f : ℕ → List ℕ) (named : List ℕ) where
  pub deep_more : (found new : List ℕ) (i d : ℕ) → i < length found → found ≡ each_once (named ++ flat_map f (take i found))
      → new ≡ each_once_after found (f (get_or found i d)) → new ≡ each_once (named ++ flat_map f (take (i + 1) new))
  deep_more found new i d inside are is =
      let first = all_first found (f (get_or found i d)) in
      let taken : take (i + 1) new ≡ take i found ++ get_or found i d ∷ [] =
      ap (take (i + 1)) (is ∙ first.1) ∙ take-append-le (i + 1) found first.0 (omega arith) ∙ take_more found i d inside in
      is ∙ ap (λ xs. each_once_after xs (f (get_or found i d))) are
      ∙ sym (after_both [] (named ++ flat_map f (take i found)) (f (get_or found i d)))
      ∙ ap each_once (append_assoc named (flat_map f (take i found)) (f (get_or found i d))
      ∙ ap (λ x. named ++ (flat_map f (take i found) ++ x)) (sym (append-nil (f (get_or found i d))))
      ∙ ap (λ x. named ++ x) (sym (flat_map-append f (take i found) (get_or found i d ∷ [])))
      ∙ ap (λ xs. named ++ flat_map f xs) (sym taken))

  -- and at the end from all
  pub deep_end : (found : List ℕ) (i : ℕ) → length found ≤ i → found ≡ each_once (named ++ flat_map f (take i found))
      → found ≡ each_once (named ++ flat_map f found)
  deep_end found i past are = are ∙ ap (λ xs. each_once (named ++ flat_map f xs)) (take_all i found past)

-- at the beginning only the named ones are found
pub deep_begin : (f : ℕ → List ℕ) (named none found : List ℕ) → none ≡ [] → found ≡ each_once_after none named
    → found ≡ each_once (named ++ flat_map f (take 0 found))
deep_begin f named none found empty is = is ∙ ap (λ xs. each_once_after xs named) empty ∙ ap each_once (sym (append-nil named))
