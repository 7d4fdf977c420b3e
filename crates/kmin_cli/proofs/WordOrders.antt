-- The walk to the command after options, and words of which one is put in front.
use Rattle.std.proofs.Common.{◌≡◌, ℕ, ◌+◌, ◌<◌, Bool, true, false, List, [], ◌∷◌, ◌++◌, Option, Some, None, option_map, length, map, take, drop, get_or, refl, ap, ◌∙◌, arith, add-one, append_assoc, length-drop, ◌-◌}
use Rattle.std.specs.Prelude.{if◌then◌else◌}
use Rattle.std.proofs.Math.Seq.{drop-cons}
use Rattle.std.proofs.lemmas.List.{map-append, take-map, drop-map, take_all}
use Rattle.kmin_commands.specs.OptionWords.{gives_option, names_command, takes_next}
use Rattle.kmin_cli.specs.WordOrder.{command_place, moved_to_front}

-- a place that is one further from one further on is the same place
shifted : (i : ℕ) (o : Option ℕ) → option_map (λ n. i + n) (option_map (λ place. place + 1) o) ≡ option_map (λ n. (i + 1) + n) o
shifted i None = refl
shifted i (Some n) = ap Some (omega arith)

-- the elements from a place on begin with the one there
from_place : {A : Type 0} (xs : List A) (i : ℕ) (d : A) → i < length xs → drop i xs ≡ get_or xs i d ∷ drop (i + 1) xs
from_place xs i d there = rw add-one (drop-cons xs i d there)

some_there : {A : Type 0} (xs : List A) (i : ℕ) → i < length xs → (x : A) × (drop i xs ≡ x ∷ drop (i + 1) xs)
some_there [] i there = absurd (omega arith)
some_there (x ∷ xs) i there = (get_or (x ∷ xs) i x, from_place (x ∷ xs) i x there)

module _ {A : Type 0} (f : A → List ℕ) (xs : List A) (i : ℕ) (there : i < length xs) (whole : Option ℕ) (is_value next : Bool)
    (before : whole ≡ option_map (λ n. i + n) (command_place is_value (map f (drop i xs)))) where
  -- the walk goes on after the value of an option
  pub past_value : is_value ≡ true → next ≡ false → whole ≡ option_map (λ n. (i + 1) + n) (command_place next (map f (drop (i + 1) xs)))
  past_value value none =
      let w = some_there xs i there in
      rw none (before ∙ ap (λ b. option_map (λ n. i + n) (command_place b (map f (drop i xs)))) value
      ∙ ap (λ (ys : List A). option_map (λ n. i + n) (command_place true (map f ys))) w.1 ∙ shifted i _)

  -- the walk goes on after an option
  pub past_option : (d : A) → is_value ≡ false → names_command (f (get_or xs i d)) ≡ false → gives_option (f (get_or xs i d)) ≡ true
      → next ≡ takes_next (f (get_or xs i d)) → whole ≡ option_map (λ n. (i + 1) + n) (command_place next (map f (drop (i + 1) xs)))
  past_option d word other gives takes =
      let x = f (get_or xs i d) in
      let after = map f (drop (i + 1) xs) in
      rw takes (before ∙ ap (λ b. option_map (λ n. i + n) (command_place b (map f (drop i xs)))) word
      ∙ ap (λ (ys : List A). option_map (λ n. i + n) (command_place false (map f ys))) (from_place xs i d there)
      ∙ ap (λ b. option_map (λ n. i + n) (if b then Some 0 else (if gives_option x then option_map (λ place. place + 1) (command_place (takes_next x) after) else None))) other
      ∙ ap (λ b. option_map (λ n. i + n) (if b then option_map (λ place. place + 1) (command_place (takes_next x) after) else None)) gives
      ∙ shifted i _)

-- words that are put together of one, those before it and those after it have their texts moved
pub moved : {A : Type 0} (f : A → List ℕ) (xs first front all : List A) (i : ℕ) → i < length xs → first ≡ take (i + 1 - i) (drop i xs)
    → front ≡ first ++ take i xs → all ≡ front ++ take (length xs - (i + 1)) (drop (i + 1) xs) → map f all ≡ moved_to_front i (map f xs)
moved f xs first front all i there is_first is_front is_all =
    let one : i + 1 - i ≡ 1 = omega arith in
    let rest : take (length xs - (i + 1)) (drop (i + 1) xs) ≡ drop (i + 1) xs = take_all _ _ (omega (arith, length-drop (i + 1) xs)) in
    rw (is_all, is_front, is_first, one, rest) (simp (map-append, take-map, drop-map, append_assoc))
