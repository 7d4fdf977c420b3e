-- The nearest name, name by name.
use Rattle.std.proofs.Common.{◌≡◌, ℕ, zero, suc, ◌+◌, ◌<◌, ◌≤◌, ◌==◌, List, [], ◌∷◌, ◌++◌, map, take, length, get_or, Option, Some, None, ◌⊎◌, inl, inr, refl, ap, sym, subst, ◌∙◌, arith}
use Rattle.std.specs.Prelude.{if◌then◌else◌}
use Rattle.std.specs.Option.{option_or}
use Rattle.std.specs.Borrow.{Bor}
use Rattle.std.proofs.lemmas.Bool.{ne_eqb}
use Rattle.std.proofs.lemmas.List.{take_more, map-append}
use Rattle.std.proofs.lemmas.List.Folds.{find-append}
use Rattle.kmin_details.specs.NearNames.{changes, first_at, nearest}
use Rattle.kmin_details.specs.between.FewestChanges.{changes_or_limit}
use Rattle.kmin_details.proofs.ChangeBounds.{below, passed_over}

abbrev Name : Type 0
Name = List ℕ

-- the fewest changes of the first names at one, two and three; 4 if there is none
abbrev least : (a b c : Option Name) → ℕ
least (Some x) b c = 1
least None (Some x) c = 2
least None None (Some x) = 3
least None None None = 4

-- the first name at this many changes, with one name more, which is d changes away
abbrev added : Option Name → (d k : ℕ) → Name → Option Name
added a d k y = option_or a (if d == k then Some y else None)

abbrev pick : (a b c : Option Name) → Option Name
pick a b c = option_or a (option_or b c)

other : (d k : ℕ) (y : Name) → (d ≡ k → ⊥) → (if d == k then Some y else None) ≡ None
other d k y h = rw (ne_eqb d k h) refl

nearer : (a b c : Option Name) (y : Name) (d : ℕ) → 0 < d → d < least a b c
    → (pick (added a d 1 y) (added b d 2 y) (added c d 3 y) ≡ Some y) × (least (added a d 1 y) (added b d 2 y) (added c d 3 y) ≡ d)
nearer (Some x) b c y d h k = absurd (omega arith)
nearer None (Some x) c y zero h k = absurd (omega arith)
nearer None (Some x) c y (suc zero) h k = (refl, refl)
nearer None (Some x) c y (suc (suc d)) h k = absurd (omega arith)
nearer None None (Some x) y zero h k = absurd (omega arith)
nearer None None (Some x) y (suc zero) h k = (refl, refl)
nearer None None (Some x) y (suc (suc zero)) h k = (refl, refl)
nearer None None (Some x) y (suc (suc (suc d))) h k = absurd (omega arith)
nearer None None None y zero h k = absurd (omega arith)
nearer None None None y (suc zero) h k = (refl, refl)
nearer None None None y (suc (suc zero)) h k = (refl, refl)
nearer None None None y (suc (suc (suc zero))) h k = (refl, refl)
nearer None None None y (suc (suc (suc (suc d)))) h k = absurd (omega arith)

further : (a b c : Option Name) (y : Name) (d : ℕ) → (d ≡ 0) ⊎ (least a b c ≤ d)
    → (pick (added a d 1 y) (added b d 2 y) (added c d 3 y) ≡ pick a b c) × (least (added a d 1 y) (added b d 2 y) (added c d 3 y) ≡ least a b c)
further a b c y d (inl none) = rw none (none_added a b c)
  where
    none_added : (a b c : Option Name) → (pick (added a 0 1 y) (added b 0 2 y) (added c 0 3 y) ≡ pick a b c) × (least (added a 0 1 y) (added b 0 2 y) (added c 0 3 y) ≡ least a b c)
    none_added (Some x) b c = (refl, refl)
    none_added None (Some x) c = (refl, refl)
    none_added None None (Some x) = (refl, refl)
    none_added None None None = (refl, refl)
further (Some x) b c y d (inr h) = (refl, refl)
further None (Some x) c y d (inr h) = rw (other d 1 y (λ e. omega arith)) (refl, refl)
further None None (Some x) y d (inr h) = rw (other d 1 y (λ e. omega arith), other d 2 y (λ e. omega arith)) (refl, refl)
further None None None y d (inr h) = rw (other d 1 y (λ e. omega arith), other d 2 y (λ e. omega arith), other d 3 y (λ e. omega arith)) (refl, refl)

-- of these names, this is the one nearest to a word, this many changes away
pub record IsNearestOf (word : List ℕ) (names : List (List ℕ)) (found : Option (List ℕ)) (fewest : ℕ) : Type 0 where
  pub name : found ≡ nearest word names
  pub count : fewest ≡ least (first_at word 1 names) (first_at word 2 names) (first_at word 3 names)

pub none_yet : (word : List ℕ) → IsNearestOf word [] None 4
none_yet word = record { name = refl; count = refl }

names_more : (names : List (Bor (List ℕ))) (i : ℕ) (d : Bor (List ℕ)) → i < length names
    → map (λ (name : Bor (List ℕ)). name.now) (take (i + 1) names) ≡ map (λ (name : Bor (List ℕ)). name.now) (take i names) ++ ((get_or names i d).now ∷ [])
names_more names i d h =
    ap (map (λ (name : Bor (List ℕ)). name.now)) (take_more names i d h)
    ∙ map-append (λ (name : Bor (List ℕ)). name.now) (take i names) (get_or names i d ∷ [])

first_more : (word : List ℕ) (k : ℕ) (names : List (List ℕ)) (y : List ℕ) → first_at word k (names ++ y ∷ []) ≡ added (first_at word k names) (changes word y) k y
first_more word k names y = find-append (λ name. changes word name == k) names (y ∷ [])

module _ (word : List ℕ) (names : List (List ℕ)) (y : List ℕ) (found : Option (List ℕ)) (fewest count : ℕ) (before : IsNearestOf word names found fewest)
    (counted : count ≡ changes_or_limit (changes word y) fewest) where
  joined : (one : Option (List ℕ)) (least_one : ℕ)
      → pick (added (first_at word 1 names) (changes word y) 1 y) (added (first_at word 2 names) (changes word y) 2 y) (added (first_at word 3 names) (changes word y) 3 y) ≡ one
      → least (added (first_at word 1 names) (changes word y) 1 y) (added (first_at word 2 names) (changes word y) 2 y) (added (first_at word 3 names) (changes word y) 3 y) ≡ least_one
      → IsNearestOf word (names ++ y ∷ []) one least_one
  joined one least_one h k = record {
    name = rw (first_more word 1 names y, first_more word 2 names y, first_more word 3 names y) (sym h);
    count = rw (first_more word 1 names y, first_more word 2 names y, first_more word 3 names y) (sym k);
  }

  -- a name with fewer changes is the nearest one from here on
  pub taken : count < fewest → IsNearestOf word (names ++ y ∷ []) (Some y) count
  taken h =
      let facts = below (changes word y) fewest (subst (λ n. n < fewest) counted h) in
      let less : changes word y < least (first_at word 1 names) (first_at word 2 names) (first_at word 3 names) = subst (λ n. changes word y < n) before.count facts.1 in
      let step = nearer (first_at word 1 names) (first_at word 2 names) (first_at word 3 names) y (changes word y) facts.0 less in
      joined (Some y) count step.0 (step.1 ∙ sym (counted ∙ facts.2))

  -- another name changes nothing
  pub left : fewest ≤ count → IsNearestOf word (names ++ y ∷ []) found fewest
  left h =
      let facts = passed_over (changes word y) fewest (subst (λ n. fewest ≤ n) counted h) in
      let step = further (first_at word 1 names) (first_at word 2 names) (first_at word 3 names) y (changes word y)
      (subst (λ n. (changes word y ≡ 0) ⊎ (n ≤ changes word y)) before.count facts) in
      joined found fewest (step.0 ∙ sym before.name) (step.1 ∙ sym before.count)

-- the same for the names of a list, from the first i to the first i + 1
pub taken_at : (word : List ℕ) (names : List (Bor (List ℕ))) (i : ℕ) (d : Bor (List ℕ)) (found : Option (List ℕ)) (fewest count : ℕ) → i < length names
    → IsNearestOf word (map (λ (name : Bor (List ℕ)). name.now) (take i names)) found fewest
    → count ≡ changes_or_limit (changes word (get_or names i d).now) fewest → count < fewest
    → IsNearestOf word (map (λ (name : Bor (List ℕ)). name.now) (take (i + 1) names)) (Some (get_or names i d).now) count
taken_at word names i d found fewest count within before counted less = rw (names_more names i d within)
    (taken word (map (λ (name : Bor (List ℕ)). name.now) (take i names)) (get_or names i d).now found fewest count before counted less)

pub left_at : (word : List ℕ) (names : List (Bor (List ℕ))) (i : ℕ) (d : Bor (List ℕ)) (found : Option (List ℕ)) (fewest count : ℕ) → i < length names
    → IsNearestOf word (map (λ (name : Bor (List ℕ)). name.now) (take i names)) found fewest
    → count ≡ changes_or_limit (changes word (get_or names i d).now) fewest → fewest ≤ count
    → IsNearestOf word (map (λ (name : Bor (List ℕ)). name.now) (take (i + 1) names)) found fewest
left_at word names i d found fewest count within before counted more = rw (names_more names i d within)
    (left word (map (λ (name : Bor (List ℕ)). name.now) (take i names)) (get_or names i d).now found fewest count before counted more)
