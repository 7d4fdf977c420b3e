-- What marks say of the numbers that are found.
use Rattle.kmin_explain.proofs.Common.{◌≡◌, ℕ, ◌<◌, ◌≤◌, Bool, length, get_or, All, sym, subst, AreMarked}
use Rattle.std.specs.List.{count_by}
use Rattle.std.proofs.lemmas.List.Elements.{All-get_or}
use Rattle.std.proofs.lemmas.List.Sums.{count_by-le-length}
use Rattle.kmin_explain.specs.declared.each_once.SymbolsOnce.{SymbolsOnce}

module _ (o : SymbolsOnce) (n : ℕ) (marks : AreMarked o) (many : length o.is_found.items ≡ n) where
  -- no more numbers are found than there are marks
  pub few_found : length o.found.items ≤ n
  few_found =
      subst (λ k. k ≤ n) (sym marks.count)
      (subst (λ k. count_by (λ (b : Bool). b) o.is_found.items ≤ k) many (count_by-le-length (λ (b : Bool). b) o.is_found.items))

  -- each is below their count
  pub all_below : All (λ k. k < n) o.found.items
  all_below = subst (λ m. All (λ k. k < m) o.found.items) many marks.below

  pub one_below : (i d : ℕ) → i < length o.found.items → get_or o.found.items i d < n
  one_below i d inside = All-get_or (λ k. k < n) o.found.items i d inside all_below
