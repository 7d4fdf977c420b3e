-- The dependencies of every tree ascend without repeats, and name units.
use Rattle.std.proofs.Common.{◌≡◌, ℕ, zero, suc, ◌+◌, ◌<◌, length, get_or, arith}
use Rattle.std.specs.List.{range_with_len, All}
use Rattle.std.specs.List.Sorted.{IsStrictlyIncreasing}
use Rattle.std.proofs.lemmas.List.Kept.{IsStrictlyIncreasing-filter}
use Rattle.std.proofs.lemmas.List.Elements.{All-filter, All-contains, All-cons, All-nil, All-weaker}
use Rattle.kc_tree_model.specs.Trees.{Tree}
use Rattle.kc_solver.specs.Dependencies.{IsGraph}
use Rattle.kc_rules_model.specs.Dependencies.{dependencies}

range_at : (a n k : ℕ) → k < n → get_or (range_with_len a n) k 0 ≡ a + k
range_at a zero k h = absurd (omega arith)
range_at a (suc n) zero h = omega arith
range_at a (suc n) (suc k) h = let next = range_at (a + 1) n k (omega arith) in omega arith

range_length : (a n : ℕ) → length (range_with_len a n) ≡ n
range_length a zero = omega arith
range_length a (suc n) = let rest = range_length (a + 1) n in omega arith

range_rises : (a n : ℕ) → IsStrictlyIncreasing (range_with_len a n)
range_rises a n = λ k h. let len = range_length a n in omega (arith, range_at a n k (omega arith), range_at a n (k + 1) (omega arith))

range_below : (a n : ℕ) → All (λ d. d < a + n) (range_with_len a n)
range_below a zero = All-nil _
range_below a (suc n) = All-cons (λ d. d < a + suc n) a (range_with_len (a + 1) n) (omega arith) (All-weaker (λ d. d < a + 1 + n) (λ d. d < a + suc n) (λ d h. omega arith) (range_with_len (a + 1) n) (range_below (a + 1) n))

-- in every tree, the dependencies of each unit are a list of units of the tree, ascending without repeats
pub rules_graph : (tree : Tree) → IsGraph (length tree.units) (dependencies tree)
unfolding dependencies
rules_graph tree = record {
  ascending = λ u h. IsStrictlyIncreasing-filter _ (range_with_len 0 (length tree.units)) (range_rises 0 (length tree.units));
  units = λ u d h has. let below = All-contains (λ e. e < 0 + length tree.units) _ d (All-filter _ (λ e. e < 0 + length tree.units) (range_with_len 0 (length tree.units)) (range_below 0 (length tree.units))) has in omega arith;
}
