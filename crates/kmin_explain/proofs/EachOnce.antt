-- Symbols that are found each once.
use Rattle.kmin_explain.proofs.Common.{◌≡◌, ℕ, zero, suc, ◌+◌, ◌<◌, ◌≤◌, List, [], ◌∷◌, ◌++◌, Option, Some, None, refl, sym, ◌∙◌, ap, arith, filter_map, cons_option, range_with_len, All-nil, All-cons, each_once_after, with_meant}
use Rattle.std.specs.Prelude.{All}

-- what is found after one more name
pub one_name : (f : List ℕ → Option ℕ) (found : List ℕ) (name : List ℕ) (rest : List (List ℕ))
    → each_once_after (with_meant found (f name)) (filter_map f rest) ≡ each_once_after found (filter_map f (name ∷ rest))
one_name f found name rest = go (f name) where
  go : (o : Option ℕ) → each_once_after (with_meant found o) (filter_map f rest) ≡ each_once_after found (cons_option o (filter_map f rest))
  go None = refl
  go (Some s) = refl

-- one more number of a range
pub range_more : (a n : ℕ) → range_with_len a (n + 1) ≡ range_with_len a n ++ (a + n) ∷ []
range_more a zero = ap (λ k. k ∷ []) (let same : a ≡ a + 0 = omega arith in same)
range_more a (suc n) =
    ap (range_with_len a) (let same : suc n + 1 ≡ suc (n + 1) = omega arith in same)
    ∙ ap (λ ks. a ∷ ks) (range_more (a + 1) n ∙ ap (λ k. range_with_len (a + 1) n ++ k ∷ []) (let same : a + 1 + n ≡ a + suc n = omega arith in same))

pub more_found : (found more : List ℕ) (i : ℕ) → found ≡ range_with_len 0 i → more ≡ found ++ i ∷ [] → more ≡ range_with_len 0 (i + 1)
more_found found more i are pushed =
    pushed ∙ ap (λ ks. ks ++ i ∷ []) are ∙ ap (λ k. range_with_len 0 i ++ k ∷ []) (let same : i ≡ 0 + i = omega arith in same) ∙ sym (range_more 0 i)

-- the numbers of a range are below its end
pub range_below : (a n m : ℕ) → a + n ≤ m → All (λ k. k < m) (range_with_len a n)
range_below a zero m h = All-nil (λ k. k < m)
range_below a (suc n) m h = All-cons (λ k. k < m) a (range_with_len (a + 1) n) (omega arith) (range_below (a + 1) n m (omega arith))
