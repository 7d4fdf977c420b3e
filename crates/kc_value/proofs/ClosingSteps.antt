-- Steps of looking for a closing quote.
use Rattle.kc_value.proofs.Common.{◌≡◌, ℕ, suc, ◌+◌, true, false, List, ◌∷◌, Option, Some, None, refl, ap, arith, option_map, ◌==◌, closing}

-- n added to a place, if there is one: a place counted from n bytes further left
abbrev pub further : ℕ → Option ℕ → Option ℕ
further n o = option_map (λ k. n + k) o

further_more : (n : ℕ) (o : Option ℕ) → further n (option_map suc o) ≡ further (n + 1) o
further_more n None = refl
further_more n (Some k) = ap Some (omega arith)

-- a byte after a backslash closes no quote, so the search for the closing quote goes on with the byte after it
pub closing_escaped : (n quote c : ℕ) (cs : List ℕ) → further n (closing quote true (c ∷ cs)) ≡ further (n + 1) (closing quote false cs)
closing_escaped n quote c cs = further_more n (closing quote false cs)

pub closing_other : (n quote c : ℕ) (cs : List ℕ) → (c == quote) ≡ false → further n (closing quote false (c ∷ cs))
    ≡ further (n + 1) (closing quote (c == 92) cs)
closing_other n quote c cs e = rw e (further_more n (closing quote (c == 92) cs))
