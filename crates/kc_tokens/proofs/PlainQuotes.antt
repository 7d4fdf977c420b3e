-- Quoted texts without a backslash and a `$`.
use Rattle.kc_tokens.proofs.Common.{◌≡◌, ℕ, zero, suc, ◌+◌, ◌<◌, ◌≤◌, Bool, true, false, ◌||◌, eqb, List, [], ◌∷◌, length, take, drop, get_or, Some, None, refl, ap, sym, ◌∙◌, inl, inr, subst, ◌-◌, arith, option_map, list_any, or_parts, eqb-true, closing, Language, Strict, Linux, Token, Quoted}
use Rattle.kc_tokens.proofs.Common.{is_quote, dollar_left_out, quoted_up_to, quoted_or_left_out}
use Rattle.std.proofs.lemmas.Bool.{eq-eqb, cases_eq}
use Rattle.kc_tokens.specs.Token.{next_quoted}
use Rattle.kc_tokens.specs.checker.TokenEnds.{Reaches}
use Rattle.kc_tokens.specs.checker.QuoteStops.{is_quote_stop, IsPlainQuoted}
use Rattle.kc_tokens.proofs.Dollars.{position_none, bare_of_any}

-- a byte that stops nothing
stops_not : (quote c : ℕ) → is_quote_stop quote c ≡ false → (eqb c quote ≡ false) × (eqb c 92 ≡ false) × (eqb c 36 ≡ false)
stops_not quote c h =
    let (front, dollar) = or_parts (eqb c quote || eqb c 92) (eqb c 36) h in
    let (same, slash) = or_parts (eqb c quote) (eqb c 92) front in
    (same, slash, dollar)

-- the first quote closes the text where no backslash comes before
closes_at : (quote n : ℕ) (bs : List ℕ) → n < length bs → ((k : ℕ) → k < n → is_quote_stop quote (get_or bs k 0) ≡ false) → get_or bs n 0 ≡ quote
    → closing quote false bs ≡ Some (suc n)
closes_at quote n [] h plain e = absurd (omega arith)
closes_at quote zero (b ∷ bs) h plain e = let same : eqb b quote ≡ true = eq-eqb b quote e in rw same refl
closes_at quote (suc n) (b ∷ bs) h plain e =
    let (same, slash, dollar) = stops_not quote b (plain 0 (omega arith)) in
    let rest = closes_at quote n bs (omega arith) (λ k l. plain (suc k) (omega arith)) e in
    rw (same, slash) (ap (option_map suc) rest)

no_dollar : (n : ℕ) (bs : List ℕ) → ((k : ℕ) → k < n → k < length bs → eqb (get_or bs k 0) 36 ≡ false) → list_any (λ c. eqb c 36) (take n bs) ≡ false
no_dollar zero bs none = refl
no_dollar (suc n) [] none = refl
no_dollar (suc n) (b ∷ bs) none =
    let first : eqb b 36 ≡ false = none 0 (omega arith) (omega arith) in
    let rest = no_dollar n bs (λ k l w. none (suc k) (omega arith) (omega arith)) in
    rw first rest

nothing_left_out : (language : Language) (text : List ℕ) → list_any (λ c. eqb c 36) text ≡ false → dollar_left_out language text ≡ None
nothing_left_out Strict text h = position_none (λ c. eqb c 36) text h
nothing_left_out (Linux version) text h = bare_of_any false text h

-- a quote is no `$`
quote_no_dollar : (c : ℕ) → is_quote c ≡ true → eqb c 36 ≡ false
quote_no_dollar c h = by_dollar (eqb c 36) refl
  where
    by_dollar : (t : Bool) → eqb c 36 ≡ t → t ≡ false
    by_dollar false e = refl
    by_dollar true e = let is : c ≡ 36 = eqb-true c 36 e in let wrong : false ≡ true = subst (λ n. is_quote n ≡ true) is h in sym wrong

quote_below : (c : ℕ) → is_quote c ≡ true → c < 128
quote_below c h = by_first (eqb c 34) refl
  where
    by_first : (t : Bool) → eqb c 34 ≡ t → c < 128
    by_first true e = omega (arith, eqb-true c 34 e)
    by_first false e = let other : eqb c 39 ≡ true = rw e at h in omega (arith, eqb-true c 39 other)

before : (k n : ℕ) → eqb k n ≡ false → k < n + 1 → k < n
before k n e l = elim (cases_eq k n) [
  | inl same ↦ let yes : eqb k n ≡ true = eq-eqb k n same in absurd (let z : ⊥ = cc in z)
  | inr other ↦ omega (arith, other)
]

-- the closing quote, counted from the byte after the opening one
closed : (bytes : List ℕ) (place : ℕ) → place < length bytes → 0 < place
    → ((k : ℕ) → 1 ≤ k → k < place → is_quote_stop (get_or bytes 0 0) (get_or bytes k 0) ≡ false) → get_or bytes place 0 ≡ get_or bytes 0 0
    → closing (get_or bytes 0 0) false (drop 1 bytes) ≡ Some place
closed [] place within some plain closes = absurd (omega arith)
closed (b ∷ bs) zero within some plain closes = absurd (omega arith)
closed (b ∷ bs) (suc n) within some plain closes = closes_at b n bs (omega arith) (λ k l. plain (suc k) (omega arith) (omega arith)) closes

module _ (bytes : List ℕ) (place : ℕ) (quoted : is_quote (get_or bytes 0 0) ≡ true) (p : IsPlainQuoted bytes place) where
  -- neither quote is a `$`, nor is a byte between them
  dollars : (k : ℕ) → k < place + 1 → k < length bytes → eqb (get_or bytes k 0) 36 ≡ false
  dollars zero l w = quote_no_dollar (get_or bytes 0 0) quoted
  dollars (suc k) l w = by_place (eqb (suc k) place) refl
    where
      by_place : (t : Bool) → eqb (suc k) place ≡ t → eqb (get_or bytes (suc k) 0) 36 ≡ false
      by_place true e =
          let at : suc k ≡ place = eqb-true (suc k) place e in
          ap (λ c. eqb c 36) (ap (λ j. get_or bytes j 0) at ∙ p.closes) ∙ quote_no_dollar (get_or bytes 0 0) quoted
      by_place false e =
          let less : suc k < place = before (suc k) place e l in
          let (same, slash, dollar) = stops_not (get_or bytes 0 0) (get_or bytes (suc k) 0) (p.plain (suc k) (omega arith) less) in
          dollar

  pub plain_quoted : (language : Language) → next_quoted language bytes ≡ Token Quoted (place + 1)
  plain_quoted language =
      ap (quoted_up_to language bytes) (closed bytes place p.within p.some p.plain p.closes)
      ∙ ap (quoted_or_left_out (place + 1)) (nothing_left_out language (take (place + 1) bytes) (no_dollar (place + 1) bytes dollars))

  pub plain_reaches : Reaches bytes (Token Quoted (place + 1))
  plain_reaches =
      let back : place + 1 - 1 ≡ place = omega arith in
      let below : get_or bytes place 0 < 128 = subst (λ n. n < 128) (sym p.closes) (quote_below (get_or bytes 0 0) quoted) in
      let last : get_or bytes (place + 1 - 1) 0 < 128 = subst (λ k. get_or bytes k 0 < 128) (sym back) below in
      (omega arith, omega (arith, p.within), last)
