-- The steps of a cycle, one after another.
use Rattle.std.proofs.Common.{◌≡◌, ℕ, zero, suc, ◌+◌, ◌-◌, ◌<◌, ◌≤◌, List, [], ◌∷◌, ◌++◌, map, Option, Some, None, option_map, append_assoc, append-nil, refl, sym, ap, ◌∙◌, arith}
use Rattle.std.specs.List.{range_with_len}
use Rattle.std.proofs.lemmas.List.{map-append}
use Rattle.kmin_faults.specs.Cycles.{Step, all_there}
use Rattle.kmin_faults.specs.between.Steps.{step_of}
use Rattle.kmin_faults.specs.declared.steps.Step.{Step as CodeStep}

module _ (f : ℕ → Option Step) where
  -- the `n` steps from a place on
  abbrev pub rest_of : (at n : ℕ) → Option (List Step)
  rest_of at n = all_there (map f (range_with_len at n))

  abbrev pub after : (before : List Step) (at n : ℕ) → Option (List Step)
  after before at n = option_map (λ rest. before ++ rest) (rest_of at n)

  joined : (before : List Step) (s : Step) (rest : Option (List Step))
      → option_map (λ more. before ++ more) (option_map (λ more. s ∷ more) rest) ≡ option_map (λ more. (before ++ s ∷ []) ++ more) rest
  joined before s None = refl
  joined before s (Some rest) = ap Some (sym (append_assoc before (s ∷ []) rest))

  one_step : (before : List Step) (at n : ℕ) (s : Step) → 0 < n → f at ≡ Some s → after before at n ≡ after (before ++ s ∷ []) (at + 1) (n - 1)
  one_step before at zero s h e = absurd (omega (arith, h))
  one_step before at (suc n) s h e =
      let m : suc n - 1 ≡ n = omega arith in
      ap (λ o. option_map (λ rest. before ++ rest) (all_there (o ∷ map f (range_with_len (at + 1) n)))) e
      ∙ joined before s (all_there (map f (range_with_len (at + 1) n)))
      ∙ ap (λ k. option_map (λ rest. (before ++ s ∷ []) ++ rest) (all_there (map f (range_with_len (at + 1) k)))) (sym m)

  no_step : (before : List Step) (at n : ℕ) → 0 < n → f at ≡ None → after before at n ≡ None
  no_step before at zero h e = absurd (omega (arith, h))
  no_step before at (suc n) h e = ap (λ o. option_map (λ rest. before ++ rest) (all_there (o ∷ map f (range_with_len (at + 1) n)))) e

  all_steps : (before : List Step) (at : ℕ) → after before at 0 ≡ Some before
  all_steps before at = ap Some (append-nil before)

  from_start : (n : ℕ) → after [] 0 n ≡ rest_of 0 n
  from_start n = same (all_there (map f (range_with_len 0 n)))
    where
      same : (o : Option (List Step)) → option_map (λ rest. [] ++ rest) o ≡ o
      same None = refl
      same (Some rest) = refl

  -- the same for the steps of the code, so far
  pub begun : (items : List CodeStep) (n : ℕ) → items ≡ [] → after (map step_of items) 0 (n - 0) ≡ rest_of 0 n
  begun items n e =
      let m : n - 0 ≡ n = omega arith in
      ap (λ steps. after (map step_of steps) 0 (n - 0)) e ∙ ap (λ k. after [] 0 k) m ∙ from_start n

  pub step_more : (items more : List CodeStep) (step : CodeStep) (at n : ℕ) (found : Option CodeStep) (whole : Option (List Step)) → at < n
      → option_map step_of found ≡ f at → found ≡ Some step → more ≡ items ++ step ∷ [] → after (map step_of items) at (n - at) ≡ whole
      → after (map step_of more) (at + 1) (n - (at + 1)) ≡ whole
  step_more items more step at n found whole h value is pushed before =
      let m : n - at - 1 ≡ n - (at + 1) = omega arith in
      let some : 0 < n - at = omega (arith, h) in
      ap (λ steps. after steps (at + 1) (n - (at + 1))) (ap (map step_of) pushed ∙ map-append step_of items (step ∷ []))
      ∙ ap (λ k. after (map step_of items ++ step_of step ∷ []) (at + 1) k) (sym m)
      ∙ sym (one_step (map step_of items) at (n - at) (step_of step) some (sym value ∙ ap (option_map step_of) is)) ∙ before

  pub step_lacks : (items : List CodeStep) (at n : ℕ) (found : Option CodeStep) (whole : Option (List Step)) → at < n → option_map step_of found ≡ f at
      → found ≡ None → after (map step_of items) at (n - at) ≡ whole → None ≡ whole
  step_lacks items at n found whole h value is before =
      let some : 0 < n - at = omega (arith, h) in
      sym (no_step (map step_of items) at (n - at) some (sym value ∙ ap (option_map step_of) is)) ∙ before

  pub ended : (items : List CodeStep) (at n : ℕ) (whole : Option (List Step)) → n ≤ at → after (map step_of items) at (n - at) ≡ whole
      → Some (map step_of items) ≡ whole
  ended items at n whole h before =
      let z : n - at ≡ 0 = omega (arith, h) in sym (all_steps (map step_of items) at) ∙ ap (λ k. after (map step_of items) at k) (sym z) ∙ before
