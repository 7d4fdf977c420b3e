-- The number of a symbol, which may be a new one.
use Rattle.kc_parser.proofs.Common.{◌≡◌, ℕ, ◌-◌, ◌<◌, ◌≤◌, true, false, List, [], ◌∷◌, ◌++◌, length, get_or, Some, None, refl, ap, sym, ◌∙◌, arith, length-append, Result, Ok, Err, inl, option_and_then, slice_get, nat_le, take-length, slice_get-get_or, nat_tests, Exprs, Grows, index_of_name}
use Rattle.kc_parser.proofs.Common.{MAX_SYMBOLS, TreeKind, OutOfMemory, number_in_slot, HasNames, is_full}
use Rattle.std.specs.Prelude.{IfOk, IfErr, OnOk}
use Rattle.std.proofs.lemmas.List.{get_or-append_right}
use Rattle.kc_parser.specs.declared.listing.SymbolTable.{SymbolTable}
use Rattle.kc_parser.specs.checker.Symbols.{KeepsNames, ReturnsSymbol}
use Rattle.kc_parser.proofs.NameLemmas.{with_new, full_is, as_many_names}

-- `Grows` holds of an arena that stays as it is
pub same_names : (e : Exprs) → Grows e e
same_names e = record { names = take-length e.names; nodes = take-length e.nodes }

-- the number of a symbol, by the index of its name in the arena, is the one that the table of numbers has for this index
pub place_known : (e : Exprs) (symbols numbers : List ℕ) (names : List (List ℕ)) (x : List ℕ) (id : ℕ) → HasNames e symbols numbers names
    → index_of_name x e.names ≡ Some id → index_of_name x names ≡ number_in_slot (get_or numbers id 0)
place_known e symbols numbers names x id h p = sym (h.numbered x) ∙ ap (option_and_then (λ i. number_in_slot (get_or numbers i 0))) p

-- where there may be one more
limit_is : (n k : ℕ) → k ≡ n → MAX_SYMBOLS ≤ k → nat_le MAX_SYMBOLS n ≡ true
limit_is n k e h = grind (arith, nat_tests)

limit_not : (n k : ℕ) → k ≡ n → k < MAX_SYMBOLS → nat_le MAX_SYMBOLS n ≡ false
limit_not n k e h = grind (arith, nat_tests)

-- the last one
got_last : (names : List (List ℕ)) (x : List ℕ) (n : ℕ) → n ≡ length names → slice_get (names ++ x ∷ []) n ≡ Some x
got_last names x n e =
    let z : n - length names ≡ 0 = omega arith in
    slice_get-get_or (names ++ x ∷ []) n [] (omega (arith, length-append names (x ∷ [])))
    ∙ ap Some (get_or-append_right names (x ∷ []) (length names) n [] refl (omega arith) ∙ ap (λ k. get_or (x ∷ []) k []) z)

module _ (e : Exprs) (symbols numbers : List ℕ) (names : List (List ℕ)) (x : List ℕ) (h : HasNames e symbols numbers names)
    (none : index_of_name x names ≡ None) where
  pub reported_full : 1000000 ≤ length symbols → is_full x names ≡ true
  reported_full l = full_is x names none ∙ limit_is (length names) (length symbols) (as_many_names e symbols numbers names h) l

  pub reported_new : (new : SymbolTable) (result : Result ℕ TreeKind) → length symbols < 1000000 → IfOk result (λ n. n ≡ length symbols)
      → OnOk result (KeepsNames new (names ++ x ∷ [])) → IfErr result (λ k. k ≡ OutOfMemory) → ReturnsSymbol x names new result
  reported_new new (Ok n) l i k m = (
    full_is x names none ∙ limit_not (length names) (length symbols) (as_many_names e symbols numbers names h) l,
    rw (with_new x names none) k,
    rw (with_new x names none) (got_last names x n (i ∙ as_many_names e symbols numbers names h)),
  )
  reported_new new (Err kind) l i k m = inl m
