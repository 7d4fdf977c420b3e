-- A map after the insertion of an entry, which takes the place of one with its key, as views of its values show it.
use Rattle.kc_answers.proofs.Common.{◌≡◌, ℕ, Bool, true, false, cond, List, [], ◌∷◌, map, Option, Some, None, refl, sym, ap, ◌∙◌, Vec, bytes_eq, Global, bytes_eq-Decides, insert_entry, keyword_in_table}
use Rattle.kc_answers.proofs.TableLemmas.{bytes_eq_turned}

same_bytes : (x y : List ℕ) → bytes_eq x y ≡ true → x ≡ y
same_bytes x y h = (bytes_eq-Decides x y).0 h

no_bytes_twice : (x y z : List ℕ) → bytes_eq x y ≡ true → bytes_eq z x ≡ false → bytes_eq y z ≡ true → ⊥
no_bytes_twice x y z h k l =
    let e : z ≡ x = sym (same_bytes x y h ∙ same_bytes y z l) in
    let t : bytes_eq z x ≡ true = (bytes_eq-Decides z x).1 e in
    let z : true ≡ false = sym t ∙ k in cc

module _ {V W : Type 0} (view : V → W) (k : Vec ℕ Global) (v : V) (other : List ℕ) where
  abbrev entry_view : Vec ℕ Global × V → List ℕ × W
  entry_view e = (e.0.items, view e.1)

  abbrev found_in : List (Vec ℕ Global × V) → Option W
  found_in es = keyword_in_table (map entry_view es) other

  abbrev inserted : List (Vec ℕ Global × V) → List (Vec ℕ Global × V)
  inserted es = insert_entry (λ (a b : Vec ℕ Global). bytes_eq a.items b.items) es k v

  -- the same key takes the new value
  present : (e : Vec ℕ Global × V) (rest : Option W) → k.items ≡ e.0.items → (b : Bool) → bytes_eq e.0.items other ≡ b
      → cond (bytes_eq e.0.items other) (Some (view v)) rest ≡ cond (bytes_eq other k.items) (Some (view v))
      (cond (bytes_eq e.0.items other) (Some (view e.1)) rest)
  present e rest h b t =
      ap (λ c. cond c (Some (view v)) rest) t ∙ by_test b
      ∙ sym (ap (λ c. cond c (Some (view v)) (cond b (Some (view e.1)) rest)) (bytes_eq_turned other k.items ∙ ap (λ s. bytes_eq s other) h ∙ t))
      ∙ ap (λ c. cond (bytes_eq other k.items) (Some (view v)) (cond c (Some (view e.1)) rest)) (sym t)
    where
      by_test : (b : Bool) → cond b (Some (view v)) rest ≡ cond b (Some (view v)) (cond b (Some (view e.1)) rest)
      by_test true = refl
      by_test false = refl

  -- another key stays
  absent : (e : Vec ℕ Global × V) (rest : Option W) → bytes_eq k.items e.0.items ≡ false → (b c : Bool) → bytes_eq e.0.items other ≡ b
      → bytes_eq other k.items ≡ c
      → cond b (Some (view e.1)) (cond c (Some (view v)) rest) ≡ cond c (Some (view v)) (cond b (Some (view e.1)) rest)
  absent e rest h true true t u = absurd (no_bytes_twice e.0.items other k.items t h u)
  absent e rest h true false t u = refl
  absent e rest h false true t u = refl
  absent e rest h false false t u = refl

  -- after the insertion of an entry in a map, the look-up of a key finds the new value for the entry's key, and for others what
  -- it found before
  pub inserted_at : (es : List (Vec ℕ Global × V)) → found_in (inserted es) ≡ cond (bytes_eq other k.items) (Some (view v)) (found_in es)
  inserted_at [] = ap (λ b. cond b (Some (view v)) None) (bytes_eq_turned k.items other)
  inserted_at (e ∷ es) = by_test (bytes_eq k.items e.0.items) refl (inserted_at es)
    where
      by_test : (b : Bool) → bytes_eq k.items e.0.items ≡ b → found_in (inserted es) ≡ cond (bytes_eq other k.items) (Some (view v)) (found_in es)
          → found_in (cond b ((e.0, v) ∷ es) (e ∷ inserted es)) ≡ cond (bytes_eq other k.items) (Some (view v)) (found_in (e ∷ es))
      by_test true t ih = present e (found_in es) (same_bytes k.items e.0.items t) (bytes_eq e.0.items other) refl
      by_test false t ih =
          ap (λ o. cond (bytes_eq e.0.items other) (Some (view e.1)) o) ih
          ∙ absent e (found_in es) t (bytes_eq e.0.items other) (bytes_eq other k.items) refl refl
