-- What is before ` is not set` at the end of an unset text.
use Rattle.kc_dotconfig_model.proofs.Common.{◌≡◌, ◌≢◌, inl, inr, ℕ, ◌-◌, Bool, true, false, not, ◌&&◌, ◌||◌, ◌==◌, List, [], ◌∷◌, ◌++◌, length, take, length-append, refl, sym, ◌∙◌, ap, arith, codes, nat_lt, bytes_eq, take-append_seam, and_parts, cases_lt, eq-eqb, false≢true, lt-ltb}
use Rattle.kc_dotconfig_model.proofs.Common.{bytes_eq-Decides, has_no_byte, is_name_not_set, is_unset_text}
use Rattle.std.specs.Prelude.{nat_eq}
use Rattle.std.specs.List.{list_any}

-- a text that doesn't end with ` is not set` is no unset text
pub no_unset_text : (text whole : List ℕ) → whole ≡ text → ((front : List ℕ) → whole ≢ front ++ codes " is not set") → false ≡ is_unset_text text
no_unset_text text whole same other = go (is_unset_text text) refl where
  go : (t : Bool) → is_unset_text text ≡ t → false ≡ t
  go true e =
      let name = take (length text - length (codes " is not set")) text in
      let ends = (bytes_eq-Decides text (name ++ codes " is not set")).0 (and_parts _ (bytes_eq text (name ++ codes " is not set")) e).1 in
      absurd (other name (same ∙ ends))
  go false e = refl

lacks_space : (name : List ℕ) → has_no_byte 32 name ≡ not (list_any (λ y. nat_eq y 32) name)
lacks_space [] = refl
lacks_space (b ∷ name) = go (nat_eq b 32) (lacks_space name) where
  go : (t : Bool) → has_no_byte 32 name ≡ not (list_any (λ y. nat_eq y 32) name)
      → (not t && has_no_byte 32 name) ≡ not (t || list_any (λ y. nat_eq y 32) name)
  go true e = refl
  go false e = e

some_bytes : (name : List ℕ) → (length name == 0) ≡ false → nat_lt 0 (length name) ≡ true
some_bytes name some = elim (cases_lt 0 (length name)) [
  | inl few ↦ lt-ltb 0 (length name) few
  | inr none ↦ absurd (false≢true (sym some ∙ eq-eqb (length name) 0 (omega (arith, none))))
]

-- a name that isn't empty, and ` is not set`, are an unset text exactly if no byte of the name is a space
pub unset_by_name : (text whole name : List ℕ) (spaced : Bool) → whole ≡ text → whole ≡ name ++ codes " is not set" → (length name == 0) ≡ false
    → spaced ≡ list_any (λ y. nat_eq y 32) name → not spaced ≡ is_unset_text text
unset_by_name text whole name spaced same ends some any =
    let both = name ++ codes " is not set" in
    let size : length both - length (codes " is not set") ≡ length name = omega (arith, length-append name (codes " is not set")) in
    let cut : take (length both - length (codes " is not set")) both ≡ name = ap (λ k. take k both) size ∙ take-append_seam name (codes " is not set") in
    let equal = (bytes_eq-Decides both both).1 refl in
    let named : is_name_not_set name both ≡ not spaced =
    ap (λ t. (t && has_no_byte 32 name) && bytes_eq both both) (some_bytes name some) ∙ ap (λ t. has_no_byte 32 name && t) equal
    ∙ last (has_no_byte 32 name) ∙ lacks_space name ∙ ap not (sym any) in
    sym (ap is_unset_text (sym same ∙ ends) ∙ ap (λ n. is_name_not_set n both) cut ∙ named) where
      last : (t : Bool) → (t && true) ≡ t
      last true = refl
      last false = refl
