-- The value of a text so far, item by item.
use Rattle.kc_macros.proofs.Common.{◌≡◌, ℕ, ◌+◌, ◌<◌, ◌≤◌, Bool, true, false, ◌&&◌, List, [], ◌∷◌, ◌++◌, length, map, Some, None, refl, sym, ap, ◌∙◌, append_assoc, arith, length-append, inl, inr, is_some, ◌⊎◌, append-nil, le-leb, lt-leb, MAX_TEXT_BYTES, Place, Program, returns, fails, ◌>>=◌, Item}
use Rattle.kc_macros.proofs.Common.{byte, Value, value_length, joined_values, unless_too_long, item_values, known_bytes, value_if_known, too_long, values_left}
use Rattle.std.specs.Prelude.{nat_le}
use Rattle.std.proofs.lemmas.Bool.{cases_lt}
use Rattle.kc_macros.proofs.ProgramLemmas.{then_returns, then_then, then_same}

pub joined_three : (u v w : Value) → joined_values u (joined_values v w) ≡ joined_values (joined_values u v) w
joined_three None v w = refl
joined_three (Some u) None w = refl
joined_three (Some u) (Some v) None = refl
joined_three (Some u) (Some v) (Some w) = ap Some (sym (append_assoc u v w))

pub joined_nothing : (v : Value) → joined_values (Some []) v ≡ v
joined_nothing None = refl
joined_nothing (Some s) = refl

pub nothing_joined : (v : Value) → joined_values v (Some []) ≡ v
nothing_joined None = refl
nothing_joined (Some s) = ap Some (append-nil s)

pub known_more : (known : Bool) (bytes : List ℕ) (v : Value) → joined_values (value_if_known known bytes) v
    ≡ value_if_known (known && is_some v) (bytes ++ known_bytes v)
known_more true bytes (Some s) = refl
known_more true bytes None = refl
known_more false bytes v = refl

pub known_length : (v : Value) → length (known_bytes v) ≡ value_length v
known_length (Some s) = refl
known_length None = refl

pub fits : {A : Type 0} (at : Place) (n : ℕ) (p : Program A) → n ≤ MAX_TEXT_BYTES → unless_too_long at n p ≡ p
fits at n p h = ap (λ b. elim b [ true ↦ p | false ↦ fails (too_long at) ]) (le-leb n MAX_TEXT_BYTES h)

pub fits_not : {A : Type 0} (at : Place) (n : ℕ) (p : Program A) → MAX_TEXT_BYTES < n → unless_too_long at n p ≡ fails (too_long at)
fits_not at n p h = ap (λ b. elim b [ true ↦ p | false ↦ fails (too_long at) ]) (lt-leb n MAX_TEXT_BYTES h)

pub long_then : {A B : Type 0} (at : Place) (n : ℕ) (p : Program A) (f : A → Program B) → unless_too_long at n p >>= f ≡ unless_too_long at n (p >>= f)
long_then {A = A} {B = B} at n p f = by_test (nat_le n MAX_TEXT_BYTES)
  where
    by_test : (b : Bool) → (elim b as (λ z. Program A) [ true ↦ p | false ↦ fails (too_long at) ]) >>= f
        ≡ (elim b as (λ z. Program B) [ true ↦ p >>= f | false ↦ fails (too_long at) ])
    by_test true = refl
    by_test false = refl

module _ (at : Place) (value : Item → Program Value) (known : Bool) (bytes : List ℕ) where
  -- the program for the values of all items of a text is the one for the items left before the first one is expanded
  pub all_left : (is : List Item) → item_values at value 0 is ≡ values_left at value true [] is
  all_left is = sym (then_same (item_values at value 0 is) (λ rest. returns (joined_values (Some []) rest)) returns (λ v. ap returns (joined_nothing v))
      ∙ then_returns (item_values at value 0 is))

  -- the program for the value of a text returns the joined values of its items if no item is left
  pub none_left : values_left at value known bytes [] ≡ returns (value_if_known known bytes)
  none_left = ap returns (nothing_joined (value_if_known known bytes))

  -- the program for the value of a text expands its next item, and joins its value to those before, unless that gets too long
  pub one_left : (i : Item) (is : List Item) → values_left at value known bytes (i ∷ is)
      ≡ value i >>= (λ v. unless_too_long at (length bytes + value_length v) (values_left at value (known && is_some v) (bytes ++ known_bytes v) is))
  one_left i is =
      then_then (value i) (λ v. unless_too_long at (length bytes + value_length v)
      (item_values at value (length bytes + value_length v) is >>= λ rest. returns (joined_values v rest)))
      (λ rest. returns (joined_values (value_if_known known bytes) rest))
      ∙ then_same (value i) (λ v. unless_too_long at (length bytes + value_length v)
      (item_values at value (length bytes + value_length v) is >>= λ rest. returns (joined_values v rest)) >>= λ rest. returns
      (joined_values (value_if_known known bytes) rest))
      (λ v. unless_too_long at (length bytes + value_length v) (values_left at value (known && is_some v) (bytes ++ known_bytes v) is)) later
    where
      later : (v : Value) → unless_too_long at (length bytes + value_length v)
          (item_values at value (length bytes + value_length v) is >>= λ rest. returns (joined_values v rest)) >>=
          (λ rest. returns (joined_values (value_if_known known bytes) rest))
          ≡ unless_too_long at (length bytes + value_length v) (values_left at value (known && is_some v) (bytes ++ known_bytes v) is)
      later v =
          let n = length bytes + value_length v in
          let p = item_values at value n is in
          let longer : length (bytes ++ known_bytes v) ≡ n = length-append bytes (known_bytes v) ∙ ap (λ k. length bytes + k) (known_length v) in
          long_then at n (p >>= λ rest. returns (joined_values v rest)) (λ rest. returns (joined_values (value_if_known known bytes) rest))
          ∙ ap (unless_too_long at n) (then_then p (λ rest. returns (joined_values v rest)) (λ rest. returns (joined_values (value_if_known known bytes) rest))
          ∙ then_same p (λ rest. returns (joined_values (value_if_known known bytes) (joined_values v rest)))
          (λ rest. returns (joined_values (value_if_known (known && is_some v) (bytes ++ known_bytes v)) rest))
          (λ rest. ap returns (joined_three (value_if_known known bytes) v rest ∙ ap (λ u. joined_values u rest) (known_more known bytes v)))
          ∙ ap (λ m. item_values at value m is >>= λ rest. returns (joined_values (value_if_known (known && is_some v) (bytes ++ known_bytes v)) rest))
          (sym longer))

always : (known : Bool) → (known && true) ≡ known
always true = refl
always false = refl

module _ (at : Place) (value : Item → Program Value) (bytes_stay : (c : ℕ) → value (byte c) ≡ returns (Some (c ∷ []))) (known : Bool) where
  byte_left : (bytes : List ℕ) (c : ℕ) (is : List Item) → values_left at value known bytes (byte c ∷ is)
      ≡ unless_too_long at (length bytes + 1) (values_left at value known (bytes ++ c ∷ []) is)
  byte_left bytes c is =
      one_left at value known bytes (byte c) is
      ∙ ap (λ p. p >>= (λ v. unless_too_long at (length bytes + value_length v) (values_left at value (known && is_some v) (bytes ++ known_bytes v) is)))
      (bytes_stay c)
      ∙ ap (λ b. unless_too_long at (length bytes + 1) (values_left at value b (bytes ++ c ∷ []) is)) (always known)

  -- plain bytes of a text that don't make its value too long are appended to the values of the items before them
  pub text_left : (text bytes : List ℕ) (is : List Item) → length bytes + length text ≤ MAX_TEXT_BYTES
      → values_left at value known bytes (map byte text ++ is) ≡ values_left at value known (bytes ++ text) is
  text_left [] bytes is h = ap (λ b. values_left at value known b is) (sym (append-nil bytes))
  text_left (c ∷ text) bytes is h =
      byte_left bytes c (map byte text ++ is)
      ∙ fits at (length bytes + 1) (values_left at value known (bytes ++ c ∷ []) (map byte text ++ is)) (omega (arith, h))
      ∙ text_left text (bytes ++ c ∷ []) is (omega (arith, h, length-append bytes (c ∷ [])))
      ∙ ap (λ b. values_left at value known b is) (append_assoc bytes (c ∷ []) text)

  -- plain bytes of a text that make its value too long are a fault
  pub text_left_out : (text bytes : List ℕ) (is : List Item) → length bytes ≤ MAX_TEXT_BYTES → MAX_TEXT_BYTES < length bytes + length text
      → values_left at value known bytes (map byte text ++ is) ≡ fails (too_long at)
  text_left_out [] bytes is h k = absurd (omega (arith, h, k))
  text_left_out (c ∷ text) bytes is h k = byte_left bytes c (map byte text ++ is) ∙ by_order (λ x y. text_left_out text (bytes ++ c ∷ []) is x y)
      (cases_lt MAX_TEXT_BYTES (length bytes + 1))
    where
      by_order : (length (bytes ++ c ∷ []) ≤ MAX_TEXT_BYTES → MAX_TEXT_BYTES < length (bytes ++ c ∷ []) + length text
          → values_left at value known (bytes ++ c ∷ []) (map byte text ++ is) ≡ fails (too_long at))
          → (MAX_TEXT_BYTES < length bytes + 1) ⊎ (length bytes + 1 ≤ MAX_TEXT_BYTES)
          → unless_too_long at (length bytes + 1) (values_left at value known (bytes ++ c ∷ []) (map byte text ++ is)) ≡ fails (too_long at)
      by_order ih (inl l) = fits_not at (length bytes + 1) (values_left at value known (bytes ++ c ∷ []) (map byte text ++ is)) l
      by_order ih (inr l) =
          fits at (length bytes + 1) (values_left at value known (bytes ++ c ∷ []) (map byte text ++ is)) l
          ∙ ih (omega (arith, l, length-append bytes (c ∷ []))) (omega (arith, k, length-append bytes (c ∷ [])))
