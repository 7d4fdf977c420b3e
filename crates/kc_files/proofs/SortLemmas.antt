-- Texts in ascending order, and the one list of them.
use Rattle.std.proofs.Common.{Ordering}
use Rattle.std.specs.Prelude.{sum_by}
use Rattle.std.specs.Ordering.{nat_cmp, is_le, is_lt, is_gt, ordering_reverse}
use Rattle.std.specs.declared.cmp.Ordering.TheVariants.{Less, Equal, Greater}
use Rattle.std.specs.Cmp.Lexicographic.{slice_cmp}
use Rattle.std.specs.List.Sorted.{IsPermutation}
use Rattle.kc_files.proofs.Common.{◌≡◌, ℕ, suc, ◌+◌, ◌<◌, ◌≤◌, Bool, true, false, cond, List, [], ◌∷◌, length, get_or, refl, sym, ap, ◌∙◌, arith, Vec, bytes_eq, Global, nat_tests, bytes_eq-Decides, sorted, items_of}
use Rattle.std.proofs.lemmas.Cmp.{same_from_slice_cmp, upto, nat_list_cmp_total}
use Rattle.std.proofs.lemmas.List.Sorted.{sum_by-IsPermutation, IsPermutation-map}
use Rattle.std.proofs.lemmas.List.Recursion.{is_sum_by}
use Rattle.kc_macros_model.specs.PathPatterns.{is_in_order, inserted}
use Rattle.kc_files.proofs.TableLemmas.{bytes_eq_same}

order_of : (x y : List ℕ) (o : Ordering) → o ≡ slice_cmp nat_cmp x y → is_le o ≡ is_in_order x y
order_of = same_from_slice_cmp nat_cmp is_le is_in_order refl (λ _ _. refl) (λ _ _. refl) (λ x y xs ys o h. grind (arith, nat_tests))

not_greater : (o : Ordering) → is_le o ≡ true → is_gt o ≡ false
not_greater Less e = refl
not_greater Equal e = refl
not_greater Greater e = absurd (let z : ⊥ = cc in z)

up_to : (o : Ordering) → is_gt o ≡ false → is_le o ≡ true
up_to Less e = refl
up_to Equal e = refl
up_to Greater e = absurd (let z : ⊥ = cc in z)

turned_order : (o : Ordering) → is_le o ≡ false → is_le (ordering_reverse o) ≡ true
turned_order Less e = absurd (let z : ⊥ = cc in z)
turned_order Equal e = absurd (let z : ⊥ = cc in z)
turned_order Greater e = refl

not_less : (o : Ordering) → is_lt (ordering_reverse o) ≡ false → is_le o ≡ true
not_less Less e = refl
not_less Equal e = refl
not_less Greater e = absurd (let z : ⊥ = cc in z)

order_twice : (x y z : List ℕ) → is_in_order x y ≡ true → is_in_order y z ≡ true → is_in_order x z ≡ true
order_twice x y z e f =
    sym (order_of x z (slice_cmp nat_cmp x z) refl)
    ∙ up_to (slice_cmp nat_cmp x z) (upto nat_list_cmp_total x y z (not_greater (slice_cmp nat_cmp x y) (order_of x y (slice_cmp nat_cmp x y) refl ∙ e))
    (not_greater (slice_cmp nat_cmp y z) (order_of y z (slice_cmp nat_cmp y z) refl ∙ f)))

other_order : (x y : List ℕ) → is_in_order x y ≡ false → is_in_order y x ≡ true
other_order x y e =
    sym (order_of y x (slice_cmp nat_cmp y x) refl) ∙ ap is_le (nat_list_cmp_total.antisymm y x) ∙ turned_order (slice_cmp nat_cmp x y)
    (order_of x y (slice_cmp nat_cmp x y) refl ∙ e)

order_by_cmp : (x y : List ℕ) → is_lt (slice_cmp nat_cmp y x) ≡ false → is_in_order x y ≡ true
order_by_cmp x y e = sym (order_of x y (slice_cmp nat_cmp x y) refl) ∙ not_less (slice_cmp nat_cmp x y) (ap is_lt (sym (nat_list_cmp_total.antisymm y x)) ∙ e)

same_in_order : (x y : List ℕ) → is_in_order x y ≡ true → is_in_order y x ≡ true → x ≡ y
same_in_order [] [] e f = refl
same_in_order [] (d ∷ t) e f = absurd (let z : ⊥ = cc in z)
same_in_order (c ∷ s) [] e f = absurd (let z : ⊥ = cc in z)
same_in_order (c ∷ s) (d ∷ t) e f =
    let h : c ≡ d = grind (arith, nat_tests) in
    let a : is_in_order s t ≡ true = grind (arith, nat_tests) in
    let b : is_in_order t s ≡ true = grind (arith, nat_tests) in
    ap (λ x. x ∷ s) h ∙ ap (λ xs. d ∷ xs) (same_in_order s t a b)

-- each text is in order with the next one
data IsChain : List (List ℕ) → Type 0 where
  no_text : IsChain []
  one_text : {x : List ℕ} → IsChain (x ∷ [])
  more_texts : {x y : List ℕ} {ys : List (List ℕ)} → is_in_order x y ≡ true → IsChain (y ∷ ys) → IsChain (x ∷ y ∷ ys)

chain_rest : {x : List ℕ} {xs : List (List ℕ)} → IsChain (x ∷ xs) → IsChain xs
chain_rest one_text = no_text
chain_rest (more_texts e c) = c

inserted_chain : (s : List ℕ) (ts : List (List ℕ)) → IsChain ts → IsChain (inserted s ts)
inserted_chain s [] c = one_text
inserted_chain s (t ∷ []) c = by_test (is_in_order s t) refl
  where
    by_test : (b : Bool) → is_in_order s t ≡ b → IsChain (cond b (s ∷ t ∷ []) (t ∷ s ∷ []))
    by_test true e = more_texts e one_text
    by_test false e = more_texts (other_order s t e) one_text
inserted_chain s (t ∷ u ∷ ts) (more_texts h c) = by_tests (is_in_order s t) refl (is_in_order s u) refl (inserted_chain s (u ∷ ts) c)
  where
    by_tests : (b : Bool) → is_in_order s t ≡ b → (d : Bool) → is_in_order s u ≡ d → IsChain (cond d (s ∷ u ∷ ts) (u ∷ inserted s ts))
        → IsChain (cond b (s ∷ t ∷ u ∷ ts) (t ∷ cond d (s ∷ u ∷ ts) (u ∷ inserted s ts)))
    by_tests true e d f i = more_texts e (more_texts h c)
    by_tests false e true f i = more_texts (other_order s t e) i
    by_tests false e false f i = more_texts h i

sorted_chain : (xs : List (List ℕ)) → IsChain (sorted xs)
sorted_chain [] = no_text
sorted_chain (x ∷ xs) = inserted_chain x (sorted xs) (sorted_chain xs)

-- how often a text is there
abbrev count : List ℕ → List (List ℕ) → ℕ
count x [] = 0
count x (y ∷ ys) = cond (bytes_eq x y) 1 0 + count x ys

count_is : (x : List ℕ) (xs : List (List ℕ)) → count x xs ≡ sum_by (λ y. cond (bytes_eq x y) 1 0) xs
count_is x xs = is_sum_by (count x) (λ y. cond (bytes_eq x y) 1 0) refl (λ y ys. refl) xs

count_inserted : (x s : List ℕ) (ts : List (List ℕ)) → count x (inserted s ts) ≡ count x (s ∷ ts)
count_inserted x s [] = refl
count_inserted x s (t ∷ ts) = by_test (is_in_order s t) (count_inserted x s ts)
  where
    by_test : (b : Bool) → count x (inserted s ts) ≡ count x (s ∷ ts) → count x (cond b (s ∷ t ∷ ts) (t ∷ inserted s ts)) ≡ count x (s ∷ t ∷ ts)
    by_test true ih = refl
    by_test false ih = by_both (bytes_eq x s) (bytes_eq x t) (count x ts) (count x (inserted s ts)) ih
      where
        by_both : (b c : Bool) (n m : ℕ) → m ≡ cond b 1 0 + n → cond c 1 0 + m ≡ cond b 1 0 + (cond c 1 0 + n)
        by_both b c n m e = omega arith

count_sorted : (x : List ℕ) (xs : List (List ℕ)) → count x (sorted xs) ≡ count x xs
count_sorted x [] = refl
count_sorted x (y ∷ xs) = count_inserted x y (sorted xs) ∙ ap (λ n. cond (bytes_eq x y) 1 0 + n) (count_sorted x xs)

order_self : (x : List ℕ) → is_in_order x x ≡ true
order_self [] = refl
order_self (c ∷ s) = let h = order_self s in grind (arith, nat_tests)

-- the first text of a chain is the least
least_first : (x y : List ℕ) (ys : List (List ℕ)) → IsChain (y ∷ ys) → 0 < count x (y ∷ ys) → is_in_order y x ≡ true
least_first x y [] c h = by_test (bytes_eq x y) refl h
  where
    by_test : (b : Bool) → bytes_eq x y ≡ b → 0 < cond b 1 0 + 0 → is_in_order y x ≡ true
    by_test true e k = ap (λ z. is_in_order y z) ((bytes_eq-Decides x y).0 e) ∙ order_self y
    by_test false e k = absurd (omega arith)
least_first x y (z ∷ zs) (more_texts o c) h = by_test (bytes_eq x y) refl h (least_first x z zs c)
  where
    by_test : (b : Bool) → bytes_eq x y ≡ b → 0 < cond b 1 0 + count x (z ∷ zs) → (0 < count x (z ∷ zs) → is_in_order z x ≡ true) → is_in_order y x ≡ true
    by_test true e k ih = ap (λ z. is_in_order y z) ((bytes_eq-Decides x y).0 e) ∙ order_self y
    by_test false e k ih = order_twice y z x o (ih (omega arith))

left_over : (a b m n : ℕ) → a ≡ b → a + m ≡ b + n → m ≡ n
left_over a b m n e h = omega arith

-- a chain is determined by its texts
one_chain : (xs ys : List (List ℕ)) → IsChain xs → IsChain ys → ((z : List ℕ) → count z xs ≡ count z ys) → xs ≡ ys
one_chain [] [] c d h = refl
one_chain [] (y ∷ ys) c d h = absurd (let e = h y in let f = bytes_eq_same y in let k : count y (y ∷ ys) ≡ 1 + count y ys = ap (λ b. cond b 1 0 + count y ys) f
    in omega arith)
one_chain (x ∷ xs) [] c d h = absurd (let e = h x in let f = bytes_eq_same x in let k : count x (x ∷ xs) ≡ 1 + count x xs = ap (λ b. cond b 1 0 + count x xs) f
    in omega arith)
one_chain (x ∷ xs) (y ∷ ys) c d h =
    let here : count x (x ∷ xs) ≡ 1 + count x xs = ap (λ b. cond b 1 0 + count x xs) (bytes_eq_same x) in
    let there : count y (y ∷ ys) ≡ 1 + count y ys = ap (λ b. cond b 1 0 + count y ys) (bytes_eq_same y) in
    let hx = h x in
    let hy = h y in
    let e : x ≡ y = same_in_order x y (least_first y x xs c (omega arith)) (least_first x y ys d (omega arith)) in
    let rest : (z : List ℕ) → count z xs ≡ count z ys = λ z. left_over (cond (bytes_eq z x) 1 0) (cond (bytes_eq z y) 1 0) (count z xs) (count z ys)
    (ap (λ t. cond (bytes_eq z t) 1 0) e) (h z) in
    ap (λ t. t ∷ xs) e ∙ ap (λ ts. y ∷ ts) (one_chain xs ys (chain_rest c) (chain_rest d) rest)

chain_of : (vs : List (Vec ℕ Global)) → ((k : ℕ) (v : Vec ℕ Global) → suc k < length vs
    → is_lt (slice_cmp nat_cmp (get_or vs (suc k) v).items (get_or vs k v).items) ≡ false) → IsChain (items_of vs)
chain_of [] h = no_text
chain_of (v ∷ []) h = one_text
chain_of (v ∷ w ∷ vs) h = more_texts (order_by_cmp v.items w.items (h 0 v (omega arith))) (chain_of (w ∷ vs) (λ k d l. h (suc k) d (omega arith)))

-- a reordered list of vectors in which no text is greater than the next one is the sorted list of the texts
pub sorted_by_sort : (old new : List (Vec ℕ Global)) → IsPermutation old new
    → ((k : ℕ) (v : Vec ℕ Global) → 0 ≤ k → k + 1 < length new → is_lt (slice_cmp nat_cmp (get_or new (k + 1) v).items (get_or new k v).items) ≡ false)
    → items_of new ≡ sorted (items_of old)
sorted_by_sort old new p h =
    one_chain (items_of new) (sorted (items_of old)) (chain_of new (λ k v l. ap (λ i. is_lt (slice_cmp nat_cmp (get_or new i v).items (get_or new k v).items))
    (let i : suc k ≡ k + 1 = omega arith in i) ∙ h k v (omega arith) (omega arith))) (sorted_chain (items_of old))
    (λ z. count_is z (items_of new) ∙ sum_by-IsPermutation (λ y. cond (bytes_eq z y) 1 0) (items_of old) (items_of new)
    (IsPermutation-map (λ (v : Vec ℕ Global). v.items) old new p) ∙ sym (count_is z (items_of old)) ∙ sym (count_sorted z (items_of old)))
