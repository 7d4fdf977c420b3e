-- A `$` or a byte that isn't ASCII among the bytes that are looked at together.
use Rattle.std.proofs.Common.{◌*◌, ◌%◌, ◌^◌, eqb, not, ◌==◌, bit_or, Fits, w8, map, ap₂}
use Rattle.kc_macro_lines.proofs.Common.{◌≡◌, ℕ, zero, suc, ◌+◌, ◌≤◌, leb, Bool, true, false, ◌||◌, cond, List, [], ◌∷◌, ◌++◌, length, take, drop, get_or, refl, sym, ap, ◌∙◌, arith, length-drop, nat_le, list_any, eqb-true, length-chunk, chunk, has_dollar_or_wide}
use Rattle.std.proofs.lemmas.Bool.{agree_below, agree_below_at}
use Rattle.std.proofs.lemmas.List.{take-append-drop, take-take, drop-take, take_all, length-map}
use Rattle.std.proofs.lemmas.List.Folds.{list_any-append}
use Rattle.std.proofs.lemmas.Simd.{map-map, mask_l-mod, chunk-fits}
use lib.Lanes.{Each1, mask_l, top}

-- two tests that agree at each byte find one among the same bytes
any_same : (p q : ℕ → Bool) → agree_below p q 256 ≡ true → (xs : List ℕ) → Each1 (Fits w8) xs → list_any p xs ≡ list_any q xs
any_same p q all [] h = refl
any_same p q all (x ∷ xs) h = ap₂ (λ a b. a || b) (agree_below_at p q 256 x all h.0.fits) (any_same p q all xs h.1)

is_false : (b : Bool) → (b ≡ true → ⊥) → b ≡ false
is_false true h = absurd (h refl)
is_false false h = refl

-- a mask is zero just where no lane passes
any_by_mask : (p : ℕ → Bool) (xs : List ℕ) → list_any p xs ≡ not (eqb (mask_l (map p xs)) 0)
any_by_mask p [] = refl
any_by_mask p (x ∷ xs) = by_test (p x) (mask_l (map p xs)) (list_any p xs) (any_by_mask p xs)
  where
    by_test : (b : Bool) (m : ℕ) (found : Bool) → found ≡ not (eqb m 0) → (b || found) ≡ not (eqb (cond b 1 0 + 2 * m) 0)
    by_test true m found e = ap not (sym (is_false (eqb (1 + 2 * m) 0) (λ t. let z : 1 + 2 * m ≡ 0 = eqb-true (1 + 2 * m) 0 t in omega (arith, z))))
    by_test false zero found e = e
    by_test false (suc m) found e =
        let some : eqb (suc m) 0 ≡ false = is_false (eqb (suc m) 0) (λ t. let z : suc m ≡ 0 = eqb-true (suc m) 0 t in omega (arith, z)) in
        let more : eqb (0 + 2 * suc m) 0 ≡ false = is_false (eqb (0 + 2 * suc m) 0)
        (λ t. let z : 0 + 2 * suc m ≡ 0 = eqb-true (0 + 2 * suc m) 0 t in omega (arith, z)) in
        e ∙ ap not (some ∙ sym more)

-- what the mask of one load says
pub block_marked : (text : List ℕ) (at : ℕ) → at + 16 ≤ length text → ((k : ℕ) → Fits w8 (get_or text k 0)) → (z : List ℕ)
    → z ≡ map (λ x. bit_or (cond (x == 36) 255 0) (cond (leb 128 x) 255 0)) (chunk at 16 text)
    → not (eqb (mask_l (map (top 7) z) % 2 ^ 64) 0) ≡ has_dollar_or_wide (take 16 (drop at text))
block_marked text at room fits z lanes =
    let v = chunk at 16 text in
    let long = length-chunk at 16 text room in
    let test : ℕ → Bool = λ x. top 7 (bit_or (cond (x == 36) 255 0) (cond (leb 128 x) 255 0)) in
    let mask = ap (λ l. mask_l l % 2 ^ 64) (ap (map (top 7)) lanes ∙ map-map (top 7) (λ x. bit_or (cond (x == 36) 255 0) (cond (leb 128 x) 255 0)) v)
    ∙ mask_l-mod (map test v) 64 (omega (arith, length-map v test, long)) in
    ap (λ m. not (eqb m 0)) mask ∙ sym (any_by_mask test v)
    ∙ any_same test (λ c. c == 36 || nat_le 128 c) refl v (chunk-fits w8 at 16 text fits)

-- the bytes up to the end of a block
up_to_block : (text : List ℕ) (at : ℕ) → take (at + 16) text ≡ take at text ++ take 16 (drop at text)
up_to_block text at = sym (take-append-drop at (take (at + 16) text)) ∙ ap₂ (λ a b. a ++ b) (take-take at (at + 16) text (omega arith)) (drop-take at 16 text)

either_none : (a b : Bool) → a ≡ false → b ≡ false → (a || b) ≡ false
either_none a b e f = rw (e, f) refl

second_found : (a b c : Bool) → b ≡ true → (a || (b || c)) ≡ true
second_found true b c e = refl
second_found false b c e = rw e refl

first_none : (a b c : Bool) → (a || b) ≡ false → a ≡ false
first_none true b c e = absurd (let z : ⊥ = cc in z)
first_none false b c e = refl

pub block_passed : (text : List ℕ) (at : ℕ) → has_dollar_or_wide (take at text) ≡ false → has_dollar_or_wide (take 16 (drop at text)) ≡ false
    → has_dollar_or_wide (take (at + 16) text) ≡ false
block_passed text at before block =
    ap has_dollar_or_wide (up_to_block text at) ∙ list_any-append (λ c. c == 36 || nat_le 128 c) (take at text) (take 16 (drop at text))
    ∙ either_none _ _ before block

parts : (text : List ℕ) (at : ℕ) → has_dollar_or_wide text ≡ (has_dollar_or_wide (take at text) || has_dollar_or_wide (drop at text))
parts text at = ap has_dollar_or_wide (sym (take-append-drop at text)) ∙ list_any-append (λ c. c == 36 || nat_le 128 c) (take at text) (drop at text)

pub block_found : (text : List ℕ) (at : ℕ) → has_dollar_or_wide (take 16 (drop at text)) ≡ true → has_dollar_or_wide text ≡ true
block_found text at e =
    parts text at ∙ ap (λ b. has_dollar_or_wide (take at text) || b) (parts (drop at text) 16)
    ∙ second_found (has_dollar_or_wide (take at text)) _ (has_dollar_or_wide (drop 16 (drop at text))) e

pub last_block : (text : List ℕ) (at last : ℕ) → last ≤ at → last + 16 ≡ length text → has_dollar_or_wide (take at text) ≡ false
    → has_dollar_or_wide (take 16 (drop last text)) ≡ has_dollar_or_wide text
last_block text at last order room before =
    let front = first_none (has_dollar_or_wide (take last text)) (has_dollar_or_wide (drop last (take at text))) true
    (sym (parts (take at text) last ∙ ap (λ t. has_dollar_or_wide t || has_dollar_or_wide (drop last (take at text))) (take-take last at text order)) ∙ before) in
    ap has_dollar_or_wide (take_all 16 (drop last text) (omega (arith, length-drop last text)))
    ∙ sym (parts text last ∙ ap (λ b. b || has_dollar_or_wide (drop last text)) front)
