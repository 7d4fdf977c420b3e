-- Items and extents of a text, item by item.
use Rattle.std.proofs.Common.{inl, inr}
use Rattle.std.specs.Prelude.{◌⊎◌, slice_get}
use Rattle.std.proofs.lemmas.Bool.{lt-ltb, cases_lt}
use Rattle.kc_macro_lines.proofs.Common.{◌≡◌, ℕ, zero, suc, ◌+◌, ◌-◌, ◌<◌, ◌≤◌, Bool, true, false, ◌&&◌, ◌||◌, cond, List, [], ◌∷◌, ◌++◌, length, take, drop, get_or, Option, Some, None, refl, sym, ap, ◌∙◌, arith, length-append, length-drop, ◌==◌, pred, is_some, not, nat_lt, le-ltb, list_any, Item}
use Rattle.kc_macro_lines.proofs.Common.{byte, escaped, reference, unterminated, item_bytes, reference_of, first_item, items, is_unterminated, is_reference, is_plain_dollar, inside_length, extent, first_item_of, rest_is}
use Rattle.std.specs.Cmp.{first_so}
use Rattle.kc_macros_model.specs.ExpansionRules.{begins_reference}

items_skip : (q : Bool) (n : ℕ) (s : List ℕ) → items q n s ≡ items q 0 (drop n s)
items_skip q zero s = refl
items_skip q (suc n) [] = refl
items_skip q (suc n) (c ∷ s) = items_skip q n s

extent_skip : (q : Bool) (ends : ℕ → Bool) (n : ℕ) (s : List ℕ) → n ≤ length s → extent q ends n s ≡ n + extent q ends 0 (drop n s)
extent_skip q ends zero s h = let e : 0 + extent q ends 0 s ≡ extent q ends 0 s = omega arith in sym e
extent_skip q ends (suc n) [] h = absurd (omega arith)
extent_skip q ends (suc n) (c ∷ s) h = ap suc (extent_skip q ends n s (omega (arith, h)))
    ∙ (let e : suc (n + extent q ends 0 (drop n s)) ≡ suc n + extent q ends 0 (drop n s) = omega arith in e)

-- each item has a byte
some_bytes : (i : Item) → length (item_bytes i) ≡ suc (pred (length (item_bytes i)))
some_bytes (byte c) = refl
some_bytes (escaped c) = refl
some_bytes (reference inside) = refl
some_bytes (unterminated rest) = refl

-- the items of a text that isn't empty are its first item and the items of the bytes after it
pub items_first : (q : Bool) (s : List ℕ) (n : ℕ) → 0 < length s → n ≡ length (item_bytes (first_item_of q s))
    → items q 0 s ≡ first_item_of q s ∷ items q 0 (drop n s)
items_first q [] n h e = absurd (omega arith)
items_first q (c ∷ s) n h e =
    let i = first_item q c s in
    ap (λ is. i ∷ is) (items_skip q (pred (length (item_bytes i))) s ∙ ap (λ k. items q 0 (drop k (c ∷ s))) (sym (e ∙ some_bytes i)))

-- if the first item of a text doesn't end its extent, the extent is the item's length and the extent of the bytes after it
pub extent_first : (q : Bool) (ends : ℕ → Bool) (s : List ℕ) (n : ℕ) → 0 < length s → n ≡ length (item_bytes (first_item_of q s)) → n ≤ length s
    → ends (get_or s 0 0) ≡ false
    → extent q ends 0 s ≡ n + extent q ends 0 (drop n s)
extent_first q ends [] n h e w f = absurd (omega arith)
extent_first q ends (c ∷ s) n h e w f =
    let i = first_item q c s in
    let k = pred (length (item_bytes i)) in
    let m : n ≡ suc k = e ∙ some_bytes i in
    ap (λ b. cond b 0 (suc (extent q ends k s))) f
    ∙ ap suc (extent_skip q ends k s (omega (arith, m, w)))
    ∙ (let a : suc (k + extent q ends 0 (drop k s)) ≡ suc k + extent q ends 0 (drop k s) = omega arith in a)
    ∙ ap (λ j. j + extent q ends 0 (drop j (c ∷ s))) (sym m)

pub extent_ends : (q : Bool) (ends : ℕ → Bool) (s : List ℕ) → 0 < length s → ends (get_or s 0 0) ≡ true → extent q ends 0 s ≡ 0
extent_ends q ends [] h e = absurd (omega arith)
extent_ends q ends (c ∷ s) h e = let i = first_item q c s in ap (λ b. cond b 0 (suc (extent q ends (pred (length (item_bytes i))) s))) e

-- the first item by the front of a text
first_reference : (q : Bool) (s : List ℕ) → begins_reference s ≡ true → first_item_of q s ≡ reference_of (drop 2 s) (inside_length 0 (drop 2 s))
first_reference q [] h = absurd (let z : ⊥ = cc in z)
first_reference q (c ∷ []) h = absurd (let z : ⊥ = cc in z)
first_reference q (c ∷ d ∷ s) h = ap (λ b. cond b (reference_of s (inside_length 0 s)) (cond (q && (c == 92)) (escaped d) (byte c))) h

length_take : (n : ℕ) (s : List ℕ) → n ≤ length s → length (take n s) ≡ n
length_take zero s h = refl
length_take (suc n) [] h = absurd (omega arith)
length_take (suc n) (c ∷ s) h = ap suc (length_take n s (omega (arith, h)))

module _ (q : Bool) (s : List ℕ) (begins : begins_reference s ≡ true) where
  pub reference_length : (n : ℕ) → inside_length 0 (take (length s - 2) (drop 2 s)) ≡ Some n → n < length (take (length s - 2) (drop 2 s))
      → n + 3 ≡ length (item_bytes (first_item_of q s))
  reference_length n e h =
      let same = rest_is s 2 in
      let short : n ≤ length (drop 2 s) = omega (arith, h, ap length same) in
      sym (ap (λ i. length (item_bytes i)) (first_reference q s begins ∙ ap (reference_of (drop 2 s)) (ap (inside_length 0) (sym same) ∙ e))
      ∙ (let a : suc (suc (length (take n (drop 2 s) ++ 41 ∷ []))) ≡ n + 3 =
      omega (arith, length-append (take n (drop 2 s)) (41 ∷ []), length_take n (drop 2 s) short) in a))

  pub unterminated_length : inside_length 0 (take (length s - 2) (drop 2 s)) ≡ None → 2 ≤ length s → length s ≡ length (item_bytes (first_item_of q s))
  unterminated_length e h =
      sym (ap (λ i. length (item_bytes i)) (first_reference q s begins ∙ ap (reference_of (drop 2 s)) (ap (inside_length 0) (sym (rest_is s 2)) ∙ e))
      ∙ (let a : suc (suc (length (drop 2 s))) ≡ length s = omega (arith, length-drop 2 s, h) in a))

  pub unterminated_by : (o : Option ℕ) → inside_length 0 (take (length s - 2) (drop 2 s)) ≡ o → is_unterminated (first_item_of q s) ≡ not (is_some o)
  unterminated_by o e = ap is_unterminated (first_reference q s begins ∙ ap (reference_of (drop 2 s)) (ap (inside_length 0) (sym (rest_is s 2)) ∙ e))
      ∙ by_case o
    where
      by_case : (o : Option ℕ) → is_unterminated (reference_of (drop 2 s) o) ≡ not (is_some o)
      by_case None = refl
      by_case (Some n) = refl

and_false : (b : Bool) → (b && false) ≡ false
and_false true = refl
and_false false = refl

and_true : (b : Bool) → (b && true) ≡ b
and_true true = refl
and_true false = refl

-- an item that is no reference has two bytes if it is a backslash with its byte in quotes, and one byte otherwise
pub plain_item : (q : Bool) (s : List ℕ) (b : Bool) → 0 < length s → begins_reference s ≡ false → b ≡ (q && (get_or s 0 0 == 92) && nat_lt 1 (length s))
    → length (item_bytes (first_item_of q s)) ≡ cond b 2 1
plain_item q [] b h p e = absurd (omega arith)
plain_item q (c ∷ []) b h p e = sym (ap (λ t. cond t 2 1) (e ∙ ap (λ t. q && (c == 92) && t) (le-ltb 1 1 (omega arith)) ∙ and_false (q && (c == 92))))
plain_item q (c ∷ d ∷ s) b h p e =
    ap (λ t. length (item_bytes (cond t (reference_of s (inside_length 0 s)) (cond (q && (c == 92)) (escaped d) (byte c))))) p
    ∙ by_test (q && (c == 92))
    ∙ sym (ap (λ t. cond t 2 1) (e ∙ ap (λ t. q && (c == 92) && t) (lt-ltb 1 (length (c ∷ d ∷ s)) (omega arith)) ∙ and_true (q && (c == 92))))
  where
    by_test : (t : Bool) → length (item_bytes (cond t (escaped d) (byte c))) ≡ cond t 2 1
    by_test true = refl
    by_test false = refl

pub plain_ends : (q : Bool) (s : List ℕ) → 0 < length s → begins_reference s ≡ false → is_unterminated (first_item_of q s) ≡ false
plain_ends q [] h p = refl
plain_ends q (c ∷ []) h p = refl
plain_ends q (c ∷ d ∷ s) h p = ap (λ t. is_unterminated (cond t (reference_of s (inside_length 0 s)) (cond (q && (c == 92)) (escaped d) (byte c)))) p
    ∙ by_test (q && (c == 92))
  where
    by_test : (t : Bool) → is_unterminated (cond t (escaped d) (byte c)) ≡ false
    by_test true = refl
    by_test false = refl

-- if the first item of a text isn't an unterminated reference, the text has one if the bytes after the item have one
pub unterminated_later : (q : Bool) (s : List ℕ) (n : ℕ) → 0 < length s → n ≡ length (item_bytes (first_item_of q s))
    → is_unterminated (first_item_of q s) ≡ false
    → list_any is_unterminated (items q 0 s) ≡ list_any is_unterminated (items q 0 (drop n s))
unterminated_later q s n h e f = ap (list_any is_unterminated) (items_first q s n h e) ∙ ap (λ b. b || list_any is_unterminated (items q 0 (drop n s))) f

pub unterminated_here : (q : Bool) (s : List ℕ) → 0 < length s → is_unterminated (first_item_of q s) ≡ true → list_any is_unterminated (items q 0 s) ≡ true
unterminated_here q s h f =
    let n = length (item_bytes (first_item_of q s)) in
    ap (list_any is_unterminated) (items_first q s n h refl) ∙ ap (λ b. b || list_any is_unterminated (items q 0 (drop n s))) f

pub turned : (a r : Bool) → a ≡ not r → r ≡ not a
turned a true e = sym (ap not e)
turned a false e = sym (ap not e)

pub two_bytes : (s : List ℕ) → begins_reference s ≡ true → 2 ≤ length s
two_bytes [] h = absurd (let z : ⊥ = cc in z)
two_bytes (c ∷ []) h = absurd (let z : ⊥ = cc in z)
two_bytes (c ∷ d ∷ s) h = omega arith

pub two_of_pair : (p : Bool) (n : ℕ) → (p && nat_lt 1 n) ≡ true → 2 ≤ n
two_of_pair p n h = by_order (cases_lt 1 n)
  where
    by_order : (1 < n) ⊎ (n ≤ 1) → 2 ≤ n
    by_order (inl l) = l
    by_order (inr l) = absurd (let z : false ≡ true = sym (ap (λ t. p && t) (le-ltb 1 n l) ∙ and_false p) ∙ h in let w : ⊥ = cc in w)

pub whole_text : (s : List ℕ) (quote : ℕ) → slice_get s 0 ≡ Some quote → s ≡ quote ∷ drop 1 s
whole_text [] quote h = absurd (let z : ⊥ = cc in z)
whole_text (c ∷ s) quote h = ap (λ d. d ∷ s) (let e : c ≡ quote = cc in e)

module _ (q : Bool) (rest : List ℕ) (n : ℕ) (some : 0 < length rest) (len : n ≡ length (item_bytes (first_item_of q rest))) (fits : n ≤ length rest) where
  abbrev later : List ℕ
  later = take (length rest - n) (drop n rest)

  later_length : length later + n ≡ length rest
  later_length = omega (arith, ap length (rest_is rest n), length-drop n rest, fits)

  module _ (ends : ℕ → Bool) (text : List ℕ) (within : length rest ≤ length text) where
    pub later_within : length later ≤ length text
    later_within = omega (arith, later_length, within)

    pub later_counted : ends (get_or rest 0 0) ≡ false → extent q ends 0 text ≡ (length text - length rest) + extent q ends 0 rest
        → extent q ends 0 text ≡ (length text - length later) + extent q ends 0 later
    later_counted goes_on counted =
        let first = extent_first q ends rest n some len fits goes_on in
        let same : extent q ends 0 (drop n rest) ≡ extent q ends 0 later = ap (extent q ends 0) (sym (rest_is rest n)) in
        omega (arith, later_length, within, counted, first, same)

  pub later_unterminated : (text : List ℕ) → is_unterminated (first_item_of q rest) ≡ false → list_any is_unterminated (items q 0 text)
      ≡ list_any is_unterminated (items q 0 rest)
      → list_any is_unterminated (items q 0 text) ≡ list_any is_unterminated (items q 0 later)
  later_unterminated text goes_on same = same ∙ unterminated_later q rest n some len goes_on ∙ ap (λ s. list_any is_unterminated (items q 0 s))
      (sym (rest_is rest n))

-- whether an item of a text passes a test, by the first item and the rest
module _ (p : Item → Bool) (q : Bool) (rest : List ℕ) (some : 0 < length rest) where
  pub item_here : p (first_item_of q rest) ≡ true → list_any p (items q 0 rest) ≡ true
  item_here f = let n = length (item_bytes (first_item_of q rest)) in ap (list_any p) (items_first q rest n some refl)
      ∙ ap (λ b. b || list_any p (items q 0 (drop n rest))) f

  pub item_later : (n : ℕ) → n ≡ length (item_bytes (first_item_of q rest)) → p (first_item_of q rest) ≡ false → (text : List ℕ)
      → list_any p (items q 0 text) ≡ list_any p (items q 0 rest)
      → list_any p (items q 0 text) ≡ list_any p (items q 0 (take (length rest - n) (drop n rest)))
  item_later n len f text same =
      same ∙ ap (list_any p) (items_first q rest n some len) ∙ ap (λ b. b || list_any p (items q 0 (drop n rest))) f
      ∙ ap (λ s. list_any p (items q 0 s)) (sym (rest_is rest n))

  -- whether one was found before, or an item of the rest passes, by the first item of the rest and those after it
  pub item_either : (n : ℕ) → n ≡ length (item_bytes (first_item_of q rest)) → (before : Bool) → (before || list_any p (items q 0 rest))
      ≡ ((before || p (first_item_of q rest)) || list_any p (items q 0 (take (length rest - n) (drop n rest))))
  item_either n len true = refl
  item_either n len false = ap (list_any p) (items_first q rest n some len)
      ∙ ap (λ s. p (first_item_of q rest) || list_any p (items q 0 s)) (sym (rest_is rest n))

by_front : (s : List ℕ) (b : Bool) → begins_reference s ≡ b → (p : Item → Bool) → ((o : Option ℕ) → p (reference_of (drop 2 s) o) ≡ false) → (b ≡ true)
    → p (first_item_of false s) ≡ false
by_front s b e p h t = ap p (first_reference false s (e ∙ t)) ∙ h (inside_length 0 (drop 2 s))

-- the first item of a text that begins with a reference is no `$` outside references
pub reference_is_no_dollar : (s : List ℕ) → begins_reference s ≡ true → is_plain_dollar (first_item_of false s) ≡ false
reference_is_no_dollar s h = by_front s true h is_plain_dollar by_case refl
  where
    by_case : (o : Option ℕ) → is_plain_dollar (reference_of (drop 2 s) o) ≡ false
    by_case None = refl
    by_case (Some n) = refl

pub dollar_by_byte : (s : List ℕ) → 0 < length s → begins_reference s ≡ false → is_plain_dollar (first_item_of false s) ≡ (get_or s 0 0 == 36)
dollar_by_byte [] h e = absurd (omega arith)
dollar_by_byte (c ∷ []) h e = refl
dollar_by_byte (c ∷ d ∷ s) h e = ap (λ t. is_plain_dollar (cond t (reference_of s (inside_length 0 s)) (byte c))) e

pub no_reference_front : (s : List ℕ) → 0 < length s → begins_reference s ≡ false → is_reference (first_item_of false s) ≡ false
no_reference_front [] h e = refl
no_reference_front (c ∷ []) h e = refl
no_reference_front (c ∷ d ∷ s) h e = ap (λ t. is_reference (cond t (reference_of s (inside_length 0 s)) (byte c))) e

pub reference_by : (s : List ℕ) → begins_reference s ≡ true → (o : Option ℕ) → inside_length 0 (take (length s - 2) (drop 2 s)) ≡ o
    → is_reference (first_item_of false s) ≡ is_some o
reference_by s begins o e = ap is_reference (first_reference false s begins ∙ ap (reference_of (drop 2 s)) (ap (inside_length 0) (sym (rest_is s 2)) ∙ e))
    ∙ by_case o
  where
    by_case : (o : Option ℕ) → is_reference (reference_of (drop 2 s) o) ≡ is_some o
    by_case None = refl
    by_case (Some n) = refl

-- the items in quotes of a text that begins with a backslash and another byte are this escaped byte and the items after it
pub pair_front : (s : List ℕ) → 0 < length s → begins_reference s ≡ false → (true && (get_or s 0 0 == 92) && nat_lt 1 (length s)) ≡ true
    → items true 0 s ≡ escaped (get_or s 1 0) ∷ items true 0 (take (length s - 2) (drop 2 s))
pair_front [] h p e = absurd (omega arith)
pair_front (c ∷ []) h p e = absurd (omega (arith, two_of_pair (c == 92) 1 e))
pair_front (c ∷ d ∷ s) h p e =
    let front : first_item_of true (c ∷ d ∷ s) ≡ escaped d =
    ap (λ t. cond t (reference_of s (inside_length 0 s)) (cond (c == 92) (escaped d) (byte c))) p ∙ ap (λ t. cond t (escaped d) (byte c))
    (first_so (c == 92) (nat_lt 1 (length (c ∷ d ∷ s))) e) in
    items_first true (c ∷ d ∷ s) 2 h (sym (ap (λ i. length (item_bytes i)) front)) ∙ ap (λ i. i ∷ items true 0 s) front
    ∙ ap (λ t. escaped d ∷ items true 0 t) (sym (rest_is (c ∷ d ∷ s) 2))

pub byte_front : (s : List ℕ) → 0 < length s → begins_reference s ≡ false → (true && (get_or s 0 0 == 92) && nat_lt 1 (length s)) ≡ false
    → items true 0 s ≡ byte (get_or s 0 0) ∷ items true 0 (take (length s - 1) (drop 1 s))
byte_front [] h p e = absurd (omega arith)
byte_front (c ∷ []) h p e = refl
byte_front (c ∷ d ∷ s) h p e =
    let none : (c == 92) ≡ false = sym (and_true (c == 92)) ∙ ap (λ t. (c == 92) && t) (sym (lt-ltb 1 (length (c ∷ d ∷ s)) (omega arith))) ∙ e in
    let front : first_item_of true (c ∷ d ∷ s) ≡ byte c =
    ap (λ t. cond t (reference_of s (inside_length 0 s)) (cond (c == 92) (escaped d) (byte c))) p ∙ ap (λ t. cond t (escaped d) (byte c)) none in
    items_first true (c ∷ d ∷ s) 1 h (sym (ap (λ i. length (item_bytes i)) front)) ∙ ap (λ i. i ∷ items true 0 (d ∷ s)) front
    ∙ ap (λ t. byte c ∷ items true 0 t) (sym (rest_is (c ∷ d ∷ s) 1))
