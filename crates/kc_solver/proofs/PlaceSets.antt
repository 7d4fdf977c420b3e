-- Sets of places as trees of words.
use Rattle.kc_solver.proofs.Common.{◌≡◌, ◌≢◌, ◌↔◌, inl, inr, ℕ, zero, suc, ◌+◌, ◌-◌, ◌*◌, ◌/◌, ◌%◌, ◌^◌, ◌<◌, ◌≤◌, Bool, true, false, eqb, List, length, get_or, set, replicate, take, drop, ◌++◌, refl, sym, ◌∙◌, ap, arith, cases_eq, cases_lt, cases_Bool, false≢true, eqb_tells, get_or-set_same}
use Rattle.kc_solver.proofs.Common.{get_or-set_other, get_or-replicate, AreLevels}
use Rattle.std.specs.Int.{bit_at, trailing_zeros, bit_not, w64}
use Rattle.std.specs.Int.RustNames.{bit_or}
use lib.Bits.{bit_and}
use Rattle.std.proofs.Math.ListN.{get_or-eq_default, length-set, length-replicate}
use Rattle.std.proofs.lemmas.Nat.Bits.{bit_at-zero, bit_at-trailing_zeros, bit_at_set_same, bit_at_set_other, bit_at_clear_same, bit_at_clear_other}
use Rattle.std.proofs.Math.Seq.{take-append_seam}
use Rattle.kc_solver.specs.checker.PlaceSets.{has, first_of, IsTree, WritesBit, WritesPlace, TakesLeast, is_place}

-- ---- one bit

-- a bit is read from its word
same_word : (old new : List ℕ) (k : ℕ) → get_or new (k / 64) 0 ≡ get_or old (k / 64) 0 → has new k ≡ has old k
unfolding has
same_word old new k e = ap (λ w. eqb (bit_at w (k % 64)) 1) e

same_bit : (old new : List ℕ) (k : ℕ) → bit_at (get_or new (k / 64) 0) (k % 64) ≡ bit_at (get_or old (k / 64) 0) (k % 64) → has new k ≡ has old k
unfolding has
same_bit old new k e = ap (λ b. eqb b 1) e

bit_is : (words : List ℕ) (k : ℕ) → has words k ≡ true → bit_at (get_or words (k / 64) 0) (k % 64) ≡ 1
unfolding has
bit_is words k h = elim (eqb_tells (bit_at (get_or words (k / 64) 0) (k % 64)) 1) [ inl t ↦ t.1 | inr f ↦ absurd (false≢true (sym f.0 ∙ h)) ]

is_bit : (words : List ℕ) (k : ℕ) → bit_at (get_or words (k / 64) 0) (k % 64) ≡ 1 → has words k ≡ true
unfolding has
is_bit words k h = ap (λ b. eqb b 1) h

isnt_bit : (words : List ℕ) (k : ℕ) → bit_at (get_or words (k / 64) 0) (k % 64) ≡ 0 → has words k ≡ false
unfolding has
isnt_bit words k h = ap (λ b. eqb b 1) h

-- a number with a bit isn't zero
some_bit : (n i : ℕ) → bit_at n i ≡ 1 → 0 < n
some_bit n i h = elim (cases_eq n 0) [
  | inl none ↦ absurd (omega (arith, sym (bit_at-zero i) ∙ ap (λ m. bit_at m i) (sym none) ∙ h))
  | inr some ↦ omega arith
]

-- the word that has a set bit isn't zero
some_word : (words : List ℕ) (k : ℕ) → has words k ≡ true → 0 < get_or words (k / 64) 0
some_word words k h = some_bit (get_or words (k / 64) 0) (k % 64) (bit_is words k h)

-- a word that isn't zero is in the list
pub in_list : (words : List ℕ) (j : ℕ) → 0 < get_or words j 0 → j < length words
in_list words j h = elim (cases_lt j (length words)) [
  | inl lt ↦ lt
  | inr le ↦ absurd (omega (arith, h, get_or-eq_default words 0 le))
]

writes : (words : List ℕ) (bit n : ℕ) (on follows : Bool) → bit / 64 < length words → (has (set words (bit / 64) n) bit ≡ on)
    → ((i : ℕ) → i < 64 → i ≢ bit % 64 → bit_at n i ≡ bit_at (get_or words (bit / 64) 0) i)
    → (follows ≡ false → (0 < n) ↔ (0 < get_or words (bit / 64) 0)) → (follows ≡ true → (0 < n) ↔ (on ≡ true))
    → WritesBit words (set words (bit / 64) n) bit on follows
writes words bit n on follows inside here bits stays turns =
    let w = bit / 64 in
    let new = set words w n in
    let at : get_or new w 0 ≡ n = get_or-set_same words w n 0 inside in
    record {
      one_each = length-set words w n;
      here = here;
      others = λ k ne. elim (cases_eq (k / 64) w) [
        | inl same ↦ same_bit words new k (ap (λ j. bit_at (get_or new j 0) (k % 64)) same
            ∙ ap (λ x. bit_at x (k % 64)) at ∙ bits (k % 64) (omega arith) (λ e. ne (omega (arith, e, same)))
            ∙ ap (λ j. bit_at (get_or words j 0) (k % 64)) (sym same))
        | inr other ↦ same_word words new k (get_or-set_other words w (k / 64) n 0 other)
      ];
      words = λ j ne. get_or-set_other words w j n 0 ne;
      stays = λ f. rw at (stays f);
      turns = λ f. rw at (turns f);
    }

-- writing `was | 1 << k` over the word `was` sets bit k of the word
pub writes_on : (words : List ℕ) (bit was : ℕ) (follows : Bool) → bit / 64 < length words → was ≡ get_or words (bit / 64) 0 → (follows ≡ false → was ≢ 0)
    → WritesBit words (set words (bit / 64) (bit_or was (1 * 2 ^ (bit % 64) % 2 ^ 64))) bit true follows
writes_on words bit was follows inside is few =
    let w = bit / 64 in
    let k = bit % 64 in
    let n = bit_or was (1 * 2 ^ k % 2 ^ 64) in
    let low : k < 64 = omega arith in
    let one : bit_at n k ≡ 1 = bit_at_set_same w64 was k low in
    let some = some_bit n k one in
    writes words bit n true follows inside (is_bit (set words w n) bit (ap (λ x. bit_at x k) (get_or-set_same words w n 0 inside) ∙ one))
    (λ i lt ne. bit_at_set_other w64 was k low i ne ∙ ap (λ x. bit_at x i) is)
    (λ f. (λ _. omega (arith, is, few f), λ _. some))
    (λ f. (λ _. refl, λ _. some))

-- writing `was & !(1 << k)` over the word `was` clears bit k of the word
pub writes_off : (words : List ℕ) (bit was : ℕ) (follows : Bool) → bit / 64 < length words → was ≡ get_or words (bit / 64) 0
    → (follows ≡ false → bit_and was (bit_not w64 (1 * 2 ^ (bit % 64) % 2 ^ 64)) ≢ 0)
    → (follows ≡ true → bit_and was (bit_not w64 (1 * 2 ^ (bit % 64) % 2 ^ 64)) ≡ 0)
    → WritesBit words (set words (bit / 64) (bit_and was (bit_not w64 (1 * 2 ^ (bit % 64) % 2 ^ 64)))) bit false follows
writes_off words bit was follows inside is some none =
    let w = bit / 64 in
    let k = bit % 64 in
    let n = bit_and was (bit_not w64 (1 * 2 ^ k % 2 ^ 64)) in
    let low : k < 64 = omega arith in
    let zero_bit : bit_at n k ≡ 0 = bit_at_clear_same w64 was k low in
    let from_zero : was ≡ 0 → n ≡ 0 = λ e. ap (λ x. bit_and x (bit_not w64 (1 * 2 ^ k % 2 ^ 64))) e in
    writes words bit n false follows inside (isnt_bit (set words w n) bit (ap (λ x. bit_at x k) (get_or-set_same words w n 0 inside) ∙ zero_bit))
    (λ i lt ne. bit_at_clear_other w64 was k low i lt ne ∙ ap (λ x. bit_at x i) is)
    (λ f. (λ _. elim (cases_eq was 0) [ inl e ↦ absurd (some f (from_zero e)) | inr ne ↦ omega (arith, is, ne) ], λ _. omega (arith, some f)))
    (λ f. (λ lt. absurd (omega (arith, lt, none f)), λ e. absurd (false≢true e)))

-- ---- the way up

-- On the way up: the bit of a place is written, and the levels are as they should be, except perhaps for the bit that represents
-- the word of the bit written last.
pub record Climbs (first : ℕ) (old now : List ℕ) (at bit : ℕ) (on follows : Bool) : Type 0 where
  pub one_each : length now ≡ length old
  pub few : length now ≤ 64 * first + 1
  pub here : has now at ≡ on
  pub others : (k : ℕ) → 64 * first ≤ k → k ≢ at → has now k ≡ has old k
  pub from : 64 * first ≤ at
  pub nonzero : (k : ℕ) → k < 64 * first → (follows ≡ true → suc k ≢ bit / 64) → (has now k ≡ true) ↔ (0 < get_or now (suc k) 0)
  pub turns : follows ≡ true → (0 < get_or now (bit / 64) 0) ↔ (on ≡ true)

-- a bit is still set exactly if its word isn't zero, where neither is written
still : (old new : List ℕ) (bit k : ℕ) (on follows : Bool) → WritesBit old new bit on follows → k ≢ bit → (follows ≡ true → suc k ≢ bit / 64)
    → (has old k ≡ true) ↔ (0 < get_or old (suc k) 0) → (has new k ≡ true) ↔ (0 < get_or new (suc k) 0)
still old new bit k on follows p ne apart was =
    let bits = p.others k ne in
    elim (cases_eq (suc k) (bit / 64)) [
      | inl same ↦
          let quiet : follows ≡ false = elim follows as (λ f. (f ≡ true → suc k ≢ bit / 64) → f ≡ false)
          [ true ↦ λ a. absurd (a refl same) | false ↦ λ a. refl ] apart in
          let word = rw (← same) at (p.stays quiet) in
          (λ h. word.1 (was.0 (sym bits ∙ h)), λ h. bits ∙ was.1 (word.0 h))
      | inr other ↦
          let word = p.words (suc k) other in
          (λ h. omega (arith, word, was.0 (sym bits ∙ h)), λ h. bits ∙ was.1 (omega (arith, word, h)))
    ]

pub climb_begun : (first : ℕ) (old now : List ℕ) (at : ℕ) (on follows : Bool) → AreLevels first old → 64 * first ≤ at → WritesBit old now at on follows
    → Climbs first old now at at on follows
climb_begun first old now at on follows levels from p = record {
  one_each = p.one_each;
  few = omega (arith, p.one_each, levels.few);
  here = p.here;
  others = λ k _ ne. p.others k ne;
  from = from;
  nonzero = λ k lt apart. still old now at k on follows p (λ e. omega (arith, e, lt, from)) apart (levels.nonzero k lt);
  turns = p.turns;
}

pub climb_more : (first : ℕ) (old now next : List ℕ) (at bit up : ℕ) (on follows : Bool) → Climbs first old now at bit on true → 64 ≤ bit
    → bit / 64 < length now
    → up ≡ bit / 64 - 1 → WritesBit now next up on follows
    → Climbs first old next at up on follows
climb_more first old now next at bit up on follows c above inside is p =
    let after : suc up ≡ bit / 64 = omega arith in
    let low : up < 64 * first = omega (arith, c.few) in
    record {
      one_each = p.one_each ∙ c.one_each;
      few = omega (arith, p.one_each, c.few);
      here = p.others at (λ e. omega (arith, e, c.from)) ∙ c.here;
      others = λ k le ne. p.others k (λ e. omega (arith, e, le)) ∙ c.others k le ne;
      from = c.from;
      nonzero = λ k lt apart. elim (cases_eq k up) [
        | inl same ↦
            let word : get_or next (suc k) 0 ≡ get_or now (bit / 64) 0 = p.words (suc k) (omega (arith, same))
            ∙ ap (λ j. get_or now j 0) (ap suc same ∙ after) in
            let bit_here : has next k ≡ on = ap (has next) same ∙ p.here in
            let turns = c.turns refl in
            (λ h. omega (arith, word, turns.1 (sym bit_here ∙ h)), λ h. bit_here ∙ turns.0 (omega (arith, word, h)))
        | inr other ↦ still now next up k on follows p other apart (c.nonzero k lt (λ _ e. other (omega (arith, e, after))))
      ];
      turns = p.turns;
    }

pub climb_ended : (first : ℕ) (old now : List ℕ) (at bit : ℕ) (on follows : Bool) → Climbs first old now at bit on follows → (follows ≡ true → bit < 64)
    → WritesPlace first old now at on
climb_ended first old now at bit on follows c top = record {
  one_each = c.one_each;
  levels = record { few = c.few; nonzero = λ k lt. c.nonzero k lt (λ f e. omega (arith, e, top f)) };
  here = c.here;
  others = c.others;
}

-- ---- no place

pub none_set : (words : List ℕ) (k : ℕ) → get_or words (k / 64) 0 ≡ 0 → has words k ≡ false
none_set words k e = isnt_bit words k (ap (λ x. bit_at x (k % 64)) e ∙ bit_at-zero (k % 64))

pub all_zero : (first : ℕ) (words : List ℕ) → length words ≤ 64 * first + 1 → ((j : ℕ) → get_or words j 0 ≡ 0) → AreLevels first words
all_zero first words few zeros = record {
  few = few;
  nonzero = λ k _. (λ h. absurd (false≢true (sym (none_set words k (zeros (k / 64))) ∙ h)), λ h. absurd (omega (arith, h, zeros (suc k))));
}

pub zeros_are : (n j : ℕ) → (let zeros : List ℕ = replicate n 0 in get_or zeros j 0 ≡ 0)
zeros_are n j =
    let zeros : List ℕ = replicate n 0 in elim (cases_lt j n) [
      | inl lt ↦ get_or-replicate {A = ℕ} n j 0 0 lt
      | inr le ↦ get_or-eq_default zeros 0 (omega (arith, length-replicate {A = ℕ} n 0, le))
    ]

-- a bit is only set if the first word isn't zero
root : (first : ℕ) (words : List ℕ) → AreLevels first words → (n k : ℕ) → k < n → has words k ≡ true → 0 < get_or words 0 0
root first words levels zero k lt h = absurd (omega (arith, lt))
root first words levels (suc n) k lt h =
    let some = some_word words k h in
    let inside = in_list words (k / 64) some in
    elim (cases_eq (k / 64) 0) [
      | inl top ↦ rw top at some
      | inr lower ↦
          let next : suc (k / 64 - 1) ≡ k / 64 = omega arith in
          let above = levels.nonzero (k / 64 - 1) (omega (arith, levels.few, inside, lower)) in
          root first words levels n (k / 64 - 1) (omega (arith, lt, lower)) (above.1 (rw next some))
    ]

pub none_below : (first : ℕ) (words : List ℕ) → AreLevels first words → get_or words 0 0 ≡ 0 → (k : ℕ) → has words k ≡ false
none_below first words levels top k =
    elim (cases_Bool (has words k)) [
      | inl t ↦ absurd (omega (arith, top, root first words levels (suc k) k (omega arith) t))
      | inr f ↦ f
    ]

-- ---- the way down

-- in a tree of words the number of the word d levels above word j
pub up : ℕ → ℕ → ℕ
up zero j = j
up (suc d) j = (up d j - 1) / 64

up_zero : (j : ℕ) → up zero j ≡ j
unfolding up
up_zero j = refl

up_suc : (d j : ℕ) → up (suc d) j ≡ (up d j - 1) / 64
unfolding up
up_suc d j = refl

pub first_zero : first_of zero ≡ 0
unfolding first_of
first_zero = refl

pub first_suc : (n : ℕ) → first_of (suc n) ≡ 64 * first_of n + 1
unfolding first_of
first_suc n = refl

first_grows : (d a b : ℕ) → a + d ≡ b → first_of a ≤ first_of b
first_grows zero a b e = let same : a ≡ b = omega (arith, e) in rw same (omega arith)
first_grows (suc d) a b e = omega (arith, first_suc a, first_grows d (suc a) b (omega (arith, e)))

lowest_has : (words : List ℕ) (word : ℕ) → get_or words word 0 < 2 ^ 64 → 0 < get_or words word 0
    → (trailing_zeros w64 (get_or words word 0) < 64) × (has words (64 * word + trailing_zeros w64 (get_or words word 0)) ≡ true)
lowest_has words word small some =
    let n = get_or words word 0 in
    let low = trailing_zeros w64 n in
    let t = bit_at-trailing_zeros w64 n some small in
    let below : low < 64 = t.0 in
    let k = 64 * word + low in
    let at : k / 64 ≡ word = omega (arith, below) in
    let in_word : k % 64 ≡ low = omega (arith, below) in
    (below, is_bit words k (ap (λ j. bit_at (get_or words j 0) (k % 64)) at ∙ ap (λ i. bit_at n i) in_word ∙ t.1))

lowest_least : (words : List ℕ) (word k : ℕ) → get_or words word 0 < 2 ^ 64 → 0 < get_or words word 0 → word ≤ k / 64 → has words k ≡ true
    → 64 * word + trailing_zeros w64 (get_or words word 0) ≤ k
lowest_least words word k small some le h =
    let n = get_or words word 0 in
    let low = trailing_zeros w64 n in
    let t = bit_at-trailing_zeros w64 n some small in
    let below : low < 64 = t.0 in
    elim (cases_lt word (k / 64)) [
      | inl lt ↦ omega (arith, lt, below)
      | inr ge ↦
          let same : word ≡ k / 64 = omega (arith, le, ge) in
          let one : bit_at n (k % 64) ≡ 1 = ap (λ j. bit_at (get_or words j 0) (k % 64)) same ∙ bit_is words k h in
          elim (cases_lt (k % 64) low) [
            | inl under ↦ absurd (omega (arith, one, t.2 (k % 64) under))
            | inr from ↦ omega (arith, from, same)
          ]
    ]

-- each word above a word of the last level that isn't zero isn't zero
up_live : (levels : ℕ) (words : List ℕ) → AreLevels (first_of levels) words → (d a j : ℕ) → a + d ≡ levels → first_of levels ≤ j → 0 < get_or words j 0
    → (first_of a ≤ up d j) × (0 < get_or words (up d j) 0)
up_live levels words l zero a j e from some =
    let same : a ≡ levels = omega (arith, e) in
    rw (up_zero, same) (from, some)
up_live levels words l (suc d) a j e from some =
    let below = up_live levels words l d (suc a) j (omega (arith, e)) from some in
    let u = up d j in
    let lower : 64 * first_of a + 1 ≤ u = omega (arith, first_suc a, below.0) in
    let inside = in_list words u below.1 in
    let next : suc (u - 1) ≡ u = omega (arith, lower) in
    let bit = (l.nonzero (u - 1) (omega (arith, l.few, inside, lower))).1 (rw next below.1) in
    rw up_suc (omega (arith, lower), some_word words (u - 1) bit)

-- On the way down to the least place: the word is on its level and isn't zero, and no word before it on this level leads to a
-- place.
pub record Descends (levels : ℕ) (words : List ℕ) (level word : ℕ) : Type 0 where
  pub deep : first_of level ≤ word
  pub shallow : word < first_of (suc level)
  pub some : 0 < get_or words word 0
  pub before : (d j : ℕ) → level + d ≡ levels → first_of levels ≤ j → 0 < get_or words j 0 → word ≤ up d j

pub descend_begun : (levels : ℕ) (words : List ℕ) → 0 < get_or words 0 0 → Descends levels words 0 0
descend_begun levels words some = record {
  deep = omega (arith, first_zero);
  shallow = omega (arith, first_suc 0);
  some = some;
  before = λ d j _ _ _. omega arith;
}

pub descend_more : (levels : ℕ) (words : List ℕ) (level word child : ℕ) → AreLevels (first_of levels) words → Descends levels words level word → level < levels
    → get_or words word 0 < 2 ^ 64
    → child ≡ 64 * word + 1 + trailing_zeros w64 (get_or words word 0) → Descends levels words (suc level) child
descend_more levels words level word child l was lt small is =
    let low = trailing_zeros w64 (get_or words word 0) in
    let has_low = lowest_has words word small was.some in
    let within : first_of (suc level) ≤ first_of levels = first_grows (levels - suc level) (suc level) levels (omega (arith, lt)) in
    let bit = 64 * word + low in
    let next : suc bit ≡ child = omega (arith, is) in
    let child = l.nonzero bit (omega (arith, has_low.0, within, was.shallow)) in
    record {
      deep = omega (arith, first_suc level, was.deep, is);
      shallow = omega (arith, first_suc (suc level), was.shallow, is, has_low.0);
      some = rw next at (child.0 has_low.1);
      before = λ d j e from some.
          let above = was.before (suc d) j (omega (arith, e)) from some in
          let live = up_live levels words l d (suc level) j e from some in
          let u = up d j in
          let over : word ≤ (u - 1) / 64 = rw up_suc at above in
          let lower : 1 ≤ u = omega (arith, first_suc level, live.0) in
          let inside = in_list words u live.1 in
          let after : suc (u - 1) ≡ u = omega (arith, lower) in
          let set_above = (l.nonzero (u - 1) (omega (arith, l.few, inside, lower))).1 (rw after live.1) in
          omega (arith, is, lower, lowest_least words word (u - 1) small was.some over set_above);
    }

pub descend_ended : (levels : ℕ) (words : List ℕ) (word : ℕ) → Descends levels words levels word → get_or words word 0 < 2 ^ 64
    → (64 * first_of levels ≤ 64 * word + trailing_zeros w64 (get_or words word 0))
    × ((64 * word + trailing_zeros w64 (get_or words word 0)) / 64 < length words)
    × (has words (64 * word + trailing_zeros w64 (get_or words word 0)) ≡ true)
    × ((k : ℕ) → 64 * first_of levels ≤ k → has words k ≡ true → 64 * word + trailing_zeros w64 (get_or words word 0) ≤ k)
descend_ended levels words word was small =
    let has_low = lowest_has words word small was.some in (
      omega (arith, was.deep),
      omega (arith, has_low.0, in_list words word was.some),
      has_low.1,
      λ k from h.
          let over : word ≤ k / 64 = rw up_zero at (was.before 0 (k / 64) (omega arith) (omega (arith, from)) (some_word words k h)) in
          lowest_least words word k small was.some over h,
    )

-- ---- the calls

-- a set after one bit of its last level is written in a copy of its words, which is put back in front of what was after them
pub record HasWritten (levels first size : ℕ) (old new : List ℕ) (bit : ℕ) (on : Bool) : Type 0 where
  pub tree : IsTree levels first size new
  pub here : has new bit ≡ on
  pub others : (k : ℕ) → 64 * first + k ≢ bit → is_place first new k ≡ is_place first old k

pub has_written : (levels first size n : ℕ) (old new : List ℕ) (bit : ℕ) (on : Bool) → IsTree levels first size old → length old ≡ n → 64 * first ≤ bit
    → (AreLevels first old → 64 * first ≤ bit → WritesPlace first old new bit on)
    → HasWritten levels first size old (take n (new ++ drop (length new) old)) bit on
has_written levels first size n old new bit on t long from writes =
    let p = writes t.levels_are from in
    let back : take n (new ++ drop (length new) old) ≡ new = ap (λ k. take k (new ++ drop (length new) old)) (sym long ∙ sym p.one_each)
    ∙ take-append_seam new (drop (length new) old) in
    rw back (record {
      tree = record {
        starts = t.starts;
        room = omega (arith, t.room, p.one_each);
        narrow = omega (arith, t.narrow, p.one_each);
        short = omega (arith, t.short, p.one_each);
        levels_are = p.levels;
      };
      here = p.here;
      others = λ k ne. p.others (64 * first + k) (omega arith) ne;
    })

pub takes_least : (levels first size : ℕ) (old new : List ℕ) (bit : ℕ) → 64 * first ≤ bit → has old bit ≡ true
    → ((k : ℕ) → 64 * first ≤ k → has old k ≡ true → bit ≤ k) → HasWritten levels first size old new bit false
    → TakesLeast (is_place first old) (is_place first new) (bit - 64 * first)
takes_least levels first size old new bit from here least w =
    let at : 64 * first + (bit - 64 * first) ≡ bit = omega (arith, from) in
    record {
      member = ap (has old) at ∙ here;
      least = λ k h. omega (arith, least (64 * first + k) (omega arith) h);
      gone = ap (has new) at ∙ w.here;
      others = λ k ne. w.others k (λ e. ne (omega (arith, e)));
    }
