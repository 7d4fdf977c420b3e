-- Records stored for the groups that were read, each with where its part of a list begins, by the groups' numbers.
use Rattle.kc_checks.proofs.Common.{◌≡◌, ℕ, zero, suc, ◌+◌, ◌-◌, ◌<◌, ◌≤◌, false, cond, List, [], ◌∷◌, length, get_or, drop, reverse, refl, ap, sym, ◌∙◌, arith, slice_range, nat_lt, Group, read_before}
use Rattle.std.proofs.lemmas.Bool.{lt-ltb}
use Rattle.std.proofs.lemmas.List.{get_or-reverse, length-reverse}

module _ {T X : Type 0} (none : T) (begin : T → ℕ) (items : List X) (R : List X → T → Group → List Group → Type 0) where
  -- where the part of a record ends: where the next one's begins, or the end of the list
  abbrev pub end_of : List T → ℕ → ℕ
  end_of cs i = cond (nat_lt (i + 1) (length cs)) (begin (get_or cs (i + 1) none)) (length items)

  -- `R` holds of the part of record `i`, the record, its group and the groups before it, and the part lies within the list
  pub record IsStoredAt (cs : List T) (read : List Group) (i : ℕ) : Type 0 where
    pub group : Group
    pub now : read_before (i + 1) read ≡ group ∷ read_before i read
    pub shown : R (slice_range items (begin (get_or cs i none)) (end_of cs i)) (get_or cs i none) group (read_before i read)
    pub rising : begin (get_or cs i none) ≤ end_of cs i
    pub within : end_of cs i ≤ length items

  -- there are as many records as groups
  pub record AreStored (cs : List T) (read : List Group) : Type 0 where
    pub count : length cs ≡ length read
    pub at : (i : ℕ) → i < length cs → IsStoredAt cs read i

  -- where the part of a record ends, the newest first
  end_at : ℕ → List T → ℕ → ℕ
  end_at end cs zero = end
  end_at end [] (suc k) = end
  end_at end (c ∷ cs) (suc k) = end_at (begin c) cs k

  end_is : (end : ℕ) (cs : List T) (k : ℕ) → k < length cs → end_at end cs (suc k) ≡ begin (get_or cs k none)
  unfolding end_at
  end_is end [] k h = absurd (omega arith)
  end_is end (c ∷ cs) zero h = refl
  end_is end (c ∷ cs) (suc k) h = end_is (begin c) cs k (omega arith)

  record IsNewestAt (end : ℕ) (cs : List T) (ms : List Group) (k : ℕ) : Type 0 where
    pub group : Group
    pub now : drop k ms ≡ group ∷ drop (suc k) ms
    pub shown : R (slice_range items (begin (get_or cs k none)) (end_at end cs k)) (get_or cs k none) group (drop (suc k) ms)
    pub rising : begin (get_or cs k none) ≤ end_at end cs k
    pub within : end_at end cs k ≤ end

  -- a relation of records and groups, the newest first, that says this of each record's part up to where the one before begins
  module _ (Q : ℕ → List T → List Group → Type 0) (no_record : (end : ℕ) (m : Group) (ms : List Group) → Q end [] (m ∷ ms) → ⊥)
      (no_group : (end : ℕ) (c : T) (cs : List T) → Q end (c ∷ cs) [] → ⊥) (first : (end : ℕ) (c : T) (cs : List T) (m : Group) (ms : List Group)
      → Q end (c ∷ cs) (m ∷ ms) → R (slice_range items (begin c) end) c m ms × (begin c ≤ end) × Q (begin c) cs ms) where
    as_many : (end : ℕ) (cs : List T) (ms : List Group) → Q end cs ms → length cs ≡ length ms
    as_many end [] [] h = refl
    as_many end [] (m ∷ ms) h = absurd (no_record end m ms h)
    as_many end (c ∷ cs) [] h = absurd (no_group end c cs h)
    as_many end (c ∷ cs) (m ∷ ms) h = ap suc (as_many (begin c) cs ms (first end c cs m ms h).2)

    newest_at : (end : ℕ) (cs : List T) (ms : List Group) (k : ℕ) → k < length cs → Q end cs ms → IsNewestAt end cs ms k
    unfolding end_at
    newest_at end [] ms k l h = absurd (omega arith)
    newest_at end (c ∷ cs) [] k l h = absurd (no_group end c cs h)
    newest_at end (c ∷ cs) (m ∷ ms) zero l h =
        let f = first end c cs m ms h in
        record { group = m; now = refl; shown = f.0; rising = f.1; within = (let r : end ≤ end = omega arith in r) }
    newest_at end (c ∷ cs) (m ∷ ms) (suc k) l h =
        let f = first end c cs m ms h in
        let r = newest_at (begin c) cs ms k (omega arith) f.2 in
        record { group = r.group; now = r.now; shown = r.shown; rising = r.rising; within = (let a = r.within in let b = f.1 in omega arith) }

    -- the same in reading order
    module _ (cs : List T) (read : List Group) (h : Q (length items) (reverse cs) read) where
      count_is : length cs ≡ length read
      count_is = sym (length-reverse cs) ∙ as_many (length items) (reverse cs) read h

      ends_by : (i k : ℕ) → i < length cs → i + suc k ≡ length cs → end_at (length items) (reverse cs) k ≡ end_of cs i
      unfolding end_at
      ends_by i zero l n =
          ap (λ b. cond b (begin (get_or cs (i + 1) none)) (length items)) (sym (let f : nat_lt (i + 1) (length cs) ≡ false = grind arith in f))
      ends_by i (suc k) l n =
          let r : k < length cs = omega arith in
          let b : k < length (reverse cs) = omega (arith, length-reverse cs) in
          end_is (length items) (reverse cs) k b
          ∙ ap begin (get_or-reverse cs k none r ∙ ap (λ j. get_or cs j none) (let q : length cs - 1 - k ≡ i + 1 = omega arith in q))
          ∙ ap (λ b. cond b (begin (get_or cs (i + 1) none)) (length items)) (sym (lt-ltb (i + 1) (length cs) (omega arith)))

      stored_at : (i : ℕ) → i < length cs → IsStoredAt cs read i
      stored_at i l =
          let k : ℕ = length cs - suc i in
          let b : k < length (reverse cs) = omega (arith, length-reverse cs) in
          let r = newest_at (length items) (reverse cs) read k b h in
          let own : get_or (reverse cs) k none ≡ get_or cs i none = get_or-reverse cs k none (omega arith)
          ∙ ap (λ j. get_or cs j none) (let q : length cs - 1 - k ≡ i = omega arith in q) in
          let ends = ends_by i k l (omega arith) in
          let c = count_is in
          let p : length read - (i + 1) ≡ k = omega arith in
          let q : length read - i ≡ suc k = omega arith in
          record {
            group = r.group;
            now = rw (p, q) r.now;
            shown = rw q (rw (own, ends) at r.shown);
            rising = rw (own, ends) at r.rising;
            within = rw ends at r.within;
          }

      pub are_stored : AreStored cs read
      are_stored = record { count = count_is; at = stored_at }
