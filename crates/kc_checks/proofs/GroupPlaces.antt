-- The groups of the model and those of the listing, by number.
use Rattle.std.proofs.Common.{length-drop}
use Rattle.kc_checks.proofs.Common.{◌≡◌, ℕ, zero, suc, ◌+◌, ◌-◌, ◌<◌, ◌≤◌, List, [], ◌∷◌, ◌++◌, length, drop, reverse, refl, ap, sym, subst, ◌∙◌, arith, append_assoc, append-nil, length-append, Some, slice_get, slice_range, drop-length, Exprs, Group, open_blocks, GroupInContext, group_in_context}
use Rattle.kc_checks.proofs.Common.{inl, inr, Has, groups_in_context, RepresentsGroups, read_before, group_at, attributes_end, no_group, CodeGroup, CodeLine}
use Rattle.kc_parser.specs.between.ListingView.{RepresentsGroup}
use Rattle.kc_checks.proofs.StoredParts.{AreStored, are_stored}

-- the stored group `i` represents the group that was read with this number, and its lines lie within the list
pub record IsShownAt (e : Exprs) (names texts : List (List ℕ)) (lines : List CodeLine) (groups : List CodeGroup) (read : List Group) (i : ℕ) : Type 0 where
  pub group : Group
  pub now : read_before (i + 1) read ≡ group ∷ read_before i read
  pub shown : RepresentsGroup e names texts (slice_range lines (group_at groups i).attributes (attributes_end groups lines i)) i (group_at groups i) group
  pub rising : (group_at groups i).attributes ≤ attributes_end groups lines i
  pub within : attributes_end groups lines i ≤ length lines

pub count_before : (read : List Group) (i : ℕ) → i ≤ length read → length (read_before i read) ≡ i
count_before read i h = length-drop (length read - i) read ∙ (let e : length read - (length read - i) ≡ i = omega arith in e)

module _ (e : Exprs) (names texts : List (List ℕ)) (lines : List CodeLine) (groups : List CodeGroup) (read : List Group)
    (h : RepresentsGroups e names texts lines (length lines) (reverse groups) read) where
  stored : AreStored no_group (λ (g : CodeGroup). g.attributes) lines (λ own g m before. RepresentsGroup e names texts own (length before) g m) groups read
  stored = are_stored _ _ _ _ (RepresentsGroups e names texts lines) (λ end m ms a. a) (λ end g gs a. a) (λ end g gs m ms a. a) groups read h

  -- there are as many stored groups as groups that were read
  pub count_is : length groups ≡ length read
  count_is = stored.count

  pub shown_at : (i : ℕ) → i < length groups → IsShownAt e names texts lines groups read i
  shown_at i l =
      let r = stored.at i l in
      let c = count_is in
      let n : length (read_before i read) ≡ i = count_before read i (omega arith) in
      record { group = r.group; now = r.now; shown = rw n at r.shown; rising = r.rising; within = r.within }

-- no group was read before group 0
pub none_before : (read : List Group) → read_before 0 read ≡ []
none_before read = ap (λ n. drop n read) (let n : length read - 0 ≡ length read = omega arith in n) ∙ drop-length read

pub all_before : (read : List Group) → read_before (length read) read ≡ read
all_before read = ap (λ n. drop n read) (let n : length read - length read ≡ 0 = omega arith in n)

-- the first `i + 1` groups in context are the first `i` and, after them, group `i` in its context
pub placed_more : (read : List Group) (i : ℕ) (m : Group) → read_before (i + 1) read ≡ m ∷ read_before i read
    → groups_in_context (read_before (i + 1) read) ≡ groups_in_context (read_before i read) ++ group_in_context (open_blocks 0 (read_before i read)) m ∷ []
placed_more read i m e = ap groups_in_context e

-- the groups in context of a reading begin with those of the reading without its newest `k` groups
pub placed_before : (k : ℕ) (read : List Group) → (rest : List GroupInContext) × (groups_in_context read ≡ groups_in_context (drop k read) ++ rest)
placed_before zero read = ([], sym (append-nil (groups_in_context read)))
placed_before (suc k) [] = ([], refl)
placed_before (suc k) (g ∷ read) =
    let r = placed_before k read in (
      r.0 ++ group_in_context (open_blocks 0 read) g ∷ [],
      ap (λ ps. ps ++ group_in_context (open_blocks 0 read) g ∷ []) r.1
          ∙ append_assoc (groups_in_context (drop k read)) r.0 (group_in_context (open_blocks 0 read) g ∷ []),
    )

-- each group's number is how many groups were read before it
abbrev pub AreNumbers : List Group → Type 0
AreNumbers [] = Unit {0}
AreNumbers (g ∷ before) = (g.number ≡ length before) × AreNumbers before

pub are_numbers : (e : Exprs) (names texts : List (List ℕ)) (lines : List CodeLine) (end : ℕ) (gs : List CodeGroup) (ms : List Group)
    → RepresentsGroups e names texts lines end gs ms → AreNumbers ms
are_numbers e names texts lines end [] [] h = tt
are_numbers e names texts lines end [] (m ∷ ms) h = absurd h
are_numbers e names texts lines end (g ∷ gs) [] h = absurd h
are_numbers e names texts lines end (g ∷ gs) (m ∷ ms) h = (h.0.number_is, are_numbers e names texts lines g.attributes gs ms h.2)

pub numbers_before : (k : ℕ) (read : List Group) → AreNumbers read → AreNumbers (drop k read)
numbers_before zero read h = h
numbers_before (suc k) [] h = tt
numbers_before (suc k) (g ∷ read) h = numbers_before k read h.1

-- a reading has as many groups in context as groups
pub placed_count : (read : List Group) → length (groups_in_context read) ≡ length read
placed_count [] = refl
placed_count (g ∷ read) =
    length-append (groups_in_context read) (group_in_context (open_blocks 0 read) g ∷ []) ∙ ap (λ n. n + 1) (placed_count read)
    ∙ (let e : length read + 1 ≡ suc (length read) = omega arith in e)

last_then : {A : Type 0} (xs : List A) (y : A) (zs : List A) → slice_get ((xs ++ y ∷ []) ++ zs) (length xs) ≡ Some y
last_then [] y zs = refl
last_then (x ∷ xs) y zs = last_then xs y zs

pub place_numbered : (read : List Group) (i : ℕ) (m : Group) → i < length read → read_before (i + 1) read ≡ m ∷ read_before i read
    → slice_get (groups_in_context read) i ≡ Some (group_in_context (open_blocks 0 (read_before i read)) m)
place_numbered read i m h now =
    let prior : List Group = read_before i read in
    let p : GroupInContext = group_in_context (open_blocks 0 prior) m in
    let r = placed_before (length read - (i + 1)) read in
    let n : length (groups_in_context prior) ≡ i = placed_count prior ∙ count_before read i (omega arith) in
    ap (λ k. slice_get (groups_in_context read) k) (sym n)
    ∙ ap (λ ps. slice_get ps (length (groups_in_context prior))) (r.1 ∙ ap (λ ps. ps ++ r.0) (placed_more read i m now))
    ∙ last_then (groups_in_context prior) p r.0

-- a group that was read, with those before it
pub record IsThere (read : List Group) (g : Group) : Type 0 where
  pub i : ℕ
  pub below : i < length read
  pub now : read_before (i + 1) read ≡ g ∷ read_before i read

pub there : (read : List Group) (g : Group) → Has g read → IsThere read g
there [] g h = absurd h
there (m ∷ read) g (inl e) =
    let a : suc (length read) - (length read + 1) ≡ 0 = omega arith in
    let b : suc (length read) - length read ≡ 1 = omega arith in
    record {
      i = length read;
      below = (let l : length read < suc (length read) = omega arith in l);
      now = ap (λ k. drop k (m ∷ read)) a ∙ ap (λ x. x ∷ read) e ∙ ap (λ k. g ∷ drop k (m ∷ read)) (sym b);
    }
there (m ∷ read) g (inr h) =
    let t = there read g h in
    let l : t.i < length read = t.below in
    let a : suc (length read) - (t.i + 1) ≡ suc (length read - (t.i + 1)) = omega arith in
    let b : suc (length read) - t.i ≡ suc (length read - t.i) = omega arith in
    record {
      i = t.i;
      below = omega arith;
      now = ap (λ k. drop k (m ∷ read)) a ∙ t.now ∙ ap (λ k. g ∷ drop k (m ∷ read)) (sym b);
    }

-- the stored group with its number represents the group
pub record IsNumbered (e : Exprs) (names texts : List (List ℕ)) (lines : List CodeLine) (groups : List CodeGroup) (read : List Group) (g : Group) : Type 0 where
  pub below : g.number < length groups
  pub shown : RepresentsGroup e names texts (slice_range lines (group_at groups g.number).attributes (attributes_end groups lines g.number)) g.number
      (group_at groups g.number) g
  pub now : read_before (g.number + 1) read ≡ g ∷ read_before g.number read

module _ (e : Exprs) (names texts : List (List ℕ)) (lines : List CodeLine) (groups : List CodeGroup) (read : List Group)
    (h : RepresentsGroups e names texts lines (length lines) (reverse groups) read) where
  abbrev At : ℕ → Group → Type 0
  At i g = RepresentsGroup e names texts (slice_range lines (group_at groups i).attributes (attributes_end groups lines i)) i (group_at groups i) g

  pub numbered_at : (i : ℕ) (g : Group) → i < length read → read_before (i + 1) read ≡ g ∷ read_before i read
      → (g.number ≡ i) × IsNumbered e names texts lines groups read g
  numbered_at i g below now =
      let c = count_is e names texts lines groups read h in
      let s = shown_at e names texts lines groups read h i (omega arith) in
      let both : s.group ∷ read_before i read ≡ g ∷ read_before i read = sym s.now ∙ now in
      let same : s.group ≡ g = cc in
      let r = subst (At i) same s.shown in
      let n : g.number ≡ i = r.number_is in (
        n,
        record {
          below = omega (arith, n, c, below);
          shown = subst (λ k. At k g) (sym n) r;
          now = subst (λ k. read_before (k + 1) read ≡ g ∷ read_before k read) (sym n) now;
        },
      )

  pub numbered : (g : Group) → Has g read → IsNumbered e names texts lines groups read g
  numbered g k = let t = there read g k in (numbered_at t.i g t.below t.now).1
