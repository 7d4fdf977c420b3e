-- The ends of a name that match a piece.
use Rattle.std.proofs.Common.{drop-drop, set}
use Rattle.kc_files.proofs.Common.{◌≡◌, ℕ, zero, suc, ◌+◌, ◌<◌, ◌≤◌, Bool, true, false, ◌||◌, ◌&&◌, ◌==◌, List, [], ◌∷◌, length, drop, get_or, refl, sym, ap, ◌∙◌, arith, length-drop, ◌⊎◌, inl, inr, take, ◌++◌, list_any, HasEndMatches, AreSpread}
use Rattle.std.proofs.lemmas.Bool.{cases_lt}
use Rattle.std.proofs.lemmas.List.{get_or-drop, get_or-set_same, get_or-set_other, take_at}
use Rattle.std.specs.Str.{is_utf8, IsUtf8}
use Rattle.std.proofs.lemmas.Str.{IsUtf8-from_is_utf8}
use Rattle.kc_macros_model.specs.PathPatterns.{matches, some_end_matches, first_byte_matches}

-- some entry of a list of truths for each end of a name is true exactly if some end of the name passes the test
pub any_end : (test : List ℕ → Bool) (name : List ℕ) (ends : List Bool) → length ends ≡ suc (length name)
    → ((k : ℕ) → k ≤ length name → get_or ends k false ≡ test (drop k name))
    → list_any (λ b. b) ends ≡ some_end_matches test name
any_end test [] [] h e = absurd (omega arith)
any_end test [] (b ∷ []) h e = by_first b (e 0 (omega arith))
  where
    by_first : (c : Bool) → c ≡ test [] → (c || false) ≡ test []
    by_first true g = g
    by_first false g = g
any_end test [] (b ∷ c ∷ bs) h e = absurd (omega arith)
any_end test (x ∷ name) [] h e = absurd (omega arith)
any_end test (x ∷ name) (b ∷ bs) h e =
    ap (λ c. c || list_any (λ b. b) bs) (e 0 (omega arith))
    ∙ ap (λ c. test (x ∷ name) || c) (any_end test name bs (omega arith) (λ k l. e (suc k) (omega arith)))

-- the first byte of the end of a name at place `k` matches a byte of a pattern, and the rest passes a test, exactly if this holds
-- of the byte at `k` and the next end
pub first_of_end : (c : ℕ) (test : List ℕ → Bool) (name : List ℕ) (k : ℕ) → k < length name → first_byte_matches c test (drop k name)
    ≡ ((c == get_or name k 0 || (c == 63)) && test (drop (suc k) name))
first_of_end c test [] k h = absurd (omega arith)
first_of_end c test (x ∷ name) zero h = refl
first_of_end c test (x ∷ name) (suc k) h = first_of_end c test name k (omega arith)

pub no_first : (c : ℕ) (test : List ℕ → Bool) (name : List ℕ) → first_byte_matches c test (drop (length name) name) ≡ false
no_first c test [] = refl
no_first c test (x ∷ name) = no_first c test name

-- an end of a name matches `*` and then a piece where this end or a shorter one matches the piece
pub after_any_bytes : (piece name : List ℕ) (old new : List Bool) → HasEndMatches piece name old → length new ≡ length old
    → ((k : ℕ) → k < length old → get_or new k false ≡ list_any (λ b. b) (drop k old)) → HasEndMatches (42 ∷ piece) name new
after_any_bytes piece name old new h len e = record {
  count = len ∙ h.count;
  each = λ k l. e k (omega (arith, h.count)) ∙ any_end (matches piece) (drop k name) (drop k old)
      (omega (arith, length-drop k name, length-drop k old, h.count))
      (λ j m. get_or-drop k old j false ∙ h.each (k + j) (omega (arith, length-drop k name)) ∙ ap (matches piece) (sym (drop-drop j k name)));
}

other_byte : (byte : ℕ) (piece name : List ℕ) → (byte == 42) ≡ false → matches (byte ∷ piece) name ≡ first_byte_matches byte (matches piece) name
other_byte byte piece name e = ap (λ b. elim b [ true ↦ some_end_matches (matches piece) name | false ↦ first_byte_matches byte (matches piece) name ]) e

-- an end of a name matches a byte other than `*` and then a piece where its first byte matches the byte and the next end the
-- piece
pub after_byte : (byte : ℕ) (piece name : List ℕ) (old new : List Bool) → (byte == 42) ≡ false → HasEndMatches piece name old → length new ≡ length old
    → ((k : ℕ) → k < length name → get_or new k false ≡ ((byte == get_or name k 0 || (byte == 63)) && get_or old (k + 1) false))
    → get_or new (length name) false ≡ false
    → HasEndMatches (byte ∷ piece) name new
after_byte byte piece name old new b h len e end = record {
  count = len ∙ h.count;
  each = λ k l. by_place k l (cases_lt k (length name));
}
  where
    by_place : (k : ℕ) → k ≤ length name → (k < length name) ⊎ (length name ≤ k) → get_or new k false ≡ matches (byte ∷ piece) (drop k name)
    by_place k l (inl m) = e k m ∙ ap (λ c. (byte == get_or name k 0 || (byte == 63)) && c) (h.each (k + 1) (omega arith)
        ∙ ap (λ i. matches piece (drop i name)) (let i : k + 1 ≡ suc k = omega arith in i)) ∙ sym (first_of_end byte (matches piece) name k m)
        ∙ sym (other_byte byte piece (drop k name) b)
    by_place k l (inr m) = let same : k ≡ length name = omega arith in ap (λ i. get_or new i false) same ∙ end ∙ sym (no_first byte (matches piece) name)
        ∙ ap (λ i. first_byte_matches byte (matches piece) (drop i name)) (sym same) ∙ sym (other_byte byte piece (drop k name) b)

any_from : (start : List Bool) (n : ℕ) → n < length start → list_any (λ b. b) (drop n start) ≡ (get_or start n false || list_any (λ b. b) (drop (suc n) start))
any_from [] n h = absurd (omega arith)
any_from (b ∷ start) zero h = refl
any_from (b ∷ start) (suc n) h = any_from start n (omega arith)

-- the spreading of true entries towards the front goes on by one place: an entry becomes true if it or the one after it is
pub spread_more : (start ends : List Bool) (at n : ℕ) (some new : Bool) → at ≡ suc n → length ends ≡ length start → AreSpread start ends at some
    → new ≡ (get_or ends n false || some) → AreSpread start (set ends n new) n new
spread_more start ends at n some new a len h e =
    let here : new ≡ list_any (λ b. b) (drop n start) =
    e ∙ ap (λ b. b || some) (h.front n (omega arith)) ∙ ap (λ b. get_or start n false || b) (h.some_is ∙ ap (λ k. list_any (λ b. b) (drop k start)) a)
    ∙ sym (any_from start n (omega (arith, h.within))) in
    record {
      within = omega (arith, h.within);
      some_is = here;
      front = λ k l. get_or-set_other ends n k new false (λ q. omega arith) ∙ h.front k (omega arith);
      back = λ k l m. by_place k l m here (cases_lt n k);
    }
  where
    by_place : (k : ℕ) → n ≤ k → k < length start → new ≡ list_any (λ b. b) (drop n start) → (n < k) ⊎ (k ≤ n)
        → get_or (set ends n new) k false ≡ list_any (λ b. b) (drop k start)
    by_place k l m here (inl f) = get_or-set_other ends n k new false (λ q. omega arith) ∙ h.back k (omega arith) m
    by_place k l m here (inr f) = let same : k ≡ n = omega arith in ap (λ i. get_or (set ends n new) i false) same
        ∙ get_or-set_same ends n new false (omega arith) ∙ here ∙ ap (λ i. list_any (λ b. b) (drop i start)) (sym same)

-- a slice that is overwritten in its first `n` entries by `n` new ones begins with the new ones
pub as_written : {A : Type 0} (n : ℕ) (new old : List A) → length new ≡ n → take n (new ++ drop (length new) old) ≡ new
as_written n new old h = ap (λ k. take k (new ++ drop (length new) old)) (sym h) ∙ take_at new (drop (length new) old) (length new) refl

not_so : (b : Bool) → (b ≡ true → ⊥) → b ≡ false
not_so true h = absurd (h refl)
not_so false h = refl

pub utf8_fails : (bytes : List ℕ) → (IsUtf8 bytes → ⊥) → is_utf8 bytes ≡ false
utf8_fails bytes h = not_so (is_utf8 bytes) (λ e. h (IsUtf8-from_is_utf8 bytes e))
