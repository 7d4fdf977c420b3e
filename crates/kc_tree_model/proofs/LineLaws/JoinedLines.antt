-- Lines that go on are joined.
use Rattle.kc_tree_model.proofs.Common.{◌≡◌, ℕ, suc, ◌<◌, Bool, true, false, cond, List, [], ◌∷◌, ◌++◌, length, refl, ap, ◌∙◌, append-nil, arith, PhysicalLine, without_last, is_continued, joined_bytes, continuation_count, IsJoined}
use Rattle.kc_tree_model.specs.LineGrammar.{alone, at_end, joins}

pub some_joined : {rest ls : List PhysicalLine} {text : List ℕ} → IsJoined rest ls text → 0 < length ls
some_joined (alone e) = omega arith
some_joined (at_end e k) = omega arith
some_joined (joins e j) = omega arith

-- the joined bytes of physical lines that are joined to one are the text of that logical line
pub joined_text : {rest ls : List PhysicalLine} {text : List ℕ} → IsJoined rest ls text → joined_bytes (ls ++ rest) ≡ text
joined_text {rest = rest} (alone {l = l} e) = ap (λ t. cond t (without_last l.text ++ joined_bytes rest) l.text) e
joined_text {rest = rest} (at_end {l = l} e k) =
    ap (λ t. cond t (without_last l.text ++ joined_bytes rest) l.text) e ∙ ap (λ r. without_last l.text ++ joined_bytes r) k ∙ append-nil (without_last l.text)
joined_text {rest = rest} (joins {l = l} {ls = ls} e j) =
    ap (λ t. cond t (without_last l.text ++ joined_bytes (ls ++ rest)) l.text) e ∙ ap (λ t. without_last l.text ++ t) (joined_text j)

-- how many lines it takes
taken_alone : (l : PhysicalLine) (ls : List PhysicalLine) → is_continued l ≡ false → continuation_count (l ∷ ls) ≡ 0
taken_alone l [] e = refl
taken_alone l (m ∷ ls) e = ap (λ t. cond t (suc (continuation_count (m ∷ ls))) 0) e

taken_more : (l : PhysicalLine) (ls : List PhysicalLine) → is_continued l ≡ true → 0 < length ls → continuation_count (l ∷ ls) ≡ suc (continuation_count ls)
taken_more l [] e some = absurd (omega arith)
taken_more l (m ∷ ls) e some = ap (λ t. cond t (suc (continuation_count (m ∷ ls))) 0) e

some_front : (ls rest : List PhysicalLine) → 0 < length ls → 0 < length (ls ++ rest)
some_front [] rest some = absurd (omega arith)
some_front (l ∷ ls) rest some = omega arith

pub joined_count : {rest ls : List PhysicalLine} {text : List ℕ} → IsJoined rest ls text → suc (continuation_count (ls ++ rest)) ≡ length ls
joined_count {rest = rest} (alone {l = l} e) = ap suc (taken_alone l rest e)
joined_count {rest = rest} (at_end {l = l} e k) = ap (λ r. suc (continuation_count (l ∷ r))) k
joined_count {rest = rest} (joins {l = l} {ls = ls} e j) = ap suc (taken_more l (ls ++ rest) e (some_front ls rest (some_joined j)) ∙ joined_count j)

-- the division of physical lines into those that are joined to the logical line at their front, with its text, and the rest
pub record Front (all : List PhysicalLine) : Type 0 where
  pub front : List PhysicalLine
  pub rest : List PhysicalLine
  pub text : List ℕ
  pub parts : all ≡ front ++ rest
  pub is_joined : IsJoined rest front text

pub front_of : (l : PhysicalLine) (ls : List PhysicalLine) → Front (l ∷ ls)
front_of l [] = by_test (is_continued l) refl
  where
    by_test : (t : Bool) → is_continued l ≡ t → Front (l ∷ [])
    by_test true e = record { front = l ∷ []; rest = []; text = without_last l.text; parts = refl; is_joined = at_end e refl }
    by_test false e = record { front = l ∷ []; rest = []; text = l.text; parts = refl; is_joined = alone e }
front_of l (m ∷ ms) = by_test (is_continued l) refl (front_of m ms)
  where
    by_test : (t : Bool) → is_continued l ≡ t → Front (m ∷ ms) → Front (l ∷ m ∷ ms)
    by_test true e f =
        record { front = l ∷ f.front; rest = f.rest; text = without_last l.text ++ f.text; parts = ap (λ x. l ∷ x) f.parts; is_joined = joins e f.is_joined }
    by_test false e f = record { front = l ∷ []; rest = m ∷ ms; text = l.text; parts = refl; is_joined = alone e }
