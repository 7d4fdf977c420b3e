-- The text of a file as it is written.
use Rattle.kc_expansion.proofs.Common.{◌≡◌, ℕ, suc, List, [], ◌∷◌, ◌++◌, take, drop, sym, ap, ◌∙◌, append_assoc, arith, replicate, codes, slice_range, ◌-◌, append-nil}

pub newline_more : (b : List ℕ) (n left : ℕ) → suc n ≡ left → (b ++ 10 ∷ []) ++ replicate n 10 ≡ b ++ replicate left 10
newline_more b n left e = append_assoc b (10 ∷ []) (replicate n 10) ∙ ap (λ k. b ++ replicate k 10) e

no_range : (xs : List ℕ) (n : ℕ) → slice_range xs n n ≡ []
no_range xs n = ap (λ k. take k (drop n xs)) (let k : n - n ≡ 0 = omega arith in k)

-- the text of a file after a replacement is what was written, the bytes up to the replaced ones, and the new text with its
-- newlines
pub replaced : (original w s t n : List ℕ) (next : ℕ) → (((w ++ s) ++ t) ++ n) ++ slice_range original next next ≡ (w ++ s) ++ (t ++ n)
replaced original w s t n next = ap (λ e. (((w ++ s) ++ t) ++ n) ++ e) (no_range original next) ∙ append-nil (((w ++ s) ++ t) ++ n) ∙ append_assoc (w ++ s) t n

-- a line that the code writes piece by piece, for an escaped key, is the `source` line of that key between quotes, with its
-- newline
pub source_line_is : (b e : List ℕ) → ((b ++ codes "source \"") ++ e) ++ codes "\"\n" ≡ b ++ (codes "source " ++ ((34 ∷ (e ++ 34 ∷ [])) ++ 10 ∷ []))
source_line_is b e =
    append_assoc (b ++ codes "source \"") e (codes "\"\n") ∙ append_assoc b (codes "source \"") (e ++ codes "\"\n")
    ∙ ap (λ t. b ++ (codes "source \"" ++ t)) (sym (append_assoc e (34 ∷ []) (10 ∷ [])))
