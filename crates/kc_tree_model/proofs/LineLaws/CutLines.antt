-- Bytes are cut into their physical lines.
use Rattle.std.proofs.Common.{◌==◌}
use Rattle.kc_tree_model.proofs.Common.{◌≡◌, ℕ, ◌<◌, Bool, true, false, ◌||◌, cond, List, [], ◌∷◌, ◌++◌, length, refl, ap, sym, ◌∙◌, subst, arith, eqb-true, has_newline, PhysicalLine, with_first_byte, split_at_newlines}
use Rattle.kc_tree_model.specs.LineGrammar.{AreLines}
use Rattle.kc_tree_model.specs.LineGrammar.AreLines.{none, last, line}

neither : (a b : Bool) → (a || b) ≡ false → (a ≡ false) × (b ≡ false)
neither true b h = cc
neither false b h = (refl, h)

none_of : (a b : Bool) → a ≡ false → b ≡ false → (a || b) ≡ false
none_of true b h k = cc
none_of false b h k = k

-- a byte in front of lines
front_byte : (b : ℕ) {bytes : List ℕ} {ls : List PhysicalLine} → (b == 10) ≡ false → AreLines bytes ls → AreLines (b ∷ bytes) (with_first_byte b ls)
front_byte b e none = last {text = b ∷ []} (omega arith) (none_of (b == 10) false e refl)
front_byte b e (last {text = text} some one) = last {text = b ∷ text} (omega arith) (none_of (b == 10) (has_newline text) e one)
front_byte b e (line {text = text} one more) = line {text = b ∷ text} (none_of (b == 10) (has_newline text) e one) more

pub cut_lines : (bytes : List ℕ) → AreLines bytes (split_at_newlines bytes)
cut_lines [] = none
cut_lines (b ∷ bs) = by_test (b == 10) refl (cut_lines bs)
  where
    by_test : (t : Bool) → (b == 10) ≡ t → AreLines bs (split_at_newlines bs)
        → AreLines (b ∷ bs) (cond t (record { text = []; ended = true } ∷ split_at_newlines bs) (with_first_byte b (split_at_newlines bs)))
    by_test true e h =
        subst (λ c. AreLines (c ∷ bs) (record { text = []; ended = true } ∷ split_at_newlines bs)) (sym (eqb-true b 10 e)) (line {text = []} refl h)
    by_test false e h = front_byte b e h

-- and into no others
cut_last : (text : List ℕ) → 0 < length text → has_newline text ≡ false → split_at_newlines text ≡ record { text = text; ended = false } ∷ []
cut_last [] some one = absurd (omega arith)
cut_last (b ∷ []) some one = let e = (neither (b == 10) false one).0 in ap (λ t. cond t (record { text = []; ended = true } ∷ []) (with_first_byte b [])) e
cut_last (b ∷ c ∷ cs) some one =
    let r = neither (b == 10) (has_newline (c ∷ cs)) one in
    ap (λ t. cond t (record { text = []; ended = true } ∷ split_at_newlines (c ∷ cs)) (with_first_byte b (split_at_newlines (c ∷ cs)))) r.0
    ∙ ap (with_first_byte b) (cut_last (c ∷ cs) (omega arith) r.1)

cut_line : (text bytes : List ℕ) → has_newline text ≡ false
    → split_at_newlines (text ++ 10 ∷ bytes) ≡ record { text = text; ended = true } ∷ split_at_newlines bytes
cut_line [] bytes one = refl
cut_line (b ∷ bs) bytes one =
    let r = neither (b == 10) (has_newline bs) one in
    ap (λ t. cond t (record { text = []; ended = true } ∷ split_at_newlines (bs ++ 10 ∷ bytes)) (with_first_byte b (split_at_newlines (bs ++ 10 ∷ bytes)))) r.0
    ∙ ap (with_first_byte b) (cut_line bs bytes r.1)

pub lines_cut : {bytes : List ℕ} {ls : List PhysicalLine} → AreLines bytes ls → split_at_newlines bytes ≡ ls
lines_cut none = refl
lines_cut (last {text = text} some one) = cut_last text some one
lines_cut (line {text = text} {bytes = bytes} one more) = cut_line text bytes one ∙ ap (λ x. record { text = text; ended = true } ∷ x) (lines_cut more)
