-- Inner lines of a text, in one line.
use Rattle.kmin_missed.proofs.Common.{◌≡◌, ℕ, List, ◌∷◌, ◌++◌, drop, sym, ◌∙◌, ap, append_assoc, codes, pieces, in_one_line}

-- one more line
pub one_more_line : (old one two lead line cut rest after all : List ℕ) → one ≡ old ++ lead → two ≡ one ++ cut → cut ≡ drop 2 line
    → pieces 10 rest ≡ line ∷ pieces 10 after → old ++ in_one_line lead (pieces 10 rest) ≡ all → two ++ in_one_line (codes "; ") (pieces 10 after) ≡ all
one_more_line old one two lead line cut rest after all first second is_cut pieced before =
    ap (λ x. x ++ in_one_line (codes "; ") (pieces 10 after)) (second ∙ ap (λ x. one ++ x) is_cut ∙ ap (λ x. x ++ drop 2 line) first)
    ∙ append_assoc (old ++ lead) (drop 2 line) (in_one_line (codes "; ") (pieces 10 after))
    ∙ append_assoc old lead (drop 2 line ++ in_one_line (codes "; ") (pieces 10 after))
    ∙ ap (λ ls. old ++ in_one_line lead ls) (sym pieced) ∙ before
