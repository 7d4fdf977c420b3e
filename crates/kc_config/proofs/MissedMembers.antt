-- The last member with `y`.
use Rattle.std.proofs.Common.{◌&&◌, get_or}
use Rattle.kc_config.proofs.Common.{◌≡◌, ℕ, zero, suc, ◌<◌, true, cond, List, [], ◌∷◌, length, drop, Some, None, sym, ◌∙◌, ap, arith, option_or, MemberLine, last_y}

-- an assignment of `y` after which there is none is the last one
pub last_found : (lines : List MemberLine) (i : ℕ) (l : MemberLine) → i < length lines → l ≡ get_or lines i l → l.is_y ≡ true
    → last_y (λ m. true) (drop (suc i) lines) ≡ None → last_y (λ m. true) lines ≡ Some l.member
last_found [] i l inside is y none = absurd (omega arith)
last_found (k ∷ lines) zero l inside is y none =
    ap (λ o. option_or o (cond (k.is_y && true) (Some k.member) None)) none
    ∙ ap (λ (m : MemberLine). cond (m.is_y && true) (Some m.member) None) (sym is)
    ∙ ap (λ b. cond (b && true) (Some l.member) None) y
last_found (k ∷ lines) (suc i) l inside is y none =
    ap (λ o. option_or o (cond (k.is_y && true) (Some k.member) None)) (last_found lines i l (omega arith) is y none)
