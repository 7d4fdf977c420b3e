use Rattle.kc_macro_lines.proofs.Common.{◌≡◌, ℕ, Bool, length, without_front}
use Rattle.kc_macro_lines.proofs.assignment_syntax.without_front.Given as goal

-- the bytes of the text before `rest` pass the test
abbrev pub invariant-bytes : goal.invariant-bytes
invariant-bytes g l = (test : ℕ → Bool) → ((byte : ℕ) (passed : Bool) → goal.F-post g l.passes byte passed → passed ≡ test byte)
    → without_front test l.fn.text ≡ without_front test l.rest

abbrev pub decreases-bytes : goal.decreases-bytes
decreases-bytes g l = length l.rest
