use Rattle.std.proofs.Common.{◌≡◌, ◌↔◌, Bool, true, false, not, IsTrue, refl, sym}
use Rattle.std.proofs.lemmas.Bool.{false≢true}
use Rattle.kc_solver.proofs.revision.differs.Goals as goal

negated : (P : Type 0) (t : Bool) → (IsTrue t ↔ P) → (not t ≡ false) ↔ P
negated P true h = (λ e. h.0 refl, λ p. refl)
negated P false h = (λ e. absurd (false≢true (sym e)), λ p. absurd (false≢true (h.1 p)))

pub returns : goal.returns
returns g c =
    rw c.same.ensures (negated _ (g.S.System.same_value c.args.value.now c.args.before.now) (g.met.S.System.equal_values c.args.value.now c.args.before.now))
