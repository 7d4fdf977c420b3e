use Rattle.kc_solver.proofs.Common.{ap, ◌∙◌, arith, common_steps, elements, SessionState}
use Rattle.kc_solver.proofs.sessions.Session.values.Goals as goal

pub returns : goal.returns
returns g c = record {
  values = c.as_slice.ensures.value ∙ ap (λ (h : SessionState _ _ _). h.values) c.self.view_is;
  fits = grind (arith, elements);
  gives = grind (arith, common_steps);
  fits_users = grind (arith, common_steps);
}
