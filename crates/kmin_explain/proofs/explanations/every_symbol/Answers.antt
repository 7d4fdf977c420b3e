use Rattle.std.proofs.Common.{[], ◌∷◌, ◌++◌, ap, ◌∙◌}
use Rattle.kmin_explain.proofs.EachOnce.{more_found}
use Rattle.kmin_explain.proofs.explanations.every_symbol.Goals as goal

pub loop-s-preserved : goal.loop-s-preserved
loop-s-preserved c =
    more_found c.loop-s.symbols.items _ c.loop-s.s c.loop-s.invariant (c.in_ok-push.ensures.items ∙ ap (λ k. c.loop-s.symbols.items ++ k ∷ []) c.at.ensures)
