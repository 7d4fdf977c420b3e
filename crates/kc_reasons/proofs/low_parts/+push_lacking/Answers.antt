use Rattle.kc_reasons.proofs.Common.{sym, ◌∙◌, arith, valuation_tree, valuation_exprs, valuation_values, environment}
use Rattle.std.proofs.lemmas.Result.{on_ok_weaker}
use Rattle.kc_reasons.proofs.LackingLemmas.{into_left, into_shown, nothing_shown}
use Rattle.kc_reasons.proofs.low_parts.+push_lacking.Goals as goal

pub down-preserved-in-Both : goal.down-preserved-in-Both
down-preserved-in-Both t c =
    let names = environment (valuation_tree c.args.under.now) (valuation_values c.args.under.now) in
    record {
      below = omega (arith, c.in-Both.ensures.within.0);
      parts = into_left (valuation_exprs c.args.under.now) names c.down.least _ _ _ _ _ _ c.in-Both.ensures.expr c.in_ok-push_lacking-in-Both.ensures.parts c.down.invariant.parts;
      held = λ h. c.in_ok-push_lacking-in-Both.ensures.there (c.down.invariant.held h);
    }

pub down-preserved : goal.down-preserved
down-preserved t c =
    let names = environment (valuation_tree c.args.under.now) (valuation_values c.args.under.now) in
    record {
      below = omega (arith, c.in-Shown.ensures.within);
      parts = into_shown names c.down.least _ _ _ _ c.in-Shown.ensures.expr (sym c.is_n.ensures ∙ c.if-is_n.false) c.down.invariant.parts;
      held = c.down.invariant.held;
    }

pub returns-then-is_n : goal.returns-then-is_n
returns-then-is_n t c =
    let names = environment (valuation_tree c.args.under.now) (valuation_values c.args.under.now) in
    record { parts = nothing_shown names c.down.least _ _ _ _ c.in-Shown.ensures.expr (sym c.is_n.ensures ∙ c.if-is_n.true) c.down.invariant.parts; there = c.down.invariant.held }

pub returns-in-Alone-clause-there : goal.returns-in-Alone-clause-there
returns-in-Alone-clause-there t c = on_ok_weaker c.push_if_low.result (λ w h. w (c.down.invariant.held h)) c.push_if_low.ensures.there

pub returns-in-Related-clause-there : goal.returns-in-Related-clause-there
returns-in-Related-clause-there t c = on_ok_weaker c.push_if_low-in-Related.result (λ w h. w (c.down.invariant.held h)) c.push_if_low-in-Related.ensures.there

pub returns-in-Negated-clause-there : goal.returns-in-Negated-clause-there
returns-in-Negated-clause-there t c = on_ok_weaker c.push_if_low-in-Negated.result (λ w h. w (c.down.invariant.held h)) c.push_if_low-in-Negated.ensures.there

pub returns-in-Either-clause-there : goal.returns-in-Either-clause-there
returns-in-Either-clause-there t c = on_ok_weaker c.push_if_low-in-Either.result (λ w h. w (c.down.invariant.held h)) c.push_if_low-in-Either.ensures.there
