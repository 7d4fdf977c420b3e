use Rattle.kc_located_reasons.proofs.Common.{ap, ◌∙◌, valuation_tree, valuation_exprs, valuation_values, environment, located_view, lacking_at, located_parts_view, ◌++◌}
use Rattle.kc_located_reasons.proofs.PartLemmas.{more_lines}
use Rattle.kc_located_reasons.proofs.located_parts.located_lacking.Goals as goal

pub loop-part-preserved : goal.loop-part-preserved
loop-part-preserved c =
    let exprs = valuation_exprs c.args.under.now in
    let names = environment (valuation_tree c.args.under.now) (valuation_values c.args.under.now) in
    record {
      parts = more_lines exprs names c.args.wanted c.args.parts.now c.loop-part.part-index c.part-item.result
          (located_parts_view exprs c.loop-part.found.items) (located_parts_view exprs c.push_lacking_at.new.found.items) _ c.loop-part-test.true c.loop-part.invariant.parts
          (c.in_ok-push_lacking_at.ensures.parts
          ∙ ap (λ p. located_parts_view exprs c.loop-part.found.items ++ lacking_at names c.args.wanted (located_view exprs p)) c.part-item.is);
      there = c.in_ok-push_lacking_at.ensures.there c.loop-part.invariant.there;
    }
