use Rattle.kmin_explain.proofs.Common.{◌∙◌, ap, valuation_tree, valuation_exprs, valuation_values, environment, LowPart, each_once_after, blamed_of}
use Rattle.kc_reasons.specs.between.Parts.{part_view}
use Rattle.kmin_explain.proofs.DeepLemmas.{one_more_viewed}
use Rattle.kmin_explain.proofs.blame.add_parts.Goals as goal

pub loop-part-preserved : goal.loop-part-preserved
loop-part-preserved c =
    let tree = valuation_tree c.args.under.now in
    let names = environment tree (valuation_values c.args.under.now) in
    let exprs = valuation_exprs c.args.under.now in
    record {
      marks = c.in_ok-add_blamed.ensures.marks;
      many = c.in_ok-add_blamed.ensures.many;
      found = one_more_viewed (part_view exprs) (blamed_of tree names) c.args.parts.now c.loop-part.part-index c.part-item.result c.loop-part.seen.found.items _ _ c.loop-part-test.true
          (c.in_ok-add_blamed.ensures.found ∙ ap (λ (p : LowPart). each_once_after c.loop-part.seen.found.items (blamed_of tree names (part_view exprs p))) c.part-item.is)
          c.loop-part.invariant.found;
    }
