use Rattle.kmin_explain.proofs.Common.{List, ◌∙◌, ap, flat_map, Vec, valuation_tree, valuation_exprs, valuation_values, environment, LowPart, parts_view, each_once_after, blamed_of}
use Rattle.kc_reasons_model.specs.Conjuncts.{Part}
use Rattle.kmin_explain.proofs.DeepLemmas.{one_more_viewed}
use Rattle.kmin_explain.proofs.blame.add_all_blamed.Goals as goal

pub loop-parts-preserved : goal.loop-parts-preserved
loop-parts-preserved c =
    let tree = valuation_tree c.args.under.now in
    let names = environment tree (valuation_values c.args.under.now) in
    let exprs = valuation_exprs c.args.under.now in
    record {
      marks = c.in_ok-add_parts.ensures.marks;
      many = c.in_ok-add_parts.ensures.many;
      found = one_more_viewed (λ (v : Vec LowPart). parts_view exprs v.items) (λ (ps : List Part). flat_map (blamed_of tree names) ps) c.args.alternatives.now c.loop-parts.parts-index
          c.parts-item.result c.loop-parts.seen.found.items _ _ c.loop-parts-test.true
          (c.in_ok-add_parts.ensures.found
          ∙ ap (λ (ps : List LowPart). each_once_after c.loop-parts.seen.found.items (flat_map (blamed_of tree names) (parts_view exprs ps))) c.deref.ensures.value
          ∙ ap (λ (v : Vec LowPart). each_once_after c.loop-parts.seen.found.items (flat_map (blamed_of tree names) (parts_view exprs v.items))) c.parts-item.is)
          c.loop-parts.invariant.found;
    }
