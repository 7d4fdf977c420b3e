use Rattle.kc_reasons.proofs.Common.{All-nil, All-same, node_expr, valuation_tree, valuation_exprs, valuation_values, environment, IsThere}
use Rattle.std.proofs.lemmas.List.Sorted.{All-permutation}
use Rattle.kc_reasons.proofs.LackingLemmas.{found_turned}
use Rattle.kc_reasons.proofs.low_parts.lacking.Goals as goal

pub returns : goal.returns
returns c =
    let exprs = valuation_exprs c.args.under.now in
    record {
      ok = found_turned (environment (valuation_tree c.args.under.now) (valuation_values c.args.under.now)) exprs c.args.wanted
          (node_expr exprs c.args.id) _ _ _ c.new-found.ensures.items c.in_ok-push_lacking.ensures.parts c.reverse.ensures.items;
      there = All-permutation (IsThere exprs) _ _ c.reverse.ensures.permutation
          (c.in_ok-push_lacking.ensures.there (All-same (IsThere exprs) _ _ c.new-found.ensures.items (All-nil (IsThere exprs))));
    }
