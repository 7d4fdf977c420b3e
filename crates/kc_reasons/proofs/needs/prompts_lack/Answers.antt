use Rattle.kc_reasons.proofs.Common.{sym, ◌∙◌, Vec, All, valuation_exprs, Part, LowPart, part_view, IsThere}
use Rattle.kc_reasons.proofs.EmptyLists.{unless_empty, all_kept}
use Rattle.kc_reasons.proofs.needs.prompts_lack.Goals as goal

pub returns : goal.returns
returns c =
    let exprs = valuation_exprs c.args.under.now in
    record {
      ok = unless_empty LowPart Part (part_view exprs) _ c.in_ok-found.found.items c.unless_one_is_empty.result.items _
          (sym (c.is_from_environment.ensures exprs) ∙ c.if-is_from_environment.false) c.in_ok-found.ensures.ok c.unless_one_is_empty.ensures;
      there = all_kept (Vec LowPart) (λ v. All (IsThere exprs) v.items) _ c.in_ok-found.found.items _ c.unless_one_is_empty.ensures c.in_ok-found.ensures.there;
    }
