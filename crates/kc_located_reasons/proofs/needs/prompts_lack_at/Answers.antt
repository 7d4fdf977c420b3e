use Rattle.kc_located_reasons.proofs.Common.{map, ap, sym, ◌∙◌, valuation_tree, valuation_exprs, valuation_values, environment, each_located, located_lacking, LocatedPart, located_part_view, IsPartThere}
use Rattle.std.specs.Global.{Vec}
use Rattle.std.specs.List.{All}
use Rattle.kc_reasons.proofs.EmptyLists.{unless_empty, all_kept}
use Rattle.kc_located_reasons.specs.LocatedNeeds as model
use Rattle.kc_located_reasons.proofs.needs.prompts_lack_at.Goals as goal

pub returns : goal.returns
returns c =
    let exprs = valuation_exprs c.args.under.now in
    let names = environment (valuation_tree c.args.under.now) (valuation_values c.args.under.now) in
    record {
      ok = unless_empty LocatedPart model.LocatedPart (located_part_view exprs) _ c.in_ok-found.found.items c.unless_one_is_empty.result.items _
          (sym (c.is_from_environment.ensures exprs) ∙ c.if-is_from_environment.false)
          (c.in_ok-found.ensures.ok ∙ ap (λ ps. map (located_lacking names c.args.wanted) (each_located exprs ps)) c.deref.ensures.value) c.unless_one_is_empty.ensures;
      there = all_kept (Vec LocatedPart) (λ v. All (IsPartThere exprs) v.items) _ c.in_ok-found.found.items _ c.unless_one_is_empty.ensures c.in_ok-found.ensures.there;
    }
