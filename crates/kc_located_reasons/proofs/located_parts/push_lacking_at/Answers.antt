use Rattle.std.proofs.Common.{subst}
use Rattle.kc_located_reasons.proofs.Common.{map, ap, sym, ◌∙◌, All, valuation_tree, valuation_exprs, valuation_values, environment, lacking, parts_view, IsPartThere, part_at}
use Rattle.std.proofs.lemmas.Result.{on_ok_weaker}
use Rattle.std.proofs.lemmas.List.Elements.{All-append, All-map, All-same}
use Rattle.kc_expr.specs.between.Arena.{node_expr}
use Rattle.kc_reasons.specs.between.Parts.{IsThere}
use Rattle.kc_located_reasons.proofs.PartLemmas.{parts_added}
use Rattle.kc_located_reasons.proofs.located_parts.push_lacking_at.Goals as goal

pub returns-clause-parts : goal.returns-clause-parts
returns-clause-parts c =
    let exprs = valuation_exprs c.args.under.now in
    let names = environment (valuation_tree c.args.under.now) (valuation_values c.args.under.now) in
    let part = c.args.part.now in
    let low = ap (parts_view exprs) c.deref.ensures.value ∙ c.in_ok-low.ensures.ok ∙ ap (λ t. lacking names t (node_expr exprs part.expr)) (c.wanted_of.ensures exprs) in
    on_ok_weaker c.push_parts.result (λ w. parts_added exprs part.at c.deref.result.now _ c.args.found.now.items c.push_parts.new.found.items low w) c.push_parts.ensures

pub returns-clause-there : goal.returns-clause-there
returns-clause-there c =
    let exprs = valuation_exprs c.args.under.now in
    let low = c.deref.result.now in
    let at = c.args.part.now.at in
    let held = All-same (IsThere exprs) low _ c.deref.ensures.value c.in_ok-low.ensures.there in
    on_ok_weaker c.push_parts.result
    (λ w h. subst (All (IsPartThere exprs)) (sym w) (All-append (IsPartThere exprs) c.args.found.now.items (map (part_at at) low) h (All-map (IsPartThere exprs) (part_at at) low held)))
    c.push_parts.ensures
