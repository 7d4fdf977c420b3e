use Rattle.kc_located_reasons.proofs.Common.{not, map, ap, ◌∙◌, slice_get, option_and_then, valuation_tree, valuation_exprs, valuation_values, is_n, condition, position_view}
use Rattle.kc_tree_model.specs.Trees.{Default}
use Rattle.kc_tree.specs.between.Views.{default_view}
use Rattle.kc_located_reasons.proofs.Searches.{position_mapped}
use Rattle.kc_located_reasons.proofs.given_places.default_place.Goals as goal

pub returns : goal.returns
returns c =
    let tree = valuation_tree c.args.under.now in
    let values = valuation_values c.args.under.now in
    c.place_at.ensures
    ∙ ap (option_and_then (slice_get (map position_view c.args.places.now)))
    (c.active_default.ensures ∙ position_mapped (default_view (valuation_exprs c.args.under.now)) (λ (d : Default). not (is_n (condition tree values d.condition))) c.args.defaults.now)
