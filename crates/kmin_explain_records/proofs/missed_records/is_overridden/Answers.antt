use Rattle.std.proofs.Common.{nat_lt}
use Rattle.kmin_explain_records.proofs.Common.{length, sym, ◌∙◌, ap, length-map, TreeModel, unit_of, tree_model_of, places_of, overridden, overridden_view, sources_model}
use Rattle.kmin_explain_records.proofs.missed_records.is_overridden.Goals as goal

pub returns : goal.returns
returns c = λ read meanings are.
    let g = sources_model c.args.by.now read meanings in
    let s = c.args.s in
    let own = c.unit_of-unit.ensures.unit ∙ ap (λ (t : TreeModel). unit_of t.tree s) (c.tree.ensures.tree ∙ ap tree_model_of c.settled.ensures) in
    let found = c.in_ok-found.ensures g.tree meanings own are.kept in
    ap (nat_lt 0) (c.len-count.ensures ∙ c.in_ok-found.found.ok.0 ∙ sym (length-map _ overridden_view) ∙ ap length found)
    ∙ ap (λ u. nat_lt 0 (length (overridden (places_of u s 0 meanings)))) own
