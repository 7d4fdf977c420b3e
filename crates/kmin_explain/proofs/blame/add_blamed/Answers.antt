use Rattle.kmin_explain.proofs.Common.{◌<◌, length, List, ℕ, All, sym, subst, ◌∙◌, ap, on_ok_weaker, node_expr, valuation_tree, valuation_exprs, valuation_values, environment, blamed, each_once_after, symbol_named}
use Rattle.kmin_explain.proofs.BlamedLemmas.{found_turned, all_there}
use Rattle.kmin_explain.proofs.blame.add_blamed.Goals as goal
use Rattle.std.specs.Prelude.{false, filter_map}

pub add_all-requires-clause-there : goal.add_all-requires-clause-there
add_all-requires-clause-there c =
    let tree = valuation_tree c.args.under.now in
    let names = environment tree (valuation_values c.args.under.now) in
    let e = node_expr (valuation_exprs c.args.under.now) c.args.part.expr in
    let is = c.deref.ensures.value ∙ found_turned tree names c.args.part.wanted e _ _ _ c.new-found.ensures.items c.in_ok-push_blamed.ensures.symbols c.reverse.ensures.items in
    subst (λ (xs : List ℕ). All (λ (s : ℕ). s < length c.args.seen.now.is_found.items) xs) (sym is)
    (subst (λ (n : ℕ). All (λ (s : ℕ). s < n) (filter_map (symbol_named tree) (blamed names false c.args.part.wanted e))) (sym c.requires.many) (all_there tree (blamed names false c.args.part.wanted e)))

pub returns-clause-found : goal.returns-clause-found
returns-clause-found c =
    let tree = valuation_tree c.args.under.now in
    let names = environment tree (valuation_values c.args.under.now) in
    let e = node_expr (valuation_exprs c.args.under.now) c.args.part.expr in
    let is = c.deref.ensures.value ∙ found_turned tree names c.args.part.wanted e _ _ _ c.new-found.ensures.items c.in_ok-push_blamed.ensures.symbols c.reverse.ensures.items in
    on_ok_weaker c.add_all.result (λ w. w ∙ ap (each_once_after c.args.seen.now.found.items) is) c.add_all.ensures.found
