use Rattle.kmin_explain_records.proofs.Common.{◌≡◌, ◌≤◌, [], Option, None, map, sym, subst, ap, flat_map, slice_get, length-map, json_tokens, ReverseDependency, reverse_dependency_view, valuation_tree, valuation_exprs, valuation_values, position_view, as_tokens, nothing_more, forcing_json}
use Rattle.std.proofs.lemmas.Option.{slice_get_past}
use Rattle.kmin_explain_records.proofs.forcing_members.write_numbered.Goals as goal

pub returns-else-number-all : goal.returns-else-number-all
returns-else-number-all c =
    let under = c.args.by.now.under.now in
    let all = c.args.all.now in
    let view = reverse_dependency_view (valuation_exprs under) in
    let n = c.args.number in
    let none : slice_get (map view all) n ≡ None = slice_get_past (map view all) n (subst (λ k. k ≤ n) (sym (length-map all view)) c.if-number-all.false) in
    as_tokens _ _ [] _
    (ap (λ (f : Option ReverseDependency). flat_map json_tokens (forcing_json c.args.by.now.strings c.args.by.now.paths.now (valuation_tree under) (valuation_values under) f (slice_get (map position_view c.args.places.now) n)))
    (sym none))
    (nothing_more _)
