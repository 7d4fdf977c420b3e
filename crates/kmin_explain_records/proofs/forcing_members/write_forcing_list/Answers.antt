use Rattle.kmin_explain_records.proofs.Common.{map, slice_get, reverse_dependency_view, valuation_tree, valuation_exprs, valuation_values, position_view, wrote, and_then, and_last, forcing_json, last_write, as_last}
use Rattle.std.specs.Prelude.{ℕ}
use Rattle.kmin_records.proofs.JsonLists.{each_array}
use Rattle.kmin_explain_records.proofs.forcing_members.write_forcing_list.Goals as goal

pub returns : goal.returns
returns c =
    let under = c.args.by.now.under.now in
    let fs = map (reverse_dependency_view (valuation_exprs under)) c.args.all.now in
    let places = map position_view c.args.places.now in
    as_last c.end_array.result _ _ _ _
    (each_array (λ (n : ℕ). forcing_json c.args.by.now.strings c.args.by.now.paths.now (valuation_tree under) (valuation_values under) (slice_get fs n) (slice_get places n)) c.args.numbers.now)
    (and_last _ _ _ _ _ _ (and_then _ _ _ _ _ (wrote _ _ _ _ c.in_ok-begin_array.ensures) c.in_ok-write_each_forcing.ensures) (last_write _ _ _ _ c.end_array.ensures))
