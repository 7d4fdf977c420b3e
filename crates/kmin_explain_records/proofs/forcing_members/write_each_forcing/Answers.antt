use Rattle.kmin_explain_records.proofs.Common.{map, flat_map, slice_get, json_tokens, reverse_dependency_view, valuation_tree, valuation_exprs, valuation_values, position_view, forcing_json, one_more_written, all_written}
use Rattle.std.specs.Prelude.{ℕ}
use Rattle.kmin_explain_records.proofs.forcing_members.write_each_forcing.Goals as goal

pub loop-number-preserved : goal.loop-number-preserved
loop-number-preserved c =
    let under = c.args.by.now.under.now in
    let fs = map (reverse_dependency_view (valuation_exprs under)) c.args.all.now in
    let places = map position_view c.args.places.now in
    one_more_written
    (λ (n : ℕ). flat_map json_tokens (forcing_json c.args.by.now.strings c.args.by.now.paths.now (valuation_tree under) (valuation_values under) (slice_get fs n) (slice_get places n)))
    c.args.numbers.now c.loop-number.number-index _ _ _ _ c.loop-number-test.true c.loop-number.invariant c.in_ok-write_numbered.ensures

pub returns : goal.returns
returns c =
    let under = c.args.by.now.under.now in
    let fs = map (reverse_dependency_view (valuation_exprs under)) c.args.all.now in
    let places = map position_view c.args.places.now in
    all_written
    (λ (n : ℕ). flat_map json_tokens (forcing_json c.args.by.now.strings c.args.by.now.paths.now (valuation_tree under) (valuation_values under) (slice_get fs n) (slice_get places n)))
    c.args.numbers.now c.loop-number.number-index _ _ c.loop-number-test.false c.loop-number.invariant
