use Rattle.kmin_explain_records.proofs.Common.{take, map, flat_map, slice_get, json_tokens, reverse_dependency_view, valuation_tree, valuation_exprs, valuation_values, position_view, AppendsTokens, forcing_json}
use Rattle.std.specs.Prelude.{ℕ}
use Rattle.kmin_explain_records.proofs.forcing_members.write_each_forcing.Given as goal

abbrev pub invariant-loop-number : goal.invariant-loop-number
invariant-loop-number l =
    AppendsTokens l.fn.writer l.writer
    (flat_map (λ (n : ℕ). flat_map json_tokens (forcing_json l.by.strings l.by.paths.now (valuation_tree l.by.under.now) (valuation_values l.by.under.now) (slice_get (map (reverse_dependency_view (valuation_exprs l.by.under.now)) l.all) n) (slice_get (map position_view l.places) n)))
    (take l.number-index l.numbers))
