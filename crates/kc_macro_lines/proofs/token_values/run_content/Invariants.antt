use Rattle.kc_macro_lines.proofs.Common.{◌≡◌, ◌||◌, false, length, list_any, items, is_reference, is_plain_dollar}
use Rattle.kc_macro_lines.proofs.token_values.run_content.Given as goal

-- no item of the text before `rest` is a `$` that begins no reference, and `has_reference` says whether one is a reference
abbrev pub invariant-items : goal.invariant-items
invariant-items l = record {
  dollars : list_any is_plain_dollar (items false 0 l.text) ≡ list_any is_plain_dollar (items false 0 l.rest);
  references : list_any is_reference (items false 0 l.text) ≡ (l.has_reference || list_any is_reference (items false 0 l.rest));
}

abbrev pub decreases-items : goal.decreases-items
decreases-items l = length l.rest
