use Rattle.kc_macro_lines.proofs.Common.{◌≡◌, ◌≤◌, ◌+◌, ◌-◌, length, is_some, extent, ends_extent}
use Rattle.kc_macro_lines.proofs.line_tokens.extent.Given as goal

-- no item of the text before `rest` begins with a byte that ends the extent
abbrev pub invariant-items : goal.invariant-items
invariant-items l = record {
  within : length l.rest ≤ length l.text;
  counted : extent (is_some l.quote) (ends_extent l.quote) 0 l.text ≡ (length l.text - length l.rest) + extent (is_some l.quote) (ends_extent l.quote) 0 l.rest;
}

abbrev pub decreases-items : goal.decreases-items
decreases-items l = length l.rest
