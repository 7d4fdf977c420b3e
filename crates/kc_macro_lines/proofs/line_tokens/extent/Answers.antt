use Rattle.kc_macro_lines.proofs.Common.{◌≡◌, ◌∙◌, ◌<◌, length, sym, rules, is_some, item_bytes, first_item_of, ends_extent}
use Rattle.kc_macro_lines.proofs.TokenLemmas.{later_within, later_counted}
use Rattle.kc_macro_lines.proofs.line_tokens.extent.Goals as goal

pub items-preserved : goal.items-preserved
items-preserved c =
    let rest = c.items.rest.now in
    let n = c.item_length.result in
    let quotes = c.is_some.ensures in
    let found = c.item_length.ensures.value in
    let len : n ≡ length (item_bytes (first_item_of (is_some c.args.quote) rest)) = cc in
    let some : 0 < length rest = search rules in
    let within = c.item_length.ensures.within in
    record {
      within = later_within (is_some c.args.quote) rest n some len within (ends_extent c.args.quote) c.args.text.now c.items.invariant.within;
      counted = later_counted (is_some c.args.quote) rest n some len within (ends_extent c.args.quote) c.args.text.now c.items.invariant.within
          (sym c.ends_extent.ensures ∙ c.if-ends_extent.false) c.items.invariant.counted;
    }
