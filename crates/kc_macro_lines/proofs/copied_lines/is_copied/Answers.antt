use Rattle.kc_macro_lines.proofs.Common.{◌≡◌, ◌∙◌, false, sym, arith, has_dollar_or_wide}
use Rattle.kc_macro_lines.proofs.CopiedLineLemmas.{copied}
use Rattle.kc_macro_lines.proofs.NothingToExpandLemmas.{no_dollar_in, narrow_is_utf8}
use Rattle.kc_macro_lines.proofs.copied_lines.is_copied.Goals as goal

pub has_nothing_to_expand-requires : goal.has_nothing_to_expand-requires
has_nothing_to_expand-requires c = record {
  no_dollar = no_dollar_in c.args.text.now (sym c.has_dollar_or_wide.ensures ∙ c.if-has_dollar_or_wide.false);
}

pub returns : goal.returns
returns c =
    λ e. let narrow : has_dollar_or_wide c.args.text.now ≡ false = sym c.has_dollar_or_wide.ensures ∙ c.if-has_dollar_or_wide.false in
    copied c.args.text.now (omega arith) (narrow_is_utf8 c.args.text.now narrow) (no_dollar_in c.args.text.now narrow) (c.has_nothing_to_expand.ensures.nothing e)
