use Rattle.std.proofs.Common.{◌∙◌, sym, ap, not}
use Rattle.kc_macro_lines.proofs.TokenLemmas.{reference_is_no_dollar, dollar_by_byte}
use Rattle.kc_macro_lines.proofs.token_values.is_plain_dollar_front.Goals as goal

pub returns-else-not-begins_reference_at : goal.returns-else-not-begins_reference_at
returns-else-not-begins_reference_at c = record {
  value = ap not c.if-not-begins_reference_at.false ∙ sym (reference_is_no_dollar c.args.text.now (sym c.begins_reference_at.ensures.value ∙ c.if-not-begins_reference_at.false));
}

pub returns-then-not-begins_reference_at : goal.returns-then-not-begins_reference_at
returns-then-not-begins_reference_at c = record {
  value = sym (dollar_by_byte c.args.text.now c.requires.not_empty (sym c.begins_reference_at.ensures.value ∙ c.if-not-begins_reference_at.true));
}
