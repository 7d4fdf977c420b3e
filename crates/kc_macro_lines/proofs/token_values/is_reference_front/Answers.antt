use Rattle.std.proofs.Common.{◌∙◌, sym}
use Rattle.kc_macro_lines.proofs.TokenLemmas.{no_reference_front, reference_by}
use Rattle.kc_macro_lines.proofs.token_values.is_reference_front.Goals as goal

pub returns-then-begins_reference_at : goal.returns-then-begins_reference_at
returns-then-begins_reference_at c = record {
  value = let whole = reference_by c.args.text.now (sym c.begins_reference_at.ensures.value ∙ c.if-begins_reference_at.true) c.inside_length.result
      (sym c.inside_length.ensures.value) in
      let found = c.is_some.ensures in
      cc;
}

pub returns-else-begins_reference_at : goal.returns-else-begins_reference_at
returns-else-begins_reference_at c = record {
  value = c.if-begins_reference_at.false ∙ sym (no_reference_front c.args.text.now c.requires.not_empty (sym c.begins_reference_at.ensures.value ∙ c.if-begins_reference_at.false));
}
