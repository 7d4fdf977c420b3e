use Rattle.std.proofs.Common.{◌∙◌, sym}
use Rattle.kc_macro_lines.proofs.TokenLemmas.{unterminated_by, plain_ends, turned}
use Rattle.kc_macro_lines.proofs.line_tokens.is_unterminated_front.Goals as goal

pub returns-then-begins_reference_at : goal.returns-then-begins_reference_at
returns-then-begins_reference_at c = record {
  value = let text = c.args.text.now in
      turned _ c.is_none.result c.is_none.ensures ∙ sym (unterminated_by c.args.in_quotes text (sym c.begins_reference_at.ensures.value
      ∙ c.if-begins_reference_at.true) c.inside_length.result (sym c.inside_length.ensures.value));
}

pub returns-else-begins_reference_at : goal.returns-else-begins_reference_at
returns-else-begins_reference_at c = record {
  value = c.if-begins_reference_at.false ∙ sym (plain_ends c.args.in_quotes c.args.text.now c.requires.not_empty (sym c.begins_reference_at.ensures.value ∙ c.if-begins_reference_at.false));
}
