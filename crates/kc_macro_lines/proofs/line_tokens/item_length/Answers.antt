use Rattle.std.proofs.Common.{◌∙◌, true, false, length, sym}
use Rattle.kc_macro_lines.proofs.TokenLemmas.{plain_item, two_of_pair}
use Rattle.kc_macro_lines.proofs.line_tokens.item_length.Goals as goal

pub returns-then-is_pair-clause-value : goal.returns-then-is_pair-clause-value
returns-then-is_pair-clause-value c = sym (plain_item c.args.in_quotes c.args.text.now true c.requires.not_empty
    (sym c.begins_reference_at.ensures.value ∙ c.if-begins_reference_at.false) (sym c.if-is_pair.true ∙ c.is_pair.ensures.value))

pub returns-clause-value : goal.returns-clause-value
returns-clause-value c = sym (plain_item c.args.in_quotes c.args.text.now false c.requires.not_empty
    (sym c.begins_reference_at.ensures.value ∙ c.if-begins_reference_at.false) (sym c.if-is_pair.false ∙ c.is_pair.ensures.value))

pub returns-then-is_pair-clause-within : goal.returns-then-is_pair-clause-within
returns-then-is_pair-clause-within c = two_of_pair _ (length c.args.text.now) (sym c.is_pair.ensures.value ∙ c.if-is_pair.true)
