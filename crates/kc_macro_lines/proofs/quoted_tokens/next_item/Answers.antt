use Rattle.kc_macro_lines.proofs.Common.{◌∙◌, ◌+◌, true, length, take, drop, get_or, refl, sym, byte, escaped, unterminated, items, place_of, bindings_of, quoted_text_view, steps_stopped, steps_out}
use Rattle.kc_macro_lines.proofs.TokenLemmas.{pair_front, byte_front}
use Rattle.kc_macro_lines.proofs.QuotedTextLemmas.{item_fails, value_stopped, value_written, item_written}
use Rattle.kc_macro_lines.proofs.quoted_tokens.next_item.Goals as goal

pub returns-in_default-clause-steps : goal.returns-in_default-clause-steps
returns-in_default-clause-steps c =
    let u = c.in_default.ensures.unterminated true in
    item_fails (place_of c.args.scope.now.at) (bindings_of c.args.scope.now.bindings.now) c.args.quote c.args.run.now (quoted_text_view c.args.out.now) c.args.text.now
    (unterminated (drop 2 c.args.text.now)) u.0 _ c.fault.result u.1 refl c.fault.ensures

pub returns-in_err-value-clause-steps : goal.returns-in_err-value-clause-steps
returns-in_err-value-clause-steps c =
    steps_stopped _ _ _ _ c.in_err-value.field-0.0 _ c.from_residual.ensures.1
    (value_stopped (place_of c.args.scope.now.at) (bindings_of c.args.scope.now.bindings.now) c.args.quote c.args.run.now
    (quoted_text_view c.args.out.now) c.args.text.now c.in-Some.inside.now (take (length c.in-Some.inside.now + 3) c.args.text.now)
    (items true 0 c.in-Some.after.now) (c.in-Some.ensures.reference true) c.in-Some.ensures.front c.text_value.new.run c.in_err-value.field-0.0
    c.in_err-value.ensures)

pub returns-in_err-push_reference-clause-steps : goal.returns-in_err-push_reference-clause-steps
returns-in_err-push_reference-clause-steps c = steps_out _ _ _ _ _ c.from_residual-in_err-push_reference.ensures.1

pub returns-then-begins_reference_at-clause-steps : goal.returns-then-begins_reference_at-clause-steps
returns-then-begins_reference_at-clause-steps c = value_written (place_of c.args.scope.now.at) (bindings_of c.args.scope.now.bindings.now) c.args.quote c.args.run.now
    (quoted_text_view c.args.out.now) c.args.text.now c.in-Some.inside.now (take (length c.in-Some.inside.now + 3) c.args.text.now)
    (items true 0 c.in-Some.after.now) (c.in-Some.ensures.reference true) c.in-Some.ensures.front c.text_value.new.run c.in_ok-value.value
    (quoted_text_view c.push_reference.new.out) c.in_ok-push_reference.ensures c.in_ok-value.ensures

pub returns-in_err-push_pair-clause-steps : goal.returns-in_err-push_pair-clause-steps
returns-in_err-push_pair-clause-steps c = steps_out _ _ _ _ _ c.from_residual-in_err-push_pair.ensures.1

pub returns-then-is_pair-clause-steps : goal.returns-then-is_pair-clause-steps
returns-then-is_pair-clause-steps c =
    item_written (place_of c.args.scope.now.at) (bindings_of c.args.scope.now.bindings.now) c.args.quote c.args.run.now (quoted_text_view c.args.out.now) c.args.text.now
    (escaped (get_or c.args.text.now 1 0)) _ (quoted_text_view c.push_pair.new.out) _
    (pair_front c.args.text.now c.requires.not_empty (sym c.begins_reference_at.ensures.value ∙ c.if-begins_reference_at.false)
    (sym c.is_pair.ensures.value ∙ c.if-is_pair.true)) refl c.in_ok-push_pair.ensures

pub returns-in_err-push_byte-clause-steps : goal.returns-in_err-push_byte-clause-steps
returns-in_err-push_byte-clause-steps c = steps_out _ _ _ _ _ c.from_residual-in_err-push_byte.ensures.1

pub returns-clause-steps : goal.returns-clause-steps
returns-clause-steps c =
    item_written (place_of c.args.scope.now.at) (bindings_of c.args.scope.now.bindings.now) c.args.quote c.args.run.now (quoted_text_view c.args.out.now) c.args.text.now
    (byte (get_or c.args.text.now 0 0)) _ (quoted_text_view c.push_byte.new.out) _
    (byte_front c.args.text.now c.requires.not_empty (sym c.begins_reference_at.ensures.value ∙ c.if-begins_reference_at.false)
    (sym c.is_pair.ensures.value ∙ c.if-is_pair.false)) refl c.in_ok-push_byte.ensures
