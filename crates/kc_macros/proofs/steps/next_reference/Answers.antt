use Rattle.kc_macros.proofs.Common.{◌∙◌, ◌-◌, false, length, take, drop, refl, sym, ap, rules, items, frame_place, frame_item}
use Rattle.kc_macros.proofs.ProgramLemmas.{steps_stopped}
use Rattle.kc_macros.proofs.PieceLemmas.{rest_is}
use Rattle.kc_macros.proofs.NameLemmas.{no_element}
use Rattle.kc_macros.proofs.ExpansionLemmas.{plain_too_long, plain_leads, plain_unterminated, short_after}
use Rattle.kc_macros.proofs.steps.next_reference.Goals as goal

pub returns-in_err-push_text-clause-steps : goal.returns-in_err-push_text-clause-steps
returns-in_err-push_text-clause-steps c = λ s.
    let f = c.args.frame.now in
    steps_stopped _ _ _ _ c.in_err-push_text.field-0.0 _ c.from_residual.ensures.1
    (plain_too_long (frame_place f) (frame_item f) (λ d. refl) s c.args.out.now.known c.args.out.now.bytes.items c.args.text.now _ _
    c.plain_length-plain.ensures.items c.requires.small c.in_err-push_text.field-0.0 c.in_err-push_text.ensures.err)

pub returns-then-is_empty-clause-steps : goal.returns-then-is_empty-clause-steps
returns-then-is_empty-clause-steps c = λ s.
    let f = c.args.frame.now in
    plain_leads (frame_place f) (frame_item f) (λ d. refl) s c.args.out.now.known c.args.out.now.bytes.items c.args.text.now _ _
    c.plain_length-plain.ensures.items c.requires.small c.in_ok-push_text.ensures.small c.push_text.new.out.known c.push_text.new.out.bytes.items
    c.in_ok-push_text.ensures.known c.in_ok-push_text.ensures.bytes _
    (ap (items false 0) (sym (rest_is c.args.text.now c.plain_length-plain.result)
    ∙ no_element (take (length c.args.text.now - c.plain_length-plain.result) (drop c.plain_length-plain.result c.args.text.now)) (search rules)))

pub returns-in-None-clause-steps : goal.returns-in-None-clause-steps
returns-in-None-clause-steps c = λ s.
    let f = c.args.frame.now in
    let u = c.in-None.ensures.unterminated false in
    plain_unterminated (frame_place f) (frame_item f) (λ d. refl) s c.args.out.now.known c.args.out.now.bytes.items c.args.text.now _ _
    c.plain_length-plain.ensures.items c.requires.small c.in_ok-push_text.ensures.small c.push_text.new.out.known c.push_text.new.out.bytes.items
    c.in_ok-push_text.ensures.known c.in_ok-push_text.ensures.bytes _ u.0 _ c.fault.result
    (ap (items false 0) (sym (rest_is c.args.text.now c.plain_length-plain.result)) ∙ u.1) refl c.fault.ensures

pub returns-in-Some-clause-steps : goal.returns-in-Some-clause-steps
returns-in-Some-clause-steps c = λ s.
    let f = c.args.frame.now in
    plain_leads (frame_place f) (frame_item f) (λ d. refl) s c.args.out.now.known c.args.out.now.bytes.items c.args.text.now _ _
    c.plain_length-plain.ensures.items c.requires.small c.in_ok-push_text.ensures.small c.push_text.new.out.known c.push_text.new.out.bytes.items
    c.in_ok-push_text.ensures.known c.in_ok-push_text.ensures.bytes _
    (ap (items false 0) (sym (rest_is c.args.text.now c.plain_length-plain.result)) ∙ c.in-Some.ensures.reference false)

pub returns-in-Some-clause-small : goal.returns-in-Some-clause-small
returns-in-Some-clause-small c = short_after c.args.out.now.bytes.items _ c.push_text.new.out.bytes.items _ c.in_ok-push_text.ensures.bytes refl
    c.in_ok-push_text.ensures.small

pub returns-then-is_empty-clause-small : goal.returns-then-is_empty-clause-small
returns-then-is_empty-clause-small c = short_after c.args.out.now.bytes.items _ c.push_text.new.out.bytes.items _ c.in_ok-push_text.ensures.bytes refl
    c.in_ok-push_text.ensures.small
