use Rattle.kc_macro_lines.proofs.Common.{◌≡◌, ◌∙◌, ◌||◌, ◌-◌, false, [], length, take, drop, sym, ap, rules, list_any, items, is_reference, is_plain_dollar, no_element, first_item_of}
use Rattle.kc_macro_lines.proofs.TokenLemmas.{item_here, item_later, item_either}
use Rattle.kc_macro_lines.proofs.token_values.run_content.Goals as goal
use Rattle.kc_macro_lines.proofs.token_values.run_content.Goals.{then-has_reference, else-has_reference}

pub returns-then-is_plain_dollar_front : goal.returns-then-is_plain_dollar_front
returns-then-is_plain_dollar_front c = c.items.invariant.dollars ∙ item_here is_plain_dollar false c.items.rest.now (search rules)
    (sym c.if-is_plain_dollar_front.ensures.value)

pub items-preserved : goal.items-preserved
items-preserved c =
    let rest = c.items.rest.now in
    let n = c.item_length.result in
    let front = is_reference (first_item_of false rest) in
    let later = list_any is_reference (items false 0 (take (length rest - n) (drop n rest))) in
    let found : c.if-has_reference.has_reference ≡ (c.items.has_reference || front) =
    elim c.if-has_reference.branch [
      | then-has_reference w ↦ w.has_reference-is ∙ w.if-has_reference.true ∙ sym (ap (λ b. b || front) w.if-has_reference.true)
      | else-has_reference w ↦ w.has_reference-is ∙ w.is_reference_front-has_reference.ensures.value ∙ sym (ap (λ b. b || front) w.if-has_reference.false)
    ] in
    record {
      dollars = item_later is_plain_dollar false rest (search rules) n c.item_length.ensures.value
          (sym c.is_plain_dollar_front.ensures.value ∙ c.if-is_plain_dollar_front.false) c.args.text.now c.items.invariant.dollars;
      references = c.items.invariant.references ∙ item_either is_reference false rest (search rules) n c.item_length.ensures.value c.items.has_reference
          ∙ ap (λ b. b || later) (sym found);
    }

pub returns-then-has_reference-2 : goal.returns-then-has_reference-2
returns-then-has_reference-2 c =
    let ended : items false 0 c.items.rest.now ≡ [] = ap (items false 0) (no_element c.items.rest.now (search rules)) in (
      c.items.invariant.dollars ∙ ap (list_any is_plain_dollar) ended,
      c.items.invariant.references ∙ ap (λ is. c.items.has_reference || list_any is_reference is) ended ∙ ap (λ b. b || false) c.if-has_reference-2.true,
    )

pub returns-else-has_reference-2 : goal.returns-else-has_reference-2
returns-else-has_reference-2 c =
    let ended : items false 0 c.items.rest.now ≡ [] = ap (items false 0) (no_element c.items.rest.now (search rules)) in (
      c.items.invariant.dollars ∙ ap (list_any is_plain_dollar) ended,
      c.items.invariant.references ∙ ap (λ is. c.items.has_reference || list_any is_reference is) ended ∙ ap (λ b. b || false) c.if-has_reference-2.false,
    )
