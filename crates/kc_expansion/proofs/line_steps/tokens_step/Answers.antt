use Rattle.kc_expansion.proofs.Common.{◌∙◌, refl, sym, ap, form_of, without_trivia, is_help_line, is_undecided, ReadingState, form_written, place_of, tokens_of, with_lines, stays_same, grows_same}
use Rattle.kc_macro_forms.specs.between.LineFormViews.{form_view}
use Rattle.kc_expansion.proofs.FileProgramLemmas.{leads_then, leads_value, reads_on}
use Rattle.kc_expansion.proofs.StepResultLemmas.{to_out, to_stopped}
use Rattle.kc_expansion.proofs.LineStepLemmas.{stops_undecided, text_written, path_known, path_unknown}
use Rattle.kc_expansion.proofs.line_steps.tokens_step.Goals as goal

pub returns-then-is_undecided : goal.returns-then-is_undecided
returns-then-is_undecided c = λ contents known sub s.
    stops_undecided sub (place_of c.args.at) (with_lines c.args.state.now s) (tokens_of c.args.tokens.items) (without_trivia (tokens_of c.args.tokens.items))
    (c.is_undecided.ensures ∙ ap (λ vs. is_undecided (without_trivia (tokens_of vs))) c.deref.ensures.value) c.if-is_undecided.true

pub returns-in_err-given-in-Sources : goal.returns-in_err-given-in-Sources
returns-in_err-given-in-Sources c = λ contents known sub s.
    to_stopped _ c.in_err-given-in-Sources.field-0.0 _ c.from_residual.ensures.1
    (path_unknown sub (place_of c.args.at) (with_lines c.args.state.now s) (tokens_of c.args.tokens.items) (without_trivia (tokens_of c.args.tokens.items))
    (c.is_undecided.ensures ∙ ap (λ vs. is_undecided (without_trivia (tokens_of vs))) c.deref.ensures.value) c.if-is_undecided.false _ _
    (c.in-Sources.ensures ∙ ap (λ vs. form_of (without_trivia (tokens_of vs))) c.deref-2.ensures.value) c.in_err-given-in-Sources.field-0.0
    c.in_err-given-in-Sources.ensures.err)

pub returns-in_err-text-in_default : goal.returns-in_err-text-in_default
returns-in_err-text-in_default c = λ contents known sub s.
    to_out _ _ _ _ _ (stays_same contents) (grows_same contents known) c.from_residual-in_err-text-in_default.ensures.1

pub returns-in_err-line-in_default : goal.returns-in_err-line-in_default
returns-in_err-line-in_default c = λ contents known sub s.
    let ts = tokens_of c.args.tokens.items in
    let u = with_lines c.args.state.now s in
    let v : ReadingState = record u { choices = c.form_text.new.choices } in
    let form = form_view c.line_form.result in
    to_stopped _ c.in_err-line-in_default.field-0.0 _ c.from_residual-in_err-line-in_default.ensures.1
    (reads_on (text_written sub (place_of c.args.at) u ts (without_trivia ts)
    (c.is_undecided.ensures ∙ ap (λ vs. is_undecided (without_trivia (tokens_of vs))) c.deref.ensures.value) c.if-is_undecided.false
    form c.in_ok-text-in_default.text.items v c.is_help_line.result
    (c.line_form.ensures ∙ ap (λ vs. form_of (without_trivia (tokens_of vs))) c.deref-2.ensures.value)
    (c.is_help_line.ensures ∙ ap (λ vs. is_help_line (without_trivia (tokens_of vs))) c.deref-in_default-2.ensures.value)
    (ap (λ vs. form_written sub (place_of c.args.at) (tokens_of vs) form u) (sym c.deref-in_default.ensures.value)
    ∙ c.in_ok-text-in_default.ensures.value sub (place_of c.args.at) u refl)) (c.in_err-line-in_default.ensures _ v))

pub returns-in_ok-line-in_default : goal.returns-in_ok-line-in_default
returns-in_ok-line-in_default c = λ contents known sub s.
    let ts = tokens_of c.args.tokens.items in
    let u = with_lines c.args.state.now s in
    let v : ReadingState = record u { choices = c.form_text.new.choices } in
    let form = form_view c.line_form.result in
    leads_then (text_written sub (place_of c.args.at) u ts (without_trivia ts)
    (c.is_undecided.ensures ∙ ap (λ vs. is_undecided (without_trivia (tokens_of vs))) c.deref.ensures.value) c.if-is_undecided.false
    form c.in_ok-text-in_default.text.items v c.is_help_line.result
    (c.line_form.ensures ∙ ap (λ vs. form_of (without_trivia (tokens_of vs))) c.deref-2.ensures.value)
    (c.is_help_line.ensures ∙ ap (λ vs. is_help_line (without_trivia (tokens_of vs))) c.deref-in_default-2.ensures.value)
    (ap (λ vs. form_written sub (place_of c.args.at) (tokens_of vs) form u) (sym c.deref-in_default.ensures.value)
    ∙ c.in_ok-text-in_default.ensures.value sub (place_of c.args.at) u refl)) (leads_value (c.in_ok-line-in_default.ensures _ v))

pub returns-in_ok-given-in-Sources : goal.returns-in_ok-given-in-Sources
returns-in_ok-given-in-Sources c = λ contents known sub s.
    path_known sub (place_of c.args.at) (with_lines c.args.state.now s) (tokens_of c.args.tokens.items) (without_trivia (tokens_of c.args.tokens.items))
    (c.is_undecided.ensures ∙ ap (λ vs. is_undecided (without_trivia (tokens_of vs))) c.deref.ensures.value) c.if-is_undecided.false _ _
    (c.in-Sources.ensures ∙ ap (λ vs. form_of (without_trivia (tokens_of vs))) c.deref-2.ensures.value) c.in_ok-given-in-Sources.given.items
    c.in_ok-given-in-Sources.ensures.ok
