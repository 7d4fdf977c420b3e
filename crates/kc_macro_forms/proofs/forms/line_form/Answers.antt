use Rattle.std.proofs.Common.{◌∙◌, sym, ap}
use Rattle.kc_macro_forms.specs.between.WrittenTokens.{token_of}
use Rattle.kc_macro_forms.specs.checker.SignificantTokens.{significant_tokens, is_empty_line, form_of_words}
use Rattle.kc_macro_forms.proofs.SignificantTokenLemmas.{form_is}
use Rattle.kc_macro_forms.proofs.forms.line_form.Goals as goal

pub returns : goal.returns
returns c =
    let second = token_of c.in-Some-next_significant.second.now in
    c.form_of_words.ensures
    ∙ ap (λ b. form_of_words c.as_slice.result.now second b) c.is_empty_line.ensures
    ∙ ap (λ x. form_of_words x second (is_empty_line (significant_tokens c.in-Some-next_significant.after_second.now))) c.as_slice.ensures
    ∙ form_is (significant_tokens c.args.tokens.now) (token_of c.in-Some.first.now) second (significant_tokens c.in-Some.after_first.now)
    (significant_tokens c.in-Some-next_significant.after_second.now)
    c.in-Some.ensures.some c.in-Some-next_significant.ensures.some (sym c.is_word.ensures ∙ c.if-not-is_word.false)
