use Rattle.kc_statements.proofs.Common.{inr, sym, ap, ◌∙◌, drop, length, err_from_is_err_and, lexemes_of, no_more, attribute, modules}
use Rattle.std.proofs.lemmas.List.{take_rest}
use Rattle.kc_statements.proofs.FormLemmas.{there, none_left, some_left}
use Rattle.kc_statements.proofs.OptionLemmas.{modules_option}
use Rattle.kc_statements.proofs.options.option_attribute.Goals as goal

pub returns-then-is_the_word-clause-gives : goal.returns-then-is_the_word-clause-gives
returns-then-is_the_word-clause-gives c =
    let ts = c.args.tokens.now in
    let some = there (length ts) c.is_empty.result c.is_empty.ensures c.if-is_empty.false in
    modules_option ts some (sym c.is_the_word.ensures ∙ c.if-is_the_word.true)
    ∙ none_left tt _ (attribute modules) (lexemes_of (drop 1 ts))
    (sym (ap (λ us. no_more tt (lexemes_of us)) (take_rest ts 1)) ∙ sym c.in_ok-no_more.ensures)

pub returns-in_err-no_more-clause-gives : goal.returns-in_err-no_more-clause-gives
returns-in_err-no_more-clause-gives c =
    let ts = c.args.tokens.now in
    let some = there (length ts) c.is_empty.result c.is_empty.ensures c.if-is_empty.false in
    let p = err_from_is_err_and c.from_residual.result c.from_residual.ensures.1 in
    rw (p.1, p.2) (inr (modules_option ts some (sym c.is_the_word.ensures ∙ c.if-is_the_word.true)
    ∙ some_left tt (attribute modules) c.in_err-no_more.field-0.0 (lexemes_of (drop 1 ts))
    (sym (ap (λ us. no_more tt (lexemes_of us)) (take_rest ts 1)) ∙ sym c.in_err-no_more.ensures)))
