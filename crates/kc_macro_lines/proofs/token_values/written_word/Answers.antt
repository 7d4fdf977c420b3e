use Rattle.kc_macro_lines.proofs.Common.{◌∙◌, sym, ap, place_of, bindings_of, token_of, runs_out, passes_on, returns_so}
use Rattle.kc_macros_model.specs.Programs.{returns as returns_value}
use Rattle.kc_macro_lines.proofs.WrittenTokenLemmas.{run_stays, run_is_word, run_stopped, run_valued}
use Rattle.kc_macro_lines.proofs.token_values.written_word.Goals as goal

pub returns-in_err-new_token-in-PlainDollar : goal.returns-in_err-new_token-in-PlainDollar
returns-in_err-new_token-in-PlainDollar c = runs_out _ _ _ _ _ c.from_residual.ensures.1

pub returns-in_ok-new_token-in-PlainDollar : goal.returns-in_ok-new_token-in-PlainDollar
returns-in_ok-new_token-in-PlainDollar c = returns_so c.args.run.now _ _ (run_stays (place_of c.args.scope.now.at) (bindings_of c.args.scope.now.bindings.now)
    c.args.text.now c.in-PlainDollar.ensures ∙ ap returns_value (sym c.in_ok-new_token-in-PlainDollar.ensures))

pub returns-in_err-value-in-Reference : goal.returns-in_err-value-in-Reference
returns-in_err-value-in-Reference c =
    passes_on _ _ _ _ c.in_err-value-in-Reference.field-0.0 _ c.from_residual-in_err-value-in-Reference.ensures.1
    (run_stopped (place_of c.args.scope.now.at) (bindings_of c.args.scope.now.bindings.now) c.args.text.now c.in-Reference.ensures.0 c.in-Reference.ensures.1
    c.args.run.now c.text_value.new.run c.in_err-value-in-Reference.field-0.0 c.in_err-value-in-Reference.ensures)

pub returns-in_err-token_of_value-in-Reference : goal.returns-in_err-token_of_value-in-Reference
returns-in_err-token_of_value-in-Reference c = runs_out _ _ _ _ _ c.from_residual-in_err-token_of_value-in-Reference.ensures.1

pub returns-in_ok-token_of_value-in-Reference : goal.returns-in_ok-token_of_value-in-Reference
returns-in_ok-token_of_value-in-Reference c = run_valued (place_of c.args.scope.now.at) (bindings_of c.args.scope.now.bindings.now) c.args.text.now
    c.in-Reference.ensures.0 c.in-Reference.ensures.1 c.args.run.now c.text_value.new.run
    c.in_ok-value-in-Reference.value (token_of c.in_ok-token_of_value-in-Reference.field-0) c.in_ok-token_of_value-in-Reference.ensures c.in_ok-value-in-Reference.ensures

pub returns-in_err-new_token-in-Word : goal.returns-in_err-new_token-in-Word
returns-in_err-new_token-in-Word c = runs_out _ _ _ _ _ c.from_residual-in_err-new_token-in-Word.ensures.1

pub returns-in_ok-new_token-in-Word : goal.returns-in_ok-new_token-in-Word
returns-in_ok-new_token-in-Word c = returns_so c.args.run.now _ _ (run_is_word (place_of c.args.scope.now.at) (bindings_of c.args.scope.now.bindings.now) c.args.text.now
    c.in-Word.ensures.0 c.in-Word.ensures.1 ∙ ap returns_value (sym c.in_ok-new_token-in-Word.ensures))
