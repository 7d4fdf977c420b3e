use Rattle.kc_macro_lines.proofs.Common.{◌∙◌, Some, sym, ap, place_of, bindings_of, runs_out, returns_so}
use Rattle.kc_macros_model.specs.Programs.{returns as returns_value}
use Rattle.kc_macro_lines.proofs.WrittenTokenLemmas.{plain_run}
use Rattle.kc_macro_lines.proofs.token_values.run_value.Goals as goal

pub returns-in_err-copied : goal.returns-in_err-copied
returns-in_err-copied c = runs_out _ _ _ _ _ c.from_residual.ensures.1

pub returns : goal.returns
returns c = returns_so c.args.run.now _ _ (plain_run (place_of c.args.scope.now.at) (bindings_of c.args.scope.now.bindings.now) c.args.text.now
    (sym c.has_dollar.ensures ∙ c.if-has_dollar.false) ∙ ap (λ v. returns_value (Some v)) (sym c.in_ok-copied.ensures))
