use Rattle.kc_macro_lines.proofs.Common.{◌∙◌, sym, ap, written_token, place_of, bindings_of, token_view, token_of, quoted_text_view, quoted_written, runs_out, passes_on, runs_same, fails_so, returns_so}
use Rattle.kc_macros_model.specs.Programs.{returns as returns_value}
use Rattle.kc_macro_lines.proofs.QuotedTextLemmas.{quoted_stopped, quoted_returned}
use Rattle.kc_macro_lines.proofs.quoted_tokens.written_token.Goals as goal

pub returns-in_err-new_token-in-Trivia : goal.returns-in_err-new_token-in-Trivia
returns-in_err-new_token-in-Trivia c = runs_out _ _ _ _ _ c.from_residual.ensures.1

pub returns-in_err-quoted_text-in-Quoted : goal.returns-in_err-quoted_text-in-Quoted
returns-in_err-quoted_text-in-Quoted c =
    let at = place_of c.args.scope.now.at in
    let b = bindings_of c.args.scope.now.bindings.now in
    passes_on _ _ _ _ c.in_err-quoted_text-in-Quoted.field-0.0 _ c.from_residual-in_err-quoted_text-in-Quoted.ensures.1
    (runs_same c.args.run.now c.written_quoted_text.new.run _ (quoted_written at b c.in-Quoted.quote c.in-Quoted.text.now) _
    (ap (λ t. written_token at b (token_view t)) c.in-Quoted.is)
    (quoted_stopped at b c.in-Quoted.quote c.in-Quoted.text.now c.args.run.now c.written_quoted_text.new.run c.in_err-quoted_text-in-Quoted.field-0.0 c.in_err-quoted_text-in-Quoted.ensures))

pub returns-in_err-token_of_quoted_text-in-Quoted : goal.returns-in_err-token_of_quoted_text-in-Quoted
returns-in_err-token_of_quoted_text-in-Quoted c = runs_out _ _ _ _ _ c.from_residual-in_err-token_of_quoted_text-in-Quoted.ensures.1

pub returns-in_ok-token_of_quoted_text-in-Quoted : goal.returns-in_ok-token_of_quoted_text-in-Quoted
returns-in_ok-token_of_quoted_text-in-Quoted c =
    let at = place_of c.args.scope.now.at in
    let b = bindings_of c.args.scope.now.bindings.now in
    runs_same c.args.run.now c.written_quoted_text.new.run _ (quoted_written at b c.in-Quoted.quote c.in-Quoted.text.now) _
    (ap (λ t. written_token at b (token_view t)) c.in-Quoted.is)
    (quoted_returned at b c.in-Quoted.quote c.in-Quoted.text.now c.args.run.now c.written_quoted_text.new.run
    (quoted_text_view c.in_ok-quoted_text-in-Quoted.quoted_text) (token_of c.in_ok-token_of_quoted_text-in-Quoted.field-0) c.in_ok-token_of_quoted_text-in-Quoted.ensures c.in_ok-quoted_text-in-Quoted.ensures)

pub returns-in_err-new_token-in-Other : goal.returns-in_err-new_token-in-Other
returns-in_err-new_token-in-Other c = runs_out _ _ _ _ _ c.from_residual-in_err-new_token-in-Other.ensures.1

pub returns-in_ok-new_token-in-Trivia : goal.returns-in_ok-new_token-in-Trivia
returns-in_ok-new_token-in-Trivia c =
    returns_so c.args.run.now _ _ (ap (λ t. written_token (place_of c.args.scope.now.at) (bindings_of c.args.scope.now.bindings.now) (token_view t)) c.in-Trivia.is
    ∙ ap returns_value (sym c.in_ok-new_token-in-Trivia.ensures))

pub returns-in_ok-new_token-in-Other : goal.returns-in_ok-new_token-in-Other
returns-in_ok-new_token-in-Other c =
    returns_so c.args.run.now _ _ (ap (λ t. written_token (place_of c.args.scope.now.at) (bindings_of c.args.scope.now.bindings.now) (token_view t)) c.in-Other.is
    ∙ ap returns_value (sym c.in_ok-new_token-in-Other.ensures))

pub returns-in-Broken : goal.returns-in-Broken
returns-in-Broken c = fails_so c.args.run.now _ _ c.fault.result (ap (λ t. written_token (place_of c.args.scope.now.at) (bindings_of c.args.scope.now.bindings.now) (token_view t))
    c.in-Broken.is) c.fault.ensures
