use Rattle.kc_macro_lines.proofs.Common.{◌∙◌, sym, line_tokens, place_of, bindings_of, token_of, tokens_of, token_view, steps_stopped, steps_out}
use Rattle.kc_macro_lines.proofs.LineContentLemmas.{tokens_pushed, token_stopped, token_open, token_pushed}
use Rattle.kc_macro_lines.proofs.line_content.push_token.Goals as goal

pub returns-in_err-written : goal.returns-in_err-written
returns-in_err-written c = record {
  steps = steps_stopped _ _ _ _ c.in_err-written.field-0.0 _ c.from_residual.ensures.1
      (token_stopped (place_of c.args.scope.now.at) (bindings_of c.args.scope.now.bindings.now) c.args.run.now (tokens_of c.args.front.now.tokens.items) c.args.front.now.may_assign
      (token_view c.args.token) (line_tokens 0 c.args.after.now) c.requires.unassigned c.written_token.new.run c.in_err-written.field-0.0
      c.in_err-written.ensures);
}

pub returns-then-is_open_front : goal.returns-then-is_open_front
returns-then-is_open_front c = record {
  steps = token_open (place_of c.args.scope.now.at) (bindings_of c.args.scope.now.bindings.now) c.args.run.now (tokens_of c.args.front.now.tokens.items) c.args.front.now.may_assign
      (token_view c.args.token) (line_tokens 0 c.args.after.now) c.requires.unassigned c.written_token.new.run
      (token_of c.in_ok-written.written) c.in_ok-written.ensures (sym c.is_open_front.ensures ∙ c.if-is_open_front.true);
}

pub returns-in_err-push : goal.returns-in_err-push
returns-in_err-push c = record {
  steps = steps_out _ _ _ _ _ c.from_residual-in_err-push.ensures.1;
}

pub returns : goal.returns
returns c = record {
  steps = token_pushed (place_of c.args.scope.now.at) (bindings_of c.args.scope.now.bindings.now) c.args.run.now (tokens_of c.args.front.now.tokens.items)
      c.args.front.now.may_assign (token_view c.args.token) (line_tokens 0 c.args.after.now) c.requires.unassigned c.written_token.new.run
      (token_of c.in_ok-written.written) c.in_ok-written.ensures (sym c.is_open_front.ensures ∙ c.if-is_open_front.false)
      (tokens_of c.push.new.self.items) c.may_still_assign-front.result
      (tokens_pushed c.args.front.now.tokens.items c.push.new.self.items c.in_ok-written.written c.in_ok-push.ensures.items) c.may_still_assign-front.ensures;
}
