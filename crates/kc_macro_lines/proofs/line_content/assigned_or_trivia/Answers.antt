use Rattle.kc_macro_lines.proofs.Common.{◌∙◌, ◌<◌, ◌∷◌, ◌++◌, [], length, sym, ap, arith, line_tokens, assigned, place_of, bindings_of, tokens_of, assigned_of, steps_stopped, steps_out}
use Rattle.kc_macro_lines.proofs.FrontLemmas.{none_of, some_of}
use Rattle.kc_macro_lines.proofs.LineContentLemmas.{tokens_pushed, name_stopped, name_unknown, name_empty, name_assigned}
use Rattle.kc_macro_lines.proofs.line_content.assigned_or_trivia.Goals as goal

pub returns-in_err-name-clause-steps : goal.returns-in_err-name-clause-steps
returns-in_err-name-clause-steps c =
    steps_stopped _ _ _ _ c.in_err-name.field-0.0 _ c.from_residual.ensures.1
    (name_stopped (place_of c.args.scope.now.at) (bindings_of c.args.scope.now.bindings.now) c.args.run.now (tokens_of c.args.front.now.tokens.items)
    c.args.front.now.may_assign c.requires.may_assign c.args.found.name.now (line_tokens 0 c.args.after.now)
    (assigned_of c.args.found) c.requires.found c.run_value.new.run c.in_err-name.field-0.0 c.in_err-name.ensures)

pub returns-in_default-clause-steps : goal.returns-in_default-clause-steps
returns-in_default-clause-steps c = name_unknown (place_of c.args.scope.now.at) (bindings_of c.args.scope.now.bindings.now) c.args.run.now
    (tokens_of c.args.front.now.tokens.items) c.args.front.now.may_assign c.requires.may_assign c.args.found.name.now (line_tokens 0 c.args.after.now)
    (assigned_of c.args.found) c.requires.found c.run_value.new.run c.in_ok-name.field-0 c.in_ok-name.ensures c.in_default.is

pub returns-in_err-trivia-clause-steps : goal.returns-in_err-trivia-clause-steps
returns-in_err-trivia-clause-steps c = steps_out _ _ _ _ _ c.from_residual-in_err-trivia.ensures.1

pub returns-in_err-push-clause-steps : goal.returns-in_err-push-clause-steps
returns-in_err-push-clause-steps c = steps_out _ _ _ _ _ c.from_residual-in_err-push.ensures.1

pub returns-then-is_empty-clause-steps : goal.returns-then-is_empty-clause-steps
returns-then-is_empty-clause-steps c =
    name_empty (place_of c.args.scope.now.at) (bindings_of c.args.scope.now.bindings.now) c.args.run.now (tokens_of c.args.front.now.tokens.items) c.args.front.now.may_assign
    c.requires.may_assign c.args.found.name.now (line_tokens 0 c.args.after.now) (assigned_of c.args.found) c.requires.found c.run_value.new.run
    c.in_ok-name.field-0 c.in_ok-name.ensures c.in-Some.name c.in-Some.is
    (ap length (sym c.as_slice.ensures) ∙ none_of (length c.as_slice.result.now) c.is_empty.result c.is_empty.ensures c.if-is_empty.true)
    (tokens_of c.push.new.self.items)
    (tokens_pushed c.args.front.now.tokens.items c.push.new.self.items c.in_ok-trivia.trivia c.in_ok-push.ensures.items
    ∙ ap (λ w. tokens_of c.args.front.now.tokens.items ++ w ∷ []) c.in_ok-trivia.ensures)

pub returns-in_err-text-clause-steps : goal.returns-in_err-text-clause-steps
returns-in_err-text-clause-steps c = steps_out _ _ _ _ _ c.from_residual-in_err-text.ensures.1

pub returns-clause-steps : goal.returns-clause-steps
returns-clause-steps c =
    let some : 0 < length c.in-Some.name =
    omega (arith, ap length c.as_slice.ensures, some_of (length c.as_slice.result.now) c.is_empty.result c.is_empty.ensures c.if-is_empty.false) in
    name_assigned (place_of c.args.scope.now.at) (bindings_of c.args.scope.now.bindings.now) c.args.run.now (tokens_of c.args.front.now.tokens.items) c.args.front.now.may_assign
    c.requires.may_assign c.args.found.name.now (line_tokens 0 c.args.after.now) (assigned_of c.args.found) c.requires.found c.run_value.new.run
    c.in_ok-name.field-0 c.in_ok-name.ensures c.in-Some.name c.in-Some.is some (assigned c.args.found.operator c.in_ok-text.text)
    (ap (λ t. assigned c.args.found.operator t) c.in_ok-text.ensures)
