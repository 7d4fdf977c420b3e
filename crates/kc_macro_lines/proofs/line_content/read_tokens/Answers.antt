use Rattle.kc_macro_lines.proofs.Common.{ap, rules, line_tokens, place_of, bindings_of, tokens_of, no_element}
use Rattle.kc_macro_lines.proofs.LineContentLemmas.{content_begins, content_ends, content_assigned}
use Rattle.kc_macro_lines.proofs.line_content.read_tokens.Goals as goal

pub tokens-init : goal.tokens-init
tokens-init c = content_begins (place_of c.args.scope.now.at) (bindings_of c.args.scope.now.bindings.now) c.args.run.now (tokens_of c.new.result.items)
    (line_tokens 0 c.args.text.now) (ap tokens_of c.new.ensures.items)

pub returns-in-Assigns : goal.returns-in-Assigns
returns-in-Assigns c =
    content_assigned (place_of c.args.scope.now.at) (bindings_of c.args.scope.now.bindings.now) c.args.run.now c.tokens.run c.next_token.new.run _ _ c.tokens.invariant
    c.next_token.new.front c.in_ok-after.field-0 c.in_ok-after.ensures.steps c.in-Assigns.assignment c.in-Assigns.is

pub returns : goal.returns
returns c =
    content_ends (place_of c.args.scope.now.at) (bindings_of c.args.scope.now.bindings.now) c.args.run.now c.tokens.run _
    (tokens_of c.tokens.front.tokens.items) c.tokens.front.may_assign (line_tokens 0 c.tokens.rest.now)
    (ap (line_tokens 0) (no_element c.tokens.rest.now (search rules))) c.tokens.invariant
