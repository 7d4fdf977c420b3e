use Rattle.kc_macro_lines.proofs.Common.{◌∙◌, true, sym, ap, rules, items, place_of, bindings_of, quoted_text_view, no_element, runs_out, returns_so}
use Rattle.kc_macros_model.specs.Programs.{returns as returns_value}
use Rattle.kc_macro_lines.proofs.NothingToExpandLemmas.{plain_written}
use Rattle.kc_macro_lines.proofs.QuotedTextLemmas.{body_begins, body_ends}
use Rattle.kc_macro_lines.proofs.quoted_tokens.written_quoted_text.Goals as goal

pub returns-in_err-plain_quoted_text : goal.returns-in_err-plain_quoted_text
returns-in_err-plain_quoted_text c = runs_out _ _ _ _ _ c.from_residual.ensures.1

pub returns-then-not-has_dollar_or_backslash : goal.returns-then-not-has_dollar_or_backslash
returns-then-not-has_dollar_or_backslash c =
    returns_so c.args.run.now _ _
    (plain_written (place_of c.args.scope.now.at) (bindings_of c.args.scope.now.bindings.now) c.args.quote c.args.text.now
    (sym c.has_dollar_or_backslash.ensures ∙ c.if-not-has_dollar_or_backslash.true)
    ∙ ap returns_value (sym c.in_ok-plain_quoted_text.ensures))

pub returns-in_err-out : goal.returns-in_err-out
returns-in_err-out c = runs_out _ _ _ _ _ c.from_residual-in_err-out.ensures.1

pub items-init : goal.items-init
items-init c = body_begins (place_of c.args.scope.now.at) (bindings_of c.args.scope.now.bindings.now) c.args.quote c.args.run.now _
    (items true 0 c.args.text.now) c.in_ok-out.ensures

pub returns : goal.returns
returns c = body_ends (place_of c.args.scope.now.at) (bindings_of c.args.scope.now.bindings.now) c.args.quote c.items.run (quoted_text_view c.items.out) c.args.run.now _
    (items true 0 c.items.rest.now) (ap (items true 0) (no_element c.items.rest.now (search rules))) c.items.invariant
