use Rattle.std.proofs.Common.{◌∙◌, sym, rules}
use Rattle.kc_macro_lines.proofs.TokenLemmas.{unterminated_here, later_unterminated}
use Rattle.kc_macro_lines.proofs.CopiedLineLemmas.{all_terminated}
use Rattle.kc_macro_lines.proofs.line_tokens.has_unterminated.Goals as goal

pub returns-then-not-has_dollar : goal.returns-then-not-has_dollar
returns-then-not-has_dollar c = sym (all_terminated c.args.in_quotes c.args.text.now (sym c.has_dollar.ensures ∙ c.if-not-has_dollar.true))

pub returns-then-is_unterminated_front : goal.returns-then-is_unterminated_front
returns-then-is_unterminated_front c = sym (c.items.invariant ∙ unterminated_here c.args.in_quotes c.items.rest.now (search rules)
    (sym c.if-is_unterminated_front.ensures.value))

pub items-preserved : goal.items-preserved
items-preserved c =
    later_unterminated c.args.in_quotes c.items.rest.now c.item_length.result (search rules) c.item_length.ensures.value c.item_length.ensures.within
    c.args.text.now (sym c.is_unterminated_front.ensures.value ∙ c.if-is_unterminated_front.false) c.items.invariant
