use Rattle.std.proofs.Common.{◌∙◌}
use Rattle.kc_macro_forms.specs.between.WrittenTokens.{token_of}
use Rattle.kc_macro_forms.specs.checker.SignificantTokens.{significant_tokens}
use Rattle.kc_macro_forms.proofs.SignificantTokenLemmas.{help_alone, help_not}
use Rattle.kc_macro_forms.proofs.forms.is_help_line.Goals as goal

pub returns-then-is_empty_line : goal.returns-then-is_empty_line
returns-then-is_empty_line c =
    c.is_help_token.ensures
    ∙ help_alone (significant_tokens c.args.tokens.now) (token_of c.in-Some.first.now) (significant_tokens c.in-Some.after.now) c.is_empty_line.result c.in-Some.ensures.some
    c.is_empty_line.ensures c.if-is_empty_line.true

pub returns-else-is_empty_line : goal.returns-else-is_empty_line
returns-else-is_empty_line c =
    c.if-is_empty_line.false
    ∙ help_not (significant_tokens c.args.tokens.now) (token_of c.in-Some.first.now) (significant_tokens c.in-Some.after.now) c.is_empty_line.result c.in-Some.ensures.some
    c.is_empty_line.ensures c.if-is_empty_line.false
