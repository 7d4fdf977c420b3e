use Rattle.kc_macro_lines.specs.checker.LineTexts.{token_view}
use Rattle.kc_macro_lines.proofs.FrontLemmas.{front_fits, front_tokens, front_shorter}
use Rattle.kc_macro_lines.proofs.line_content.front_token.Goals as goal

pub split_at-requires : goal.split_at-requires
split_at-requires c = front_fits c.args.text.now (token_view c.first_token-token.result) c.token_length.result c.requires.not_empty
    c.first_token-token.ensures.value c.token_length.ensures.value

pub returns-clause-tokens : goal.returns-clause-tokens
returns-clause-tokens c = front_tokens c.args.text.now (token_view c.first_token-token.result) c.token_length.result c.requires.not_empty
    c.first_token-token.ensures.value c.token_length.ensures.value _ c.split_at.ensures.back

pub returns-clause-shorter : goal.returns-clause-shorter
returns-clause-shorter c = front_shorter c.args.text.now (token_view c.first_token-token.result) c.token_length.result c.requires.not_empty
    c.first_token-token.ensures.value c.token_length.ensures.value _ c.split_at.ensures.back
