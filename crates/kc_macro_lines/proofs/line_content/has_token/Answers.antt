use Rattle.std.proofs.Common.{length}
use Rattle.kc_macro_lines.proofs.FrontLemmas.{token_here, token_absent, none_of, some_of}
use Rattle.kc_macro_lines.proofs.line_content.has_token.Goals as goal

pub returns-then-is_empty : goal.returns-then-is_empty
returns-then-is_empty c =
    token_absent c.args.text.now c.without_white_front-rest.result.now c.without_white_front-rest.ensures
    (none_of (length c.without_white_front-rest.result.now) c.is_empty.result c.is_empty.ensures c.if-is_empty.true)

pub returns : goal.returns
returns c =
    token_here c.args.text.now c.without_white_front-rest.result.now c.without_white_front-rest.ensures
    (some_of (length c.without_white_front-rest.result.now) c.is_empty.result c.is_empty.ensures c.if-is_empty.false)
