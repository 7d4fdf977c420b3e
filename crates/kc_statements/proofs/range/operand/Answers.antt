use Rattle.kc_statements.proofs.Common.{lexeme_of, expr_complete}
use Rattle.kc_statements.proofs.ValueLemmas.{operand_reported}
use Rattle.kc_statements.proofs.range.operand.Goals as goal

pub returns-in-Ok-clause-operand : goal.returns-in-Ok-clause-operand
returns-in-Ok-clause-operand c =
    let r = c.in-Ok.ensures.ok in
    (operand_reported c.parse_expr.new.self c.in-Ok.read.0 (lexeme_of c.args.token.now) r.expr c.requires.kind
    (expr_complete _ r.expr r.in_grammar) r.represents).0

pub returns-in-Ok-clause-held : goal.returns-in-Ok-clause-held
returns-in-Ok-clause-held c =
    let r = c.in-Ok.ensures.ok in
    (operand_reported c.parse_expr.new.self c.in-Ok.read.0 (lexeme_of c.args.token.now) r.expr c.requires.kind
    (expr_complete _ r.expr r.in_grammar) r.represents).1
