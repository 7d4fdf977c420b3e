use Rattle.kc_statements.proofs.Common.{arith, inr, drop, length-drop, ap, sym, ◌∙◌, Ok, length-map, lexemes_of, lexeme_of, expr_complete, last_condition}
use Rattle.kc_statements.proofs.FormLemmas.{condition_after, condition_last, condition_unread, unread}
use Rattle.kc_statements.proofs.condition.last_condition.Goals as goal

pub returns-then-next-tokens-clause-gives : goal.returns-then-next-tokens-clause-gives
returns-then-next-tokens-clause-gives c =
    let r = c.in-Ok.ensures.ok in
    inr (condition_after (drop c.args.at (lexemes_of c.args.tokens.now)) r.expr (expr_complete _ r.expr r.in_grammar)
    (omega (
      arith,
      c.in-Ok.ensures.end,
      c.if-next-tokens.true,
      length-drop c.args.at (lexemes_of c.args.tokens.now),
      length-map c.args.tokens.now
          lexeme_of,
    )))

pub returns-clause-gives : goal.returns-clause-gives
returns-clause-gives c =
    let r = c.in-Ok.ensures.ok in
    condition_last (drop c.args.at (lexemes_of c.args.tokens.now)) r.expr (expr_complete _ r.expr r.in_grammar)
    (omega (
      arith,
      c.in-Ok.ensures.end,
      c.if-next-tokens.false,
      length-drop c.args.at (lexemes_of c.args.tokens.now),
      length-map c.args.tokens.now
          lexeme_of,
    )) ∙ ap Ok (sym r.represents.is)

pub returns-in-Err-clause-gives : goal.returns-in-Err-clause-gives
returns-in-Err-clause-gives c =
    let ps = drop c.args.at (lexemes_of c.args.tokens.now) in
    unread (lexemes_of c.args.tokens.now) c.args.at c.in-Err.fault c.tree_kind_of.result (last_condition ps) c.in-Err.ensures.fault c.tree_kind_of.ensures
    (condition_unread ps)
