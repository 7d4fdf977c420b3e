use Rattle.std.proofs.Common.{inr, sym, ◌∙◌, arith}
use Rattle.kc_statements.proofs.LineLemmas.{config_long, config_other, config_is}
use Rattle.kc_statements.proofs.heads.config_line.Goals as goal

pub returns-then-tokens-ne1-clause-gives : goal.returns-then-tokens-ne1-clause-gives
returns-then-tokens-ne1-clause-gives c = λ e. inr (config_long c.args.tokens.now c.if-tokens-ne1.true)

pub returns-then-not-is_name-clause-gives : goal.returns-then-not-is_name-clause-gives
returns-then-not-is_name-clause-gives c = λ e. inr (config_other c.args.tokens.now c.if-tokens-ne1.false (sym c.is_name.ensures ∙ c.if-not-is_name.true))

pub returns-clause-gives : goal.returns-clause-gives
returns-clause-gives c = λ e. config_is c.args.tokens.now c.if-tokens-ne1.false (sym c.is_name.ensures ∙ c.if-not-is_name.false)

pub bounds-tokens-0-2 : goal.bounds-tokens-0-2
bounds-tokens-0-2 c = omega arith
