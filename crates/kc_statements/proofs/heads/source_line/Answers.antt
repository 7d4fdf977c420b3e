use Rattle.kc_statements.proofs.Common.{inr, sym, ◌∙◌, arith, common_steps}
use Rattle.kc_statements.proofs.LineLemmas.{source_long, source_is}
use Rattle.kc_statements.proofs.heads.source_line.Goals as goal

pub returns-then-tokens-ne1-clause-gives : goal.returns-then-tokens-ne1-clause-gives
returns-then-tokens-ne1-clause-gives c = λ e. inr (source_long c.args.tokens.now c.if-tokens-ne1.true)

pub returns-in-Ok-Some-clause-gives : goal.returns-in-Ok-Some-clause-gives
returns-in-Ok-Some-clause-gives c =
    λ e. source_is c.args.tokens.now c.in-Ok-Some.path c.if-tokens-ne1.false (sym c.in-Ok-Some.ensures ∙ c.in-Ok-Some.field-0-is)

pub returns-in-Err-clause-gives : goal.returns-in-Err-clause-gives
returns-in-Err-clause-gives c = grind (arith, common_steps)

pub returns-in-Ok-None-clause-gives : goal.returns-in-Ok-None-clause-gives
returns-in-Ok-None-clause-gives c = grind (arith, common_steps)

pub returns-in-Ok-None-clause-held : goal.returns-in-Ok-None-clause-held
returns-in-Ok-None-clause-held c = omega arith

pub returns-in-Ok-Some-clause-held : goal.returns-in-Ok-Some-clause-held
returns-in-Ok-Some-clause-held c = omega arith
