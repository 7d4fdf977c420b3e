use Rattle.kc_expr.proofs.Common.{Some, ◌+◌, ap, ◌∙◌, arith, Word}
use Rattle.kc_expr.proofs.LeafLemmas.{operand_at, nothing_at}
use Rattle.kc_expr.proofs.TokenPlaces.{kind_at}
use Rattle.kc_expr.proofs.parse.last_word.Goals as goal

pub returns-in-Word-clause-kind : goal.returns-in-Word-clause-kind
returns-in-Word-clause-kind c = kind_at c.args.tokens.now c.args.at _ (omega arith) ∙ ap Some c.in-Word.is

pub returns-in-Word-clause-operand : goal.returns-in-Word-clause-operand
returns-in-Word-clause-operand c = operand_at c.args.tokens.now c.args.at _ Word (omega arith) c.in-Word.is

pub returns-in-Word-clause-last : goal.returns-in-Word-clause-last
returns-in-Word-clause-last c = nothing_at c.args.tokens.now (c.args.at + 1) (omega arith)
