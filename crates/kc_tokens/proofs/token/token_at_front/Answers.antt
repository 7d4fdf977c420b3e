use Rattle.kc_tokens.proofs.Common.{arith, common_steps}
use Rattle.kc_tokens.proofs.token.token_at_front.Goals as goal

pub bounds-bytes-1 : goal.bounds-bytes-1
bounds-bytes-1 c = omega arith

pub returns-then-is_word-clause-reaches : goal.returns-then-is_word-clause-reaches
returns-then-is_word-clause-reaches c = grind (arith, common_steps)

pub returns-after-bytes-gt1-clause-reaches : goal.returns-after-bytes-gt1-clause-reaches
returns-after-bytes-gt1-clause-reaches c = grind (arith, common_steps)

pub returns-then-is_white-clause-reaches : goal.returns-then-is_white-clause-reaches
returns-then-is_white-clause-reaches c = grind (arith, common_steps)
