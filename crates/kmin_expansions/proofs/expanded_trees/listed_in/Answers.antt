use Rattle.kmin_expansions.proofs.ListedQuestions.{listed_open, listed_unused}
use Rattle.kmin_report.proofs.Results.{if_ok_map}
use Rattle.kmin_expansions.proofs.expanded_trees.listed_in.Goals as goal

pub returns-then-questions-clause-listed : goal.returns-then-questions-clause-listed
returns-then-questions-clause-listed g c =
    if_ok_map c.unused.result _ _ (λ listed rest. λ recorded are.
    listed_unused _ _ _ _ _ recorded _ _ _ c.as_bytes-first.ensures.value _ c.if-questions.true are rest) c.unused.ensures.unused

pub returns-else-questions-clause-listed : goal.returns-else-questions-clause-listed
returns-else-questions-clause-listed g c =
    if_ok_map c.wants.result _ _ (λ listed asked. λ recorded are.
    listed_open _ _ _ _ _ recorded _ _ _ c.as_bytes-first.ensures.value c.if-questions.false asked) c.wants.ensures.wanted
