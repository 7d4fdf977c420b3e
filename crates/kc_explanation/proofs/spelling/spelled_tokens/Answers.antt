use Rattle.kc_expr.specs.between.Arena.{node_expr}
use Rattle.kc_explanation.proofs.SpellingLemmas.{found_turned}
use Rattle.kc_explanation.proofs.spelling.spelled_tokens.Goals as goal

pub returns-clause-ok : goal.returns-clause-ok
returns-clause-ok c =
    found_turned c.args.arena.now (node_expr c.args.arena.now c.args.id) _ _ _ c.new-found.ensures.items c.in_ok-push_spelling.ensures.tokens c.reverse.ensures.items
