use Rattle.kmin_trees.proofs.Common.{Files, status_of, texts_of, StopsAtTexts, subst}
use Rattle.kmin_trees.specs.between.FileNames.{texts_named}
use Rattle.kmin_trees.proofs.job_trees.settled_texts.Goals as goal

pub returns-in-Err-clause-stopped : goal.returns-in-Err-clause-stopped
returns-in-Err-clause-stopped g c =
    let stopped = c.in-Err.ensures.stopped in (
      stopped.0,
      subst (λ (texts : Files). StopsAtTexts texts (texts_named c.args.expanded c.args.texts) c.args.first.now (status_of c.in-Err.stop) stopped.0)
          c.of_tree-names.ensures.texts
          (subst (λ (names : Files). StopsAtTexts (texts_of c.of_tree-names.result) names c.args.first.now (status_of c.in-Err.stop) stopped.0)
          c.of_tree-names.ensures.names stopped.1),
      stopped.2,
    )
