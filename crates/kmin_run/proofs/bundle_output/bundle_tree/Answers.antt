use Rattle.kmin_run.proofs.Common.{subst, ◌∙◌, ap, codes, List, [], refl, IfOk, IfErr, arith, common_steps, tree_of_settled, AreAccepted, TakesLines, none, status_of, ErrorLine, StopsAtTexts, for_memory, memory_err}
use Rattle.kc_tree_model.specs.TreeFiles.{Files, with_file}
use Rattle.kmin_trees.specs.between.FileNames.{texts_of}
use Rattle.kmin_run.proofs.bundle_output.bundle_tree.Goals as goal

pub returns-clause-accepted : goal.returns-clause-accepted
returns-clause-accepted g c =
    let texts = c.of_texts-names.ensures.texts ∙ c.in_ok-insert.ensures.ok ∙ ap (λ (fs : Files). with_file fs (codes "Kconfig") c.args.tree.now) c.with_seed-texts.ensures in
    subst (λ (fs : Files). IfOk c.settled_tree.result (λ settled. AreAccepted fs (codes "Kconfig") (tree_of_settled settled))) texts
    c.settled_tree.ensures.accepted

pub returns-clause-stopped : goal.returns-clause-stopped
returns-clause-stopped g c =
    let texts = c.in_ok-insert.ensures.ok ∙ ap (λ (fs : Files). with_file fs (codes "Kconfig") c.args.tree.now) c.with_seed-texts.ensures in
    let stops = λ (fs : Files) (names : Files). IfErr c.settled_tree.result (λ stop. (lines : List ErrorLine)
    × StopsAtTexts fs names (codes "Kconfig") (status_of stop) lines × TakesLines
    (g.E.Messages.taken c.args.err.now) (g.E.Messages.failures c.args.err.now) lines (g.E.Messages.taken c.settled_tree.new.err)
    (g.E.Messages.failures c.settled_tree.new.err)) in
    subst (λ (fs : Files). stops fs fs) texts
    (subst (λ (fs : Files). stops fs c.insert.new.self) c.of_texts-names.ensures.texts
    (subst (λ (names : Files). stops (texts_of c.of_texts-names.result) names) c.of_texts-names.ensures.names c.settled_tree.ensures.stopped))

pub returns-in_err-insert-clause-stopped : goal.returns-in_err-insert-clause-stopped
returns-in_err-insert-clause-stopped g c = memory_err _ _ c.from_residual.ensures (λ stop status. ([], for_memory status refl, none))

pub settled_tree-requires : goal.settled_tree-requires
settled_tree-requires g c = rw c.of_texts-names.ensures.texts (grind (arith, common_steps))
