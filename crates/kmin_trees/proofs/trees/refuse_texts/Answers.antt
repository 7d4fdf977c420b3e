use Rattle.kmin_trees.proofs.Common.{[], refl, rules, none, at_texts, for_memory, lines_one}
use Rattle.kmin_trees.specs.Stops.{faulty}
use Rattle.kmin_trees.proofs.trees.refuse_texts.Goals as goal

pub returns-then-eq-clause-stopped : goal.returns-then-eq-clause-stopped
returns-then-eq-clause-stopped g c = ([], for_memory refl refl, none)

pub returns-clause-stopped : goal.returns-clause-stopped
returns-clause-stopped g c =
    (_, at_texts _ (faulty c.args.fault (c.requires.reported (search rules)) refl) refl refl, lines_one _ _ _ _ _ c.report_tree_fault.ensures)
