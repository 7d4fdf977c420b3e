use Rattle.kc_minimal.proofs.Common.{refl, tree_of_settled}
use Rattle.kc_minimal.proofs.ChoiceGroups.{line_of_choice}
use Rattle.kc_minimal.proofs.choice_places.line_of_group.Goals as goal

pub returns-in-Choice : goal.returns-in-Choice
returns-in-Choice c = record {
  value = line_of_choice (tree_of_settled c.args.settled.now) c.args.values.now c.args.u c.in-Choice.c c.args.lines.now c.other_line.result
      (rw c.tree-2.ensures.tree at c.in-Choice.ensures.unit) (rw c.tree-2.ensures.tree at c.in-Choice.ensures.choice c.in-Choice.c refl)
      c.other_line.ensures.value;
}
