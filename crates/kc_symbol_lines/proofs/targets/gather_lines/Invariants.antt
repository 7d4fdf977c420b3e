use Rattle.kc_symbol_lines.proofs.Common.{◌≡◌, List, Group, groups_in_context, names_defined, read_before, HasLines, tree_of_groups}
use Rattle.kc_symbol_lines.proofs.TargetLaws.{AreGatheredOf}
use Rattle.kc_symbol_lines.proofs.targets.gather_lines.Given as goal

abbrev pub invariant-loop-i : goal.invariant-loop-i
invariant-loop-i l =
    (read : List Group) → l.tree.tree ≡ tree_of_groups l.tree.tree.language read → HasLines l.tree.exprs l.lines read
    → AreGatheredOf (names_defined read) (groups_in_context (read_before l.i read)) l.found
