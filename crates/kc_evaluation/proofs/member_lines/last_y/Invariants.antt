use Rattle.kc_evaluation.proofs.Common.{◌≡◌, None, drop, last_y, is_visible_member, valuation_tree, valuation_values}
use Rattle.kc_evaluation.proofs.member_lines.last_y.Given as goal

abbrev pub invariant-loop-i : goal.invariant-loop-i
invariant-loop-i l = last_y (is_visible_member (valuation_tree l.under) (valuation_values l.under)) (drop l.i l.lines) ≡ None
