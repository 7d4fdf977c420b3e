use Rattle.kc_evaluation.proofs.Common.{◌≡◌, find, drop, is_visible_member, valuation_tree, valuation_values}
use Rattle.kc_evaluation.proofs.choices.first_member.Given as goal

abbrev pub invariant-loop-s : goal.invariant-loop-s
invariant-loop-s l =
    find (is_visible_member (valuation_tree l.under) (valuation_values l.under)) (drop l.s-index l.members) ≡ find
    (is_visible_member (valuation_tree l.under) (valuation_values l.under)) l.members
