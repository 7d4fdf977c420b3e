use Rattle.kc_evaluation.proofs.Common.{◌≡◌, drop, is_visible_member, valuation_tree, valuation_values}
use Rattle.kc_rules_model.specs.MemberLines.{first_listed}
use Rattle.kc_evaluation.proofs.member_lines.first_listed.Given as goal

abbrev pub invariant-loop-line : goal.invariant-loop-line
invariant-loop-line l =
    first_listed (is_visible_member (valuation_tree l.under) (valuation_values l.under)) (drop l.line-index l.lines)
    ≡ first_listed (is_visible_member (valuation_tree l.under) (valuation_values l.under)) l.lines
