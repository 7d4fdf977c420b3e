use Rattle.kc_evaluation.proofs.Common.{◌≡◌, find, drop, valuation_tree, valuation_values}
use Rattle.kc_evaluation.specs.checker.Choices.{is_free}
use Rattle.kc_evaluation.proofs.member_lines.first_without_number.Given as goal

abbrev pub invariant-loop-s : goal.invariant-loop-s
invariant-loop-s l =
    find (is_free (valuation_tree l.under) (valuation_values l.under) l.numbers) (drop l.s-index l.members)
    ≡ find (is_free (valuation_tree l.under) (valuation_values l.under) l.numbers) l.members
