use Rattle.kc_evaluation.proofs.Common.{◌==◌, ap, ◌∙◌, list_any}
use Rattle.kc_evaluation.proofs.AssignedMembers.{has_is}
use Rattle.kc_evaluation.proofs.member_lines.has_number.Goals as goal

pub returns : goal.returns
returns c = record {
  value = c.is_ok.ensures.value ∙ has_is c.args.numbers.now c.number.result c.binary_search.result c.requires.sorted c.binary_search.ensures.position
      ∙ ap (λ s. list_any (λ m. m == s) c.args.numbers.now) c.number.ensures;
}
