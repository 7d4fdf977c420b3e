use Rattle.kmin_outputs.proofs.Common.{ap, arith, common_steps, tree_of_settled, tree_in}
use Rattle.kmin_outputs.proofs.NamedLines.{compared_text}
use Rattle.kmin_outputs.proofs.verb_texts.compared.Goals as goal

pub returns-clause-text : goal.returns-clause-text
returns-clause-text c =
    compared_text c.args.form c.args.strings (tree_in c.args.left.now) (tree_of_settled c.settled.result.now) c.args.left.now.values c.args.right.now.values
    c.values.result.now
    c.values-2.result.now
    c.in_ok-found.found.items c.deref.result.now c.in_ok-text.text.items
    (ap tree_of_settled c.settled.ensures) c.values.ensures.values c.values-2.ensures.values c.deref.ensures.value c.in_ok-found.ensures.differences
    c.in_ok-text.ensures

pub returns-clause-status : goal.returns-clause-status
returns-clause-status c = grind (arith, common_steps)
