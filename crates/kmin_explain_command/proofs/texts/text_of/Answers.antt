use Rattle.kmin_explain_command.proofs.Common.{refl, rules, if_ok_map}
use Rattle.kmin_explain_command.proofs.TextEnds.{output_from}
use Rattle.kmin_explain_command.proofs.texts.text_of.Goals as goal

pub output_by-requires : goal.output_by-requires
output_by-requires c =
    record { read = record { read = rw c.requires.system c.requires.read; index = rw c.requires.system (rw c.tree.ensures.tree at c.in_ok-index.ensures.ok) } }

pub returns-clause-output : goal.returns-clause-output
returns-clause-output c =
    if_ok_map c.output_by.result _ _ (λ output h. λ read meanings are.
    output_from _ c.args.job.now c.args.tree.now c.args.found.now read meanings _ _ refl refl c.deref.ensures.value c.deref-2.ensures.value c.deref-3.ensures.value
    refl are (h read meanings)) c.output_by.ensures.output
