use Rattle.kmin_explain_command.proofs.Common.{ap, ◌∙◌, TreeModel, tree_model_of, explain_job_view, symbols_in}
use Rattle.kmin_explain_command.proofs.TextEnds.{both_output}
use Rattle.kmin_explain_command.proofs.texts.explained_output.Goals as goal

pub returns-clause-output : goal.returns-clause-output
returns-clause-output c = λ names.
    both_output c.args.job.now.settings.output_form c.args.flags names c.args.by.now c.named_output.result _ _
    (c.deref.ensures.value ∙ c.in_ok-symbols.ensures.symbols
    ∙ ap (λ (t : TreeModel). symbols_in (explain_job_view c.args.job.now) t.tree) (c.tree.ensures.tree ∙ ap tree_model_of c.settled.ensures)) c.named_output.ensures.text
    c.named_output.ensures.status
