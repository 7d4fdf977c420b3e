use Rattle.kmin_explain_command.proofs.Common.{ap, tree_in, config_of, explain_job_view, question_view, symbols_in}
use Rattle.kmin_explain_command.proofs.TextEnds.{question_output}
use Rattle.kmin_explain_command.proofs.texts.output_by.Goals as goal

pub returns-in-Explain-clause-output : goal.returns-in-Explain-clause-output
returns-in-Explain-clause-output c =
    question_output c.args.job.now _ c.args.by.now c.explained_output.result (ap question_view c.in-Explain.is) (c.explained_output.ensures.output _)

pub returns-in-Missed-clause-output : goal.returns-in-Missed-clause-output
returns-in-Missed-clause-output c =
    question_output c.args.job.now _ c.args.by.now c.missed_output.result (ap question_view c.in-Missed.is)
    (c.missed_output.ensures.output (symbols_in (explain_job_view c.args.job.now) (tree_in (config_of c.args.by.now))))

pub returns-in-Check-clause-output : goal.returns-in-Check-clause-output
returns-in-Check-clause-output c =
    question_output c.args.job.now _ c.args.by.now c.unmet_output.result (ap question_view c.in-Check.is)
    (c.unmet_output.ensures.output (symbols_in (explain_job_view c.args.job.now) (tree_in (config_of c.args.by.now))))
