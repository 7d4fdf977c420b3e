use Rattle.kmin_outputs.proofs.JobOutputs.{canonical_text}
use Rattle.kmin_outputs.proofs.verb_texts.output_of_verb.Goals as goal

pub returns-in-Min-clause-text : goal.returns-in-Min-clause-text
returns-in-Min-clause-text c =
    canonical_text _ _ _ _ _ c.args.verb c.minimal_text.result c.file_output.result c.in-Min.is c.minimal_text.ensures.canonical c.file_output.ensures.text

pub returns-in-Min-clause-status : goal.returns-in-Min-clause-status
returns-in-Min-clause-status c = rw c.in-Min.is c.file_output.ensures.status

pub returns-in-Missed-clause-status : goal.returns-in-Missed-clause-status
returns-in-Missed-clause-status c = rw c.in-Missed.is c.missed_output.ensures.status

pub returns-in-Check-clause-status : goal.returns-in-Check-clause-status
returns-in-Check-clause-status c = rw c.in-Check.is c.unmet_output.ensures.status
