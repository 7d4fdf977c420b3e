use Rattle.kmin_explain_command.proofs.TextForms.{plain_missed, missed_as_json}
use Rattle.kmin_explain_command.proofs.texts.missed_text.Goals as goal

pub returns-in-Plain : goal.returns-in-Plain
returns-in-Plain c =
    plain_missed c.args.by.now c.plain_missed_text.result c.args.output_form c.args.form c.in-Plain.is c.plain_missed_text.ensures

pub returns-in-Json : goal.returns-in-Json
returns-in-Json c =
    missed_as_json c.args.by.now c.records_of_missed.result c.args.output_form c.args.form c.in-Json.is c.records_of_missed.ensures
