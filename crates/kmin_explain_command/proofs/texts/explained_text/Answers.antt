use Rattle.kmin_explain_command.proofs.TextForms.{plain_explained, explained_as_json}
use Rattle.kmin_explain_command.proofs.texts.explained_text.Goals as goal

pub returns-in-Plain : goal.returns-in-Plain
returns-in-Plain c =
    plain_explained c.args.by.now c.explanation_of.result c.args.form c.args.all c.args.symbols.now c.in-Plain.is c.explanation_of.ensures

pub returns-in-Json : goal.returns-in-Json
returns-in-Json c =
    explained_as_json c.args.by.now c.records_of.result c.args.form c.args.all c.args.symbols.now c.in-Json.is c.records_of.ensures
