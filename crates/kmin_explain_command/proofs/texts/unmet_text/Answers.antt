use Rattle.kmin_explain_command.proofs.Common.{ℕ, ◌<◌, List, All, length, subst, sym, tree_in, config_of}
use Rattle.kmin_explain.proofs.MarkedSymbols.{unmet_below}
use Rattle.kmin_explain_command.proofs.TextForms.{plain_unmet, unmet_as_json, rows_of_unmet, records_of_unmet}
use Rattle.kmin_explain_command.proofs.texts.unmet_text.Goals as goal

pub lines_of_unmet-requires-clause-there : goal.lines_of_unmet-requires-clause-there
lines_of_unmet-requires-clause-there c =
    let config = config_of c.args.by.now in
    subst (λ (xs : List ℕ). All (λ s. s < length (tree_in config).symbols) xs) (sym c.requires.unmet) (unmet_below (tree_in config) config.values)

pub records_of-requires-clause-there : goal.records_of-requires-clause-there
records_of-requires-clause-there c =
    let config = config_of c.args.by.now in
    subst (λ (xs : List ℕ). All (λ s. s < length (tree_in config).symbols) xs) (sym c.requires.unmet) (unmet_below (tree_in config) config.values)

pub returns-in-Plain : goal.returns-in-Plain
returns-in-Plain c =
    plain_unmet c.args.by.now c.lines_of_unmet.result c.args.output_form c.in-Plain.is
    (rows_of_unmet c.args.by.now c.lines_of_unmet.result c.args.symbols.now c.requires.unmet c.lines_of_unmet.ensures)

pub returns-in-Json : goal.returns-in-Json
returns-in-Json c =
    unmet_as_json c.args.by.now c.records_of.result c.args.output_form c.in-Json.is
    (records_of_unmet c.args.by.now c.records_of.result c.args.symbols.now c.requires.unmet c.records_of.ensures)
