use Rattle.kmin_explain_command.proofs.Common.{ℕ, List, All, ◌<◌, length, sym, subst, tree_in, config_of}
use Rattle.kmin_explain.proofs.MarkedSymbols.{missed_below}
use Rattle.kmin_explain_command.proofs.TextForms.{missed_by_line, missed_with_causes, causes_of_missed}
use Rattle.kmin_explain_command.proofs.texts.plain_missed_text.Goals as goal

pub missed_by_cause-requires-clause-there : goal.missed_by_cause-requires-clause-there
missed_by_cause-requires-clause-there c =
    let config = config_of c.args.by.now in
    subst (λ (xs : List ℕ). All (λ s. s < length (tree_in config).symbols) xs) (sym c.requires.missed) (missed_below (tree_in config) config.users config.values)

pub returns-in-Lines : goal.returns-in-Lines
returns-in-Lines c = missed_by_line c.args.by.now c.lines_of_missed.result c.args.form c.in-Lines.is c.lines_of_missed.ensures

pub returns-in-Causes : goal.returns-in-Causes
returns-in-Causes c =
    missed_with_causes c.args.by.now c.missed_by_cause.result c.args.form c.in-Causes.is
    (causes_of_missed c.args.by.now c.missed_by_cause.result c.args.symbols.now c.requires.missed c.missed_by_cause.ensures)
