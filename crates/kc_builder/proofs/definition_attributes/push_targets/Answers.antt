use Rattle.kc_builder.proofs.Common.{sym, ◌∙◌, Select, Imply}
use Rattle.kc_builder.proofs.ItemSteps.{none_appended}
use Rattle.kc_builder.proofs.definition_attributes.push_targets.Goals as goal

pub returns-then-not-have_target-clause-selectors : goal.returns-then-not-have_target-clause-selectors
returns-then-not-have_target-clause-selectors c =
    none_appended c.args.own.names.now Select c.args.symbol c.args.selectors.now c.args.own.lines.now c.args.own.conditions.now
    (sym c.have_target.ensures ∙ c.if-not-have_target.true)

pub returns-then-not-have_target-clause-impliers : goal.returns-then-not-have_target-clause-impliers
returns-then-not-have_target-clause-impliers c =
    none_appended c.args.own.names.now Imply c.args.symbol c.args.impliers.now c.args.own.lines.now c.args.own.conditions.now
    (sym c.have_target.ensures ∙ c.if-not-have_target.true)
