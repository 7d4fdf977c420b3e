use Rattle.std.proofs.Common.{sym, ◌∙◌}
use Rattle.kc_tokens.specs.declared.language.Language.TheVariants.{Strict}
use Rattle.kc_checks.proofs.Rounds.{none_counted}
use Rattle.kc_builder.proofs.group_parts.started.Goals as goal

pub returns-clause-choices : goal.returns-clause-choices
returns-clause-choices c =
    let read = c.requires.shown.read in (c.in_ok-checks.ensures Strict).counted read c.requires.shown.shows ∙ sym (none_counted read)
