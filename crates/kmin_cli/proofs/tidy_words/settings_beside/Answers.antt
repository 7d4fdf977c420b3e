use Rattle.kmin_cli.proofs.tidy_words.settings_beside.Goals as goal

pub returns : goal.returns
returns c = rw (c.deref.ensures.value, c.in_ok-paths.ensures) at c.settings_of.ensures
