use Rattle.kmin_commands.proofs.commands.imply.Goals as goal

pub returns : goal.returns
returns c = c.one_of.ensures _ c.option-imply.ensures
