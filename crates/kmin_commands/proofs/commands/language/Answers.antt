use Rattle.kmin_commands.proofs.commands.language.Goals as goal

pub returns : goal.returns
returns c = c.one_of.ensures _ c.valued-language.ensures
