use Rattle.kmin_commands.proofs.commands.output_form.Goals as goal

pub returns : goal.returns
returns c = c.one_of.ensures _ c.option-format.ensures
