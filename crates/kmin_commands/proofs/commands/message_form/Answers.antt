use Rattle.kmin_commands.proofs.commands.message_form.Goals as goal

pub returns : goal.returns
returns c = c.one_of.ensures _ c.option-messages.ensures
