use Rattle.kmin_messages.proofs.WholeTexts.{shown_whole}
use Rattle.kmin_messages.proofs.shown_text.plain_texts_are_shown_whole.Goals as goal

pub returns : goal.returns
returns c = shown_whole
