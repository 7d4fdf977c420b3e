use Rattle.std.proofs.Common.{◌∙◌}
use Rattle.kmin_commands.proofs.SameWords.{valued_is}
use Rattle.kmin_commands.proofs.option_words.takes_next.Goals as goal

pub returns-clause-declared : goal.returns-clause-declared
returns-clause-declared c = λ app is. c.is_among.ensures ∙ valued_is app c.args.word.now is
