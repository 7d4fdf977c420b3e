use Rattle.std.proofs.Common.{◌∙◌}
use Rattle.kmin_commands.proofs.SameWords.{flags_is}
use Rattle.kmin_commands.proofs.option_words.is_flag.Goals as goal

pub returns-clause-declared : goal.returns-clause-declared
returns-clause-declared c = λ app is. c.is_among.ensures ∙ flags_is app c.args.word.now is
