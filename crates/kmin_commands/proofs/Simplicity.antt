-- The program is one of which the parser's matches are known.
use Rattle.std.proofs.Common.{◌≡◌, true, refl}
use Rattle.clap.specs.Words.{App, is_simple}
use Rattle.clap.proofs.OnLiterals.{clap_on_literals}
use Rattle.kmin_commands.specs.declared.commands.Choices.{Choices}
use Rattle.kmin_commands.specs.Declarations.{IsProgram, program}

of_choices : (choices : Choices) → is_simple (program choices) ≡ true
unfolding clap_on_literals
of_choices choices = refl

-- the program has no setting that changes how words are read
pub program_is_simple : (app : App) → IsProgram app → is_simple app ≡ true
program_is_simple app is = rw is.2 (of_choices is.0)
