-- Commands as they are declared: what a parser reads of each, and that no argument is global.
use Rattle.std.specs.Prelude.{◌≡◌, true, false}
use Rattle.clap.specs.Words.{App, Rule, Shape, app_of, rule_of, shape_of}
use Rattle.clap.specs.declared.builder.arg.Arg.{Arg}
use Rattle.clap.specs.declared.builder.command.Command.{Command}
use Rattle.clap.specs.declared.builder.command.Command.TheViews.{out-Command as fields_of}
use Rattle.kmin_commands.specs.Declarations.{IsProgram}

-- the argument is read by this rule, and isn't global: it belongs to its own command, and not also to the commands below that one
abbrev pub IsReadBy : Rule → Arg → Type 0
IsReadBy rule argument = (argument.global ≡ false) × (rule_of argument ≡ rule)

-- neither the command nor one below it has a global argument
abbrev pub HasLocalArguments : Command → Type 0
HasLocalArguments command = (fields_of command).has_globals ≡ false

-- the command has this shape: its name, settings and arguments
abbrev pub IsDeclared : Shape → Command → Type 0
IsDeclared shape command = HasLocalArguments command × (shape_of command ≡ shape)

-- the command and those below it have these shapes
abbrev pub HasApp : App → Command → Type 0
HasApp app command = HasLocalArguments command × (app_of command ≡ app)

-- the command has no global arguments, and words are refused that don't name a command below it
abbrev pub IsCommandRequired : Command → Type 0
IsCommandRequired command = HasLocalArguments command × ((fields_of command).subcommand_required ≡ true)

-- the command and those below it are those of the program
abbrev pub HasDeclaredCommands : Command → Type 0
HasDeclaredCommands command = IsProgram (app_of command)
