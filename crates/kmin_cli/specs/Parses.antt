-- What the words of the command line are parsed as.
use Rattle.std.specs.Prelude.{◌≡◌, ◌≢◌, ℕ, Bool, false, true, ◌&&◌, List, [], Some}
use Rattle.clap.specs.Words.{App, rows_of, subcommand_of, takes}
use Rattle.clap.specs.declared.parser.matches.Found.{Found}
use Rattle.kmin_commands.specs.Declarations.{IsProgram}
use Rattle.kmin_commands.specs.Messages.{kind_asked}
use Rattle.kmin_commands.specs.declared.messages.Table.{Table}
use Rattle.kmin_cli.specs.declared.command_line.ParsedWords.{ParsedWords}
use Rattle.kmin_cli.specs.declared.command_line.ParsedWords.TheVariants.{Help, Refused}
use Rattle.kmin_cli.specs.WordOrder.{command_first}
use Rattle.kmin_cli.specs.Inputs.{named_twice, reads_input}
use Rattle.kmin_cli.specs.between.WordValues.{HasValues}

-- The words name this command of the program, and these are the values of its options and files in them.
abbrev pub AreFound : (words : List (List ℕ)) → (name : List ℕ) → Found → Type 0
AreFound words name found = (app : App) × IsProgram app × (subcommand_of app words ≡ Some (name, rows_of found))

-- the words aren't those of a command whose arguments have no rule on one another: they are malformed, or ask for help, or name a
-- command that has such rules
abbrev pub AreNotTaken : (words : List (List ℕ)) → Type 0
AreNotTaken words = (app : App) × IsProgram app × (takes app words ≡ false)

-- parsed words are a help, or a message that refuses the words
abbrev pub IsText : ParsedWords → Type 0
IsText (Help text) = Unit {0}
IsText (Refused text) = Unit {0}
IsText parsed = ⊥

-- parsed words are the help on the kind of message that the words name, by the rows of these tables
abbrev pub IsKindHelp : (words : List (List ℕ)) → List Table → ParsedWords → Type 0
IsKindHelp words tables (Help text) = (text.bytes.items ≡ kind_asked words tables) × (text.bytes.items ≢ [])
IsKindHelp words tables parsed = ⊥

-- Words are parsed as the command that they name, with the values that they give, or as the message with which one of these is
-- refused; as the help on a kind of message; or as another help or message, if they aren't taken.
pub data AreParsedAs (words : List (List ℕ)) (parsed : ParsedWords) : Type 0 where
  command : (name : List ℕ) (found : Found) → AreFound words name found → HasValues name found parsed → AreParsedAs words parsed
  kind : (tables : List Table) → IsKindHelp words tables parsed → AreParsedAs words parsed
  text : AreNotTaken words → IsText parsed → AreParsedAs words parsed

-- parsed words are the message with which standard input that is named twice is refused
abbrev pub IsNamedTwice : ParsedWords → Type 0
IsNamedTwice (Refused message) = message.bytes.items ≡ named_twice
IsNamedTwice parsed = ⊥

-- Words are parsed; but where standard input was read for some of them, they are refused if they read it once more.
pub data AreParsedBeside (is_input_read : Bool) (words : List (List ℕ)) (parsed : ParsedWords) : Type 0 where
  once : AreParsedAs words parsed → (is_input_read && reads_input parsed) ≡ false → AreParsedBeside is_input_read words parsed
  twice : (first : ParsedWords) → AreParsedAs words first → (is_input_read && reads_input first) ≡ true → IsNamedTwice parsed
      → AreParsedBeside is_input_read words parsed

-- The words of the command line are read as what they are parsed as once the command is first.
abbrev pub AreReadAs : (is_input_read : Bool) → (words : List (List ℕ)) → ParsedWords → Type 0
AreReadAs is_input_read words parsed = AreParsedBeside is_input_read (command_first words) parsed
