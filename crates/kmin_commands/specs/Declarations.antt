-- The commands and their options, as a parser of words reads them.
use Rattle.std.specs.Prelude.{◌≡◌, ℕ, true, false, List, [], ◌∷◌, ◌++◌, Some, map, codes}
use Rattle.std.specs.List.{fold}
use Rattle.std.specs.Borrow.{Bor}
use Rattle.clap.specs.Lexer.{usize_max}
use Rattle.clap.specs.Words.{App, Rule, Shape, Text, new_app, new_rule, with_subcommand}
use Rattle.clap.specs.Simple.{new_shape, on_top}
use Rattle.clap.specs.declared.builder.action.ArgAction.TheVariants.{Append, SetTrue}
use Rattle.clap.specs.declared.builder.value_parser.ValueParser.TheVariants.{Names}
use Rattle.kmin_commands.specs.declared.commands.Choices.{Choices}

-- an option without a value: `--NAME`
abbrev pub flag : Text → Rule
flag name = record (new_rule name) { long = Some name; action = Some SetTrue }

-- an option with a value and no default: `--NAME VALUE`
abbrev pub valued : Text → Rule
valued name = record (new_rule name) { long = Some name; value_names = 1 }

-- an option with a value and a default
abbrev pub option : (name default : Text) → Rule
option name default = record (valued name) { defaults = default ∷ [] }

-- an option with a value, which may be given again
abbrev pub repeated : Text → Rule
repeated name = record (valued name) { action = Some Append }

-- an option whose value is one of these words
abbrev pub one_of : Rule → (words : Bor (List (Bor (List ℕ)))) → Rule
one_of rule words = record rule { parser = Some (Names words) }

-- an argument of any number of words
abbrev pub any_number : Text → Rule
any_number name = record (new_rule name) { action = Some Append; range = Some (record { start_inclusive = 0; end_inclusive = usize_max }) }

-- an argument of one word
abbrev pub one_word : Text → Rule
one_word name = new_rule name

-- an argument of one word, which can't be left out
abbrev pub required : Text → Rule
required name = record (new_rule name) { required = true }

-- an argument that is refused without another, or beside another
abbrev pub linked : Rule → Rule
linked rule = record rule { is_free = false }

-- the options for the place of the tree
abbrev pub place : List Rule
place = option (codes "root") (codes ".") ∷ option (codes "tree") (codes "Kconfig") ∷ []

-- the options that turn the expansion of macros on
abbrev pub answers : List Rule
answers = flag (codes "expand") ∷ repeated (codes "answers") ∷ repeated (codes "define") ∷ repeated (codes "env") ∷ []

-- the option for the form of messages
abbrev pub message_form : Choices → Rule
message_form choices = one_of (option (codes "messages") (codes "plain")) choices.messages

-- the option for the form of what is listed
abbrev pub output_form : Choices → Rule
output_form choices = one_of (option (codes "format") (codes "plain")) choices.outputs

-- the options that all commands over configuration files share
abbrev pub shared : Choices → List Rule
shared choices = place ++ (one_of (valued (codes "language")) choices.languages ∷ option (codes "prefix") (codes "CONFIG_")
    ∷ flag (codes "no-prefix") ∷ one_of (option (codes "strings") (codes "escaped")) choices.forms ∷ one_of (option (codes "imply") (codes "present")) choices.profiles
    ∷ flag (codes "strict") ∷ (answers ++ message_form choices ∷ []))

-- the option for the output file: `--output FILE` or `-o FILE`
abbrev pub output : Rule
output = record (valued (codes "output")) { short = Some 111 }

-- the option for the end of each path of a list: `-z`
abbrev pub nul : Rule
nul = record (new_rule (codes "z")) { short = Some 122; action = Some SetTrue }

-- the flags of `tidy`
abbrev pub tidy_flags : List Rule
tidy_flags = flag (codes "write") ∷ linked (flag (codes "drop")) ∷ []

-- a command with one argument more
abbrev pub added : Shape → Rule → Shape
added shape rule = record shape { rules = shape.rules ++ rule ∷ [] }

-- the command with this name and these arguments
abbrev pub command : (name : Text) → List Rule → Shape
command name rules = fold added (new_shape name) rules

-- each command, with its options and files
abbrev pub min : Choices → Shape
min choices = command (codes "min") (shared choices ++ output ∷ linked (flag (codes "drop")) ∷ any_number (codes "FILE") ∷ [])

abbrev pub full : Choices → Shape
full choices = command (codes "full") (shared choices ++ output ∷ any_number (codes "FILE") ∷ [])

abbrev pub listing : (name : Text) → Choices → Shape
listing name choices = command name (shared choices ++ any_number (codes "FILE") ∷ flag (codes "exit-code") ∷ flag (codes "long") ∷ output_form choices ∷ [])

abbrev pub missed : Choices → Shape
missed choices = added (listing (codes "missed") choices) (flag (codes "by-cause"))

-- the flags of `explain`
abbrev pub explain_flags : List Rule
explain_flags = flag (codes "every") ∷ flag (codes "deep") ∷ flag (codes "all") ∷ flag (codes "exit-code") ∷ []

abbrev pub explain : Choices → Shape
explain choices = command (codes "explain") (shared choices ++ (explain_flags ++ output_form choices ∷ linked (one_word (codes "NAME")) ∷ any_number (codes "FILE") ∷ []))

abbrev pub compare : Choices → Shape
compare choices = command (codes "compare") (shared choices ++ output_form choices ∷ required (codes "LEFT") ∷ required (codes "RIGHT") ∷ [])

abbrev pub tidy : Choices → Shape
tidy choices = command (codes "tidy") (shared choices
    ++ (tidy_flags ++ output_form choices ∷ valued (codes "from") ∷ linked nul ∷ linked (any_number (codes "FILE")) ∷ []))

abbrev pub wants : Choices → Shape
wants choices = command (codes "wants") (place ++ (answers ++ message_form choices ∷ flag (codes "unused") ∷ []))

-- a program that prints its version
abbrev pub with_version : App → App
with_version = on_top (λ shape. record shape { has_version = true })

-- the program without its commands: each word counts, the first too, and words are refused that don't name a command
abbrev pub named : App
named = with_version (on_top (λ shape. record shape { no_binary_name = true; subcommand_required = true }) (new_app (codes "kmin")))

-- the program with its commands
abbrev pub program : Choices → App
program choices = fold with_subcommand named
    (min choices ∷ full choices ∷ missed choices ∷ listing (codes "check") choices ∷ explain choices ∷ compare choices ∷ tidy choices ∷ wants choices ∷ [])

-- the texts of a list of words
abbrev pub texts_in : Bor (List (Bor (List ℕ))) → List (List ℕ)
texts_in words = map (λ (word : Bor (List ℕ)). word.now) words.now

-- these are the words of the options that take one of a few
pub record AreChoices (choices : Choices) : Type 0 where
  pub languages : texts_in choices.languages ≡ codes "strict" ∷ codes "linux" ∷ codes "linux-6.1" ∷ codes "linux-6.12" ∷ []
  pub forms : texts_in choices.forms ≡ codes "escaped" ∷ codes "raw" ∷ []
  pub profiles : texts_in choices.profiles ≡ codes "present" ∷ codes "classic" ∷ []
  pub messages : texts_in choices.messages ≡ codes "plain" ∷ codes "long" ∷ codes "json" ∷ []
  pub outputs : texts_in choices.outputs ≡ codes "plain" ∷ codes "json" ∷ []

-- the program with its commands is declared so
abbrev pub IsProgram : App → Type 0
IsProgram app = (choices : Choices) × AreChoices choices × (app ≡ program choices)
