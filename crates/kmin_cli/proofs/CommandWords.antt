-- What a parse of the program's words gives.
use Rattle.std.proofs.Common.{◌≡◌, ℕ, Bool, true, false, List, option_map, unwrap_or, Option, Some, None, Result, Ok, Err, IfOk, refl, sym, ap, ap₂, ◌∙◌}
use Rattle.std.specs.Borrow.{Bor}
use Rattle.std.specs.Prelude.{String}
use Rattle.std.specs.declared.alloc.Global.{Global}
use Rattle.clap.specs.Words.{App, HasMatchesOf, is_simple, rows_of, subcommand_rows_of, takes}
use Rattle.clap.specs.declared.parser.matches.ArgMatches.{ArgMatches}
use Rattle.clap.specs.declared.parser.matches.Found.{Found}
use Rattle.kmin_commands.specs.Declarations.{IsProgram}
use Rattle.kmin_options.specs.declared.refusal.Refusal.{Refusal}
use Rattle.kmin_options.specs.declared.refusal.Refusal.TheVariants.{Words}
use Rattle.kmin_cli.specs.declared.command_line.ParsedWords.{ParsedWords}
use Rattle.kmin_cli.specs.declared.command_line.ParsedWords.TheVariants.{Refused}
use Rattle.kmin_cli.specs.between.WordValues.{Gives, HasValues}
use Rattle.kmin_cli.specs.Parses.{AreParsedAs, IsText, command, text}

-- a value of two parts that are known is known
pub both_parts : {X Y Z : Type 0} (f : X → Y × Z) (o : Option X) (y : Y) (z : Z) → option_map (λ x. (f x).0) o ≡ Some y
    → option_map (λ (p : Y × Z). p.1) (option_map f o) ≡ Some z → option_map f o ≡ Some (y, z)
both_parts f None y z first second = cc
both_parts f (Some x) y z first second =
    ap₂ (λ y z. Some (y, z)) (ap (λ o. unwrap_or o y) first) (ap (λ o. unwrap_or o z) second)

-- values that are found for the command that the words name are those of the words
pub of_command : {E : Type 0} (words : List (List ℕ)) (app : App) (m : ArgMatches) (name : List ℕ) (found : Found) (result : Result ParsedWords E)
    → IsProgram app → is_simple app ≡ true → HasMatchesOf app words m → subcommand_rows_of m ≡ Some (name, rows_of found)
    → IfOk result (HasValues name found) → IfOk result (AreParsedAs words)
of_command words app m name found (Ok parsed) is simple has rows values = command name found (app, is, sym (has simple).1 ∙ rows) values
of_command words app m name found (Err e) is simple has rows values = tt

not_true : (b : Bool) → (b ≡ true → ⊥) → b ≡ false
not_true true never = absurd (never refl)
not_true false never = refl

-- a text that the parser gives in place of a command is for words that aren't taken
pub of_text : {E : Type 0} (words : List (List ℕ)) (app : App) (P : Type 0) (result : Result ParsedWords E) → IsProgram app
    → (takes app words ≡ true → P) → IfOk result IsText → IfOk result (λ parsed. P → ⊥) → IfOk result (AreParsedAs words)
of_text words app P (Ok parsed) is memory given other = text (app, is, not_true _ (λ e. other (memory e))) given
of_text words app P (Err e) is memory given other = tt

-- the message of a refusal has the property that it is given
pub of_refusal : (P : ParsedWords → Type 0) (result : Result ParsedWords Refusal) (line : Bor (List ℕ)) (message : String Global)
    → result ≡ Err (Words line) → message.bytes.items ≡ line.now → Gives P result → P (Refused message)
of_refusal P result line message is same given = (rw is at given) message same
