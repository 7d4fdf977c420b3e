-- The results of reading the tokens of a line.
use Rattle.std.specs.Prelude.{◌≡◌, ◌⊎◌, ℕ, Bool, true, false, List, [], ◌∷◌, Option, Some, None, Result, Ok, Err}
use Rattle.kc_tokens.specs.Token.{Lexeme}
use Rattle.kc_tree_model.specs.declared.fault.TreeKind.{TreeKind}
use Rattle.kc_tree_model.specs.declared.fault.TreeKind.TheVariants.{OutOfMemory}
use Rattle.kc_tree_model.specs.declared.keyword.Keyword.{Keyword}
use Rattle.kc_tree_model.specs.LogicalLines.{is_help_word}
use Rattle.kc_tree_model.specs.Statements.{Statement}
use Rattle.kc_tree_model.specs.declared.statement.Head.TheVariants.{Source as source}
use Rattle.kc_tree_model.specs.declared.statement.Statement.TheVariants.{Head as head}
use Rattle.kc_tree_model.specs.Blocks.{Group}
use Rattle.kc_tree_model.specs.Limits.{FileSource}
use Rattle.kc_tree_model.specs.TreeReading.{with_statement, path_to_read}
use Rattle.kc_parser.specs.between.ListingView.{RepresentsListing}
use Rattle.kc_parser.specs.checker.StateViews.{Describes, at_line}
use Rattle.kc_parser.specs.checker.Steps.{limits}
use Rattle.kc_parser.specs.declared.state.ReaderState.{ReaderState}
use Rattle.kc_parser.specs.declared.state.Step.{Step}
use Rattle.kc_parser.specs.declared.state.Step.TheVariants.{Next, Help, Source}

-- the result of appending a statement that isn't a `source`: no path to read, or the fault
abbrev pub no_path : Result (Unit {0}) TreeKind → Result (Option (List ℕ)) TreeKind
no_path (Ok u) = Ok None
no_path (Err k) = Err k

-- the result of a call that appends a statement: it was appended; or it is a `source`, which isn't appended yet and
-- whose path is returned; or it passes a limit; or memory ran out
abbrev pub AppendsStatement : FileSource → ℕ → ℕ → List Group → Statement → ReaderState → Result (Option (List ℕ)) TreeKind → Type 0
AppendsStatement r file line before s new (Ok None) = (limits before s ≡ None) × (path_to_read (Some s) ≡ None) × Describes r new (with_statement (at_line file line) (Some s) before)
AppendsStatement r file line before s new (Ok (Some path)) = (limits before s ≡ None) × (s ≡ head (source path)) × Describes r new before
AppendsStatement r file line before s new (Err k) = (k ≡ OutOfMemory) ⊎ ((limits before s ≡ Some k) × RepresentsListing new.listing before)

-- whether a line, by its keyword and the tokens after it, is `help` alone, which begins a help text
abbrev pub begins_with : Keyword → List Lexeme → Bool
begins_with k [] = is_help_word (Some k)
begins_with k (t ∷ ts) = false

-- the statement of a line, if it has one, isn't a `source` and was appended to those read; `help`: whether a help text follows it
pub record IsGiven (r : FileSource) (file line : ℕ) (given : Result (Option Statement) TreeKind) (begins : Bool) (before : List Group) (help : Bool) (new : ReaderState) : Type 0 where
  pub statement : Option Statement
  pub gives : given ≡ Ok statement
  pub without_path : path_to_read statement ≡ None
  pub follows : begins ≡ help
  pub describes : Describes r new (with_statement (at_line file line) statement before)

-- the statement of a line is a `source` of this path, and isn't appended yet to the statements read
pub record IsSourceGiven (r : FileSource) (given : Result (Option Statement) TreeKind) (begins : Bool) (path : List ℕ) (before : List Group) (new : ReaderState) : Type 0 where
  pub gives : given ≡ Ok (Some (head (source path)))
  pub follows : begins ≡ false
  pub describes : Describes r new before

-- the step after a line: its statement, if it has one, was appended, and the next line or a help text follows; or its statement
-- is a `source`, which isn't appended yet
abbrev pub IsStepGiven : FileSource → ℕ → ℕ → Result (Option Statement) TreeKind → Bool → List Group → ReaderState → Step → Type 0
IsStepGiven r file line given begins before new Next = IsGiven r file line given begins before false new
IsStepGiven r file line given begins before new Help = IsGiven r file line given begins before true new
IsStepGiven r file line given begins before new (Source path) = IsSourceGiven r given begins path before new

-- the result of a call that reads the tokens of a line: the next step of the reader, or the fault of the line, or out of memory
abbrev pub ReturnsStatementRead : FileSource → ℕ → ℕ → Result (Option Statement) TreeKind → Bool → List Group → ReaderState → Result Step TreeKind → Type 0
ReturnsStatementRead r file line given begins before new (Ok s) = IsStepGiven r file line given begins before new s
ReturnsStatementRead r file line given begins before new (Err k) = (k ≡ OutOfMemory) ⊎ ((given ≡ Err k) × RepresentsListing new.listing before)
