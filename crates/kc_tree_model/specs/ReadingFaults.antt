-- The faults of a line after the groups read before: the condition of each kind, and the order of the kinds.
use Rattle.std.specs.Prelude.{◌≡◌, ◌⊎◌, ℕ, ◌<◌, true, false, List, [], ◌∷◌, ◌++◌, length, Some, None}
use Rattle.std.specs.List.{AllByRecursion}
use Rattle.std.specs.Str.{is_utf8}
use Rattle.kc_value.specs.declared.limits.TheConstants.{MAX_LINE_BYTES}
use Rattle.kc_tokens.specs.declared.fault.ExprKind.{ExprKind}
use Rattle.kc_tokens.specs.declared.fault.ExprKind.TheVariants as expr_kinds
use Rattle.kc_tokens.specs.declared.language.Language.{Language}
use Rattle.kc_tokens.specs.Token.{Lexeme}
use Rattle.kc_tokens.specs.TokenGrammar.{IsCut, IsFirstTokenFault}
use Rattle.kc_tree_model.specs.declared.fault.TreeKind.{TreeKind}
use Rattle.kc_tree_model.specs.declared.fault.TreeKind.TheVariants.{LineTooLong, NotUtf8, BadToken, UnclosedQuote, UnknownStatement, LeftOut, Misplaced, StrayEnd, Malformed, TooDeep, TooMany}
use Rattle.kc_tree_model.specs.LogicalLines.{LogicalLine}
use Rattle.kc_tree_model.specs.Keywords.{keyword_of}
use Rattle.kc_tree_model.specs.declared.keyword.Keyword.{Keyword}
use Rattle.kc_tree_model.specs.Statements.{Statement}
use Rattle.kc_tree_model.specs.FormGrammar.{IsForm, HasDeepExpr}
use Rattle.kc_tree_model.specs.Blocks.{Group}
use Rattle.kc_tree_model.specs.Placement.{is_allowed, is_left_out, is_stray_end}
use Rattle.kc_tree_model.specs.Limits.{is_too_deep, is_too_many}

-- a logical line has these tokens; a line of a help text has none
pub data HasTokens (language : Language) (l : LogicalLine) (ts : List Lexeme) : Type 0 where
  help_line : l.help ≡ true → ts ≡ [] → HasTokens language l ts
  cut_line : l.help ≡ false → IsCut language 0 l.text ts → HasTokens language l ts

-- the first fault of the tokens of a logical line is of this kind
abbrev pub HasTokenFault : Language → LogicalLine → ExprKind → Type 0
HasTokenFault language l kind = (offset : ℕ) × (l.help ≡ false) × IsFirstTokenFault language 0 l.text (record { offset = offset; kind = kind })

-- a logical line begins with this keyword, and these tokens come after it
abbrev pub BeginsWith : Language → LogicalLine → Keyword → List Lexeme → Type 0
BeginsWith language l k ts = (t : Lexeme) × HasTokens language l (t ∷ ts) × (keyword_of t ≡ Some k)

-- a logical line has the form of its keyword, and is this statement
abbrev pub HasForm : Language → LogicalLine → Statement → Type 0
HasForm language l s = (k : Keyword) × (ts : List Lexeme) × BeginsWith language l k ts × IsForm k ts s

-- a logical line after these groups has a fault of this kind
abbrev pub IsLineFault : Language → List Group → LogicalLine → TreeKind → Type 0
IsLineFault language read l LineTooLong = MAX_LINE_BYTES < length l.text
IsLineFault language read l NotUtf8 = is_utf8 l.text ≡ false
IsLineFault language read l BadToken = HasTokenFault language l expr_kinds.BadToken
IsLineFault language read l UnclosedQuote = HasTokenFault language l expr_kinds.UnclosedQuote
IsLineFault language read l UnknownStatement = (t : Lexeme) × (ts : List Lexeme) × HasTokens language l (t ∷ ts) × (keyword_of t ≡ None)
IsLineFault language read l LeftOut =
    HasTokenFault language l expr_kinds.LeftOut ⊎ ((k : Keyword) × (ts : List Lexeme) × BeginsWith language l k ts × (is_left_out language read k ts ≡ true))
IsLineFault language read l Misplaced = (k : Keyword) × (ts : List Lexeme) × BeginsWith language l k ts × (is_allowed read k ≡ false)
IsLineFault language read l StrayEnd = (k : Keyword) × (ts : List Lexeme) × BeginsWith language l k ts × (is_stray_end read k ≡ true)
IsLineFault language read l TooDeep =
    ((k : Keyword) × (ts : List Lexeme) × BeginsWith language l k ts × HasDeepExpr k ts) ⊎ ((s : Statement) × HasForm language l s × (is_too_deep read s ≡ true))
IsLineFault language read l Malformed = (k : Keyword) × (ts : List Lexeme) × BeginsWith language l k ts × ((s : Statement) → IsForm k ts s → ⊥)
IsLineFault language read l TooMany = (s : Statement) × HasForm language l s × (is_too_many read s ≡ true)
IsLineFault language read l kind = ⊥

-- the kinds of faults of a line, in the order in which they count as its first
abbrev pub line_order : List TreeKind
line_order = LineTooLong ∷ NotUtf8 ∷ BadToken ∷ UnclosedQuote ∷ UnknownStatement ∷ LeftOut ∷ Misplaced ∷ StrayEnd ∷ TooDeep ∷ Malformed ∷ TooMany ∷ []

-- a condition on kinds of faults holds for no kind
abbrev pub HoldsNever : (TreeKind → Type 0) → Type 0
HoldsNever condition = (kind : TreeKind) → condition kind → ⊥

-- a condition on kinds of faults holds for this kind of the order and for none before it
pub record IsFirstOf (order : List TreeKind) (condition : TreeKind → Type 0) (kind : TreeKind) : Type 0 where
  pub before : List TreeKind
  pub after : List TreeKind
  pub place : order ≡ before ++ kind ∷ after
  pub none_before : AllByRecursion (λ other. condition other → ⊥) before
  pub holds : condition kind
