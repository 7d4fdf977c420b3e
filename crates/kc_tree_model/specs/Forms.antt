-- Reads the form of each line from the tokens after its first word ("Kconfig syntax", "Menu attributes"). It computes what
-- `FormGrammar` describes, by the law `forms_are_of_the_grammar`.
use Rattle.std.specs.Prelude.{ℕ, Bool, false, ◌||◌, ◌==◌, List, [], ◌∷◌, length, drop, Option, Some, None, codes, Result, Ok, Err, if◌then◌else◌}
use Rattle.std.specs.List.{list_any}
use Rattle.kc_value.specs.declared.value.Kind.{Kind}
use Rattle.kc_tokens.specs.Token.{Lexeme}
use Rattle.kc_tokens.specs.declared.fault.ExprKind.{ExprKind}
use Rattle.kc_tokens.specs.declared.fault.ExprKind.TheVariants as expr_kinds
use Rattle.kc_expr.specs.Expr.{Expr, Operand, conditional}
use Rattle.kc_tokens.specs.QuotedTexts.{quoted_text}
use Rattle.kc_expr.specs.Grammar.{read_expr, extent, operand_of_lexeme}
use Rattle.kc_tree_model.specs.declared.fault.TreeKind.{TreeKind}
use Rattle.kc_tree_model.specs.declared.fault.TreeKind.TheVariants.{BadToken, UnclosedQuote, Malformed, TooDeep, LeftOut, OutOfMemory}
use Rattle.kc_tree_model.specs.declared.statement.DefaultAttribute.{DefaultAttribute}
use Rattle.kc_tree_model.specs.declared.statement.TargetAttribute.{TargetAttribute}
use Rattle.kc_tree_model.specs.Statements.{Head, environment_default, Attribute, Statement}
use Rattle.kc_tree_model.specs.declared.statement.Head.TheVariants.{Config as config, Choice as choice, Menu as menu, Condition as condition, Comment as comment, Source as source, Mainmenu as mainmenu, Ends as ends}
use Rattle.kc_tree_model.specs.declared.statement.Attribute.TheVariants.{Typed as typed, TypedPrompt as typed_prompt, TypedDefault as typed_default, Prompt as prompt, Default as default, Depends as depends, Select as select, Imply as imply, Range as range, Visible as visible, Help as help, Modules as modules, Optional as optional}
use Rattle.kc_tree_model.specs.declared.statement.Statement.TheVariants.{Head as head, Attribute as attribute}
use Rattle.kc_tree_model.specs.Keywords.{is_word_kind, is_quoted_kind, is_the_word, is_name}
use Rattle.kc_tree_model.specs.declared.keyword.Keyword.{Keyword}
use Rattle.kc_tree_model.specs.declared.keyword.Keyword.TheVariants as words

infixl 10 ◌>>=◌
-- one step of reading a form, then a second that is given the value of the first; if the first has a fault, that is the result
abbrev pub ◌>>=◌ : {A B : Type 0} → Result A TreeKind → (A → Result B TreeKind) → Result B TreeKind
(Ok x) >>= f = f x
(Err e) >>= f = Err e

-- the kind of fault of a tree that has the same name as this kind of fault of an expression
abbrev pub kind_of_fault : ExprKind → TreeKind
kind_of_fault expr_kinds.BadToken = BadToken
kind_of_fault expr_kinds.UnclosedQuote = UnclosedQuote
kind_of_fault expr_kinds.Malformed = Malformed
kind_of_fault expr_kinds.TooDeep = TooDeep
kind_of_fault expr_kinds.LeftOut = LeftOut
kind_of_fault expr_kinds.OutOfMemory = OutOfMemory

-- an expression at the front of tokens, whether it is one operand, and the tokens after it
pub record ParsedExpr : Type 0 where
  pub expr : Expr
  pub single : Bool
  pub rest : List Lexeme

-- the expression at the front of these tokens and the tokens after it, or its fault ("Menu dependencies")
abbrev pub leading_expr : List Lexeme → Result ParsedExpr TreeKind
leading_expr ts = elim (read_expr (extent ts)) [ Ok e ↦ Ok (record { expr = e; single = length (extent ts) == 1; rest = drop (length (extent ts)) ts }) | Err f ↦ Err (kind_of_fault f.0) ]

-- this value if no tokens of the line are left, or the fault Malformed
abbrev pub no_more : {A : Type 0} → A → List Lexeme → Result A TreeKind
no_more x [] = Ok x
no_more x (t ∷ ts) = Err Malformed

-- the condition that these last tokens of a line are, or its fault; `m` in it means `m && MODULES`
abbrev pub last_condition : List Lexeme → Result Expr TreeKind
last_condition ts = leading_expr ts >>= λ r. no_more (conditional r.expr) r.rest

-- the condition of `[if E]` at the end of a line, None if no tokens are left, or a fault
abbrev pub optional_if : List Lexeme → Result (Option Expr) TreeKind
optional_if [] = Ok None
optional_if (t ∷ ts) = if is_the_word (codes "if") t then (last_condition ts >>= λ e. Ok (Some e)) else Err Malformed

-- the statement of a `config` line by the tokens after that word, which are `NAME`, or a fault
abbrev pub config_line : List Lexeme → Result Statement TreeKind
config_line [] = Err Malformed
config_line (t ∷ ts) = if is_name t then no_more (head (config t.text)) ts else Err Malformed

-- the statement of a `choice` line by the tokens after that word, of which there are none, or a fault
abbrev pub choice_line : List Lexeme → Result Statement TreeKind
choice_line ts = no_more (head choice) ts

-- the statement of a line with a title by the tokens after its first word, which are one quoted text, or a fault
abbrev pub titled_line : (List ℕ → Head) → List Lexeme → Result Statement TreeKind
titled_line f [] = Err Malformed
titled_line f (t ∷ ts) = if is_quoted_kind t.kind then no_more (head (f (quoted_text t.text))) ts else Err Malformed

-- the path that a token is, if it is a bare word or a quoted text
abbrev pub path_of : Lexeme → Option (List ℕ)
path_of t = if is_quoted_kind t.kind then Some (quoted_text t.text) else if is_word_kind t.kind then Some t.text else None

-- whether a path is a pattern: it has one of `*`, `?` and `[`
abbrev pub is_glob : List ℕ → Bool
is_glob path = list_any (λ c. c == 42 || (c == 63) || (c == 91)) path

-- the statement of a `source` line by the tokens after that word, which are one quoted text or bare word, or a fault
abbrev pub source_line : List Lexeme → Result Statement TreeKind
source_line [] = Err Malformed
source_line (t ∷ ts) = elim (path_of t) [ None ↦ Err Malformed | Some path ↦ no_more (head (source path)) ts ]

-- the attribute of a line with a prompt by the tokens after its first word, `Q [if E]` (`Q` a quoted text), or a fault
abbrev pub prompt_line : (Option Expr → Attribute) → List Lexeme → Result Statement TreeKind
prompt_line f [] = Err Malformed
prompt_line f (t ∷ ts) = if is_quoted_kind t.kind then (optional_if ts >>= λ c. Ok (attribute (f c))) else Err Malformed

-- the attribute of a type line by the tokens after its first word, `[Q [if E]]` (`Q` a quoted text), or a fault
abbrev pub type_line : Kind → List Lexeme → Result Statement TreeKind
type_line k [] = Ok (attribute (typed k))
type_line k (t ∷ ts) = prompt_line (typed_prompt k) (t ∷ ts)

-- the attribute of a line with a default by the tokens after its first word, `E [if E]`, or a fault; `m` in the value stays `m`
abbrev pub default_line : (DefaultAttribute Expr → Attribute) → List Lexeme → Result Statement TreeKind
default_line f ts = do
  e ← leading_expr ts
  c ← optional_if e.rest
  Ok (attribute (f (record { value = e.expr; single = e.single; condition = c; from_environment = false })))

-- the attribute of a `select` or `imply` line by the tokens after that word, which are `NAME [if E]`, or a fault
abbrev pub target_line : (TargetAttribute Expr (List ℕ) → Attribute) → List Lexeme → Result Statement TreeKind
target_line f [] = Err Malformed
target_line f (t ∷ ts) = if is_name t then (optional_if ts >>= λ c. Ok (attribute (f (record { name = t.text; condition = c })))) else Err Malformed

-- the attribute of a `range` line by its two operands and the tokens after them, `[if E]`; a fault if an operand is None
abbrev pub range_of_operands : Option Operand → Option Operand → List Lexeme → Result Statement TreeKind
range_of_operands (Some a) (Some b) ts = optional_if ts >>= λ c. Ok (attribute (range (record { low = a; high = b; condition = c })))
range_of_operands a b ts = Err Malformed

-- the attribute of a `range` line by the tokens after that word, `OP OP [if E]` (`OP` an operand), or a fault
abbrev pub range_line : List Lexeme → Result Statement TreeKind
range_line (t ∷ u ∷ ts) = range_of_operands (operand_of_lexeme t) (operand_of_lexeme u) ts
range_line ts = Err Malformed

-- the attribute of a line `depends on E` or `visible if E` by its second word and the tokens after its first, or a fault
abbrev pub condition_line : List ℕ → (Expr → Attribute) → List Lexeme → Result Statement TreeKind
condition_line word f [] = Err Malformed
condition_line word f (t ∷ ts) = if is_the_word word t then (last_condition ts >>= λ e. Ok (attribute (f e))) else Err Malformed

-- the attribute of an `option env` line by the operand that its text is and the tokens after that, of which there are none
abbrev pub environment_of_operand : Option Operand → List Lexeme → Result Statement TreeKind
environment_of_operand (Some text) ts = no_more (attribute (default (environment_default text))) ts
environment_of_operand None ts = Err Malformed

-- the attribute of an `option env` line by the tokens after `env`, which are one quoted text, or a fault
abbrev pub environment_line : List Lexeme → Result Statement TreeKind
environment_line [] = Err Malformed
environment_line (t ∷ ts) = if is_quoted_kind t.kind then environment_of_operand (operand_of_lexeme t) ts else Err Malformed

-- the attribute of an `option` line by the tokens after that word, which are `modules`, or `env` and a text, or a fault
abbrev pub option_line : List Lexeme → Result Statement TreeKind
option_line [] = Err Malformed
option_line (t ∷ ts) =
    if is_the_word (codes "modules") t then no_more (attribute modules) ts
    else if is_the_word (codes "env") t then environment_line ts
    else Err Malformed

-- the statement of a line with this keyword and these tokens after it, or a fault; `is_left_out` tests for left-out forms before
abbrev pub statement_of : Keyword → List Lexeme → Result Statement TreeKind
statement_of words.Config ts = config_line ts
statement_of words.Choice ts = choice_line ts
statement_of words.Menu ts = titled_line menu ts
statement_of words.If ts = last_condition ts >>= λ e. Ok (head (condition e))
statement_of words.Comment ts = titled_line comment ts
statement_of words.Source ts = source_line ts
statement_of words.Mainmenu ts = titled_line (λ _. mainmenu) ts
statement_of (words.End b) ts = no_more (head (ends b)) ts
statement_of (words.Type k) ts = type_line k ts
statement_of (words.DefaultType k) ts = default_line (typed_default k) ts
statement_of words.Prompt ts = prompt_line prompt ts
statement_of words.Default ts = default_line default ts
statement_of words.Depends ts = condition_line (codes "on") depends ts
statement_of words.Select ts = target_line select ts
statement_of words.Imply ts = target_line imply ts
statement_of words.Range ts = range_line ts
statement_of words.Visible ts = condition_line (codes "if") visible ts
statement_of words.Help ts = no_more (attribute help) ts
statement_of words.Modules ts = no_more (attribute modules) ts
statement_of words.Option ts = option_line ts
statement_of words.Optional ts = no_more (attribute optional) ts
statement_of words.LeftOut ts = Err Malformed
