-- The grammar of the forms of lines, by the tokens after the first word ("Kconfig syntax", "Menu attributes").
use Rattle.std.specs.Prelude.{◌≡◌, ℕ, true, false, ◌==◌, List, [], ◌∷◌, ◌++◌, length, Option, Some, None, codes}
use Rattle.kc_value.specs.declared.value.Kind.{Kind}
use Rattle.kc_value.specs.declared.limits.TheConstants.{MAX_EXPR_DEPTH}
use Rattle.kc_tokens.specs.Token.{Lexeme}
use Rattle.kc_expr.specs.Expr.{Expr, Operand, conditional}
use Rattle.kc_tokens.specs.declared.fault.ExprKind.TheVariants.{TooDeep}
use Rattle.kc_expr.specs.ExprFaults.{IsFirstExprFault}
use Rattle.kc_tokens.specs.QuotedTexts.{quoted_text}
use Rattle.kc_expr.specs.Grammar.{IsExpr, ors, extent, operand_of_lexeme}
use Rattle.kc_tree_model.specs.declared.statement.DefaultAttribute.{DefaultAttribute}
use Rattle.kc_tree_model.specs.Statements.{environment_default, Statement}
use Rattle.kc_tree_model.specs.declared.statement.Head.TheVariants.{Config as config, Choice as choice, Menu as menu, Condition as condition, Comment as comment, Source as source, Mainmenu as mainmenu, Ends as ends}
use Rattle.kc_tree_model.specs.declared.statement.Attribute.TheVariants.{Typed as typed, TypedPrompt as typed_prompt, TypedDefault as typed_default, Prompt as prompt, Default as default, Depends as depends, Select as select, Imply as imply, Range as range, Visible as visible, Help as help, Modules as modules, Optional as optional}
use Rattle.kc_tree_model.specs.declared.statement.Statement.TheVariants.{Head as head, Attribute as attribute}
use Rattle.kc_tree_model.specs.Keywords.{is_quoted_kind, is_the_word, is_name}
use Rattle.kc_tree_model.specs.declared.keyword.Block.{Block}
use Rattle.kc_tree_model.specs.declared.keyword.Keyword.{Keyword}
use Rattle.kc_tree_model.specs.declared.keyword.Keyword.TheVariants as words
use Rattle.kc_tree_model.specs.Forms.{path_of}

-- these tokens are an expression `E`, and this `Expr` is `E` as a condition, in which `m` means `m && MODULES`
abbrev pub IsCondition : List Lexeme → Expr → Type 0
IsCondition ts c = (e : Expr) × IsExpr ors MAX_EXPR_DEPTH ts e × (c ≡ conditional e)

-- these tokens are `[if E]`: the word `if` and this condition, or no tokens and None
pub data IsOptionalIf : List Lexeme → Option Expr → Type 0 where
  no_if : IsOptionalIf [] None
  with_if : {t : Lexeme} {ts : List Lexeme} {c : Expr} → is_the_word (codes "if") t ≡ true → IsCondition ts c → IsOptionalIf (t ∷ ts) (Some c)

-- these tokens are `E [if E]`: the value of the default `d`, in which `m` stays `m`, and its condition; it is no `option env`
pub record IsDefault (ts : List Lexeme) (d : DefaultAttribute Expr) : Type 0 where
  pub front : List Lexeme
  pub rest : List Lexeme
  pub parts : ts ≡ front ++ rest
  pub value : IsExpr ors MAX_EXPR_DEPTH front d.value
  pub single : d.single ≡ (length front == 1)
  pub optional : IsOptionalIf rest d.condition
  pub own : d.from_environment ≡ false

-- a line with this keyword and these tokens after it is this statement
pub data IsForm : Keyword → List Lexeme → Statement → Type 0 where
  config_form : {t : Lexeme} → is_name t ≡ true → IsForm words.Config (t ∷ []) (head (config t.text))
  choice_form : IsForm words.Choice [] (head choice)
  menu_form : {t : Lexeme} → is_quoted_kind t.kind ≡ true → IsForm words.Menu (t ∷ []) (head (menu (quoted_text t.text)))
  if_form : {ts : List Lexeme} {c : Expr} → IsCondition ts c → IsForm words.If ts (head (condition c))
  comment_form : {t : Lexeme} → is_quoted_kind t.kind ≡ true → IsForm words.Comment (t ∷ []) (head (comment (quoted_text t.text)))
  source_form : {t : Lexeme} {path : List ℕ} → path_of t ≡ Some path → IsForm words.Source (t ∷ []) (head (source path))
  mainmenu_form : {t : Lexeme} → is_quoted_kind t.kind ≡ true → IsForm words.Mainmenu (t ∷ []) (head mainmenu)
  end_form : {b : Block} → IsForm (words.End b) [] (head (ends b))
  type_form : {k : Kind} → IsForm (words.Type k) [] (attribute (typed k))
  type_prompt_form : {k : Kind} {t : Lexeme} {ts : List Lexeme} {c : Option Expr} → is_quoted_kind t.kind ≡ true → IsOptionalIf ts c → IsForm (words.Type k) (t ∷ ts) (attribute (typed_prompt k c))
  type_default_form : {k : Kind} {ts : List Lexeme} {d : DefaultAttribute Expr} → IsDefault ts d → IsForm (words.DefaultType k) ts (attribute (typed_default k d))
  prompt_form : {t : Lexeme} {ts : List Lexeme} {c : Option Expr} → is_quoted_kind t.kind ≡ true → IsOptionalIf ts c → IsForm words.Prompt (t ∷ ts) (attribute (prompt c))
  default_form : {ts : List Lexeme} {d : DefaultAttribute Expr} → IsDefault ts d → IsForm words.Default ts (attribute (default d))
  depends_form : {t : Lexeme} {ts : List Lexeme} {c : Expr} → is_the_word (codes "on") t ≡ true → IsCondition ts c → IsForm words.Depends (t ∷ ts) (attribute (depends c))
  select_form : {t : Lexeme} {ts : List Lexeme} {c : Option Expr} → is_name t ≡ true → IsOptionalIf ts c → IsForm words.Select (t ∷ ts) (attribute (select (record { name = t.text; condition = c })))
  imply_form : {t : Lexeme} {ts : List Lexeme} {c : Option Expr} → is_name t ≡ true → IsOptionalIf ts c → IsForm words.Imply (t ∷ ts) (attribute (imply (record { name = t.text; condition = c })))
  range_form : {t u : Lexeme} {ts : List Lexeme} {a b : Operand} {c : Option Expr} → operand_of_lexeme t ≡ Some a → operand_of_lexeme u ≡ Some b → IsOptionalIf ts c
      → IsForm words.Range (t ∷ u ∷ ts) (attribute (range (record { low = a; high = b; condition = c })))
  visible_form : {t : Lexeme} {ts : List Lexeme} {c : Expr} → is_the_word (codes "if") t ≡ true → IsCondition ts c → IsForm words.Visible (t ∷ ts) (attribute (visible c))
  help_form : IsForm words.Help [] (attribute help)
  modules_form : IsForm words.Modules [] (attribute modules)
  option_form : {t : Lexeme} → is_the_word (codes "modules") t ≡ true → IsForm words.Option (t ∷ []) (attribute modules)
  environment_form : {t u : Lexeme} {text : Operand} → is_the_word (codes "env") t ≡ true → is_quoted_kind u.kind ≡ true → operand_of_lexeme u ≡ Some text
      → IsForm words.Option (t ∷ u ∷ []) (attribute (default (environment_default text)))
  optional_form : IsForm words.Optional [] (attribute optional)

-- these tokens may come between this keyword and an `if E` on its line
pub data IsBeforeIf : Keyword → List Lexeme → Type 0 where
  of_type : {k : Kind} {t : Lexeme} → is_quoted_kind t.kind ≡ true → IsBeforeIf (words.Type k) (t ∷ [])
  of_prompt : {t : Lexeme} → is_quoted_kind t.kind ≡ true → IsBeforeIf words.Prompt (t ∷ [])
  of_type_default : {k : Kind} {ts : List Lexeme} {e : Expr} → IsExpr ors MAX_EXPR_DEPTH ts e → IsBeforeIf (words.DefaultType k) ts
  of_default : {ts : List Lexeme} {e : Expr} → IsExpr ors MAX_EXPR_DEPTH ts e → IsBeforeIf words.Default ts
  of_select : {t : Lexeme} → is_name t ≡ true → IsBeforeIf words.Select (t ∷ [])
  of_imply : {t : Lexeme} → is_name t ≡ true → IsBeforeIf words.Imply (t ∷ [])
  of_range : {t u : Lexeme} {a b : Operand} → operand_of_lexeme t ≡ Some a → operand_of_lexeme u ≡ Some b → IsBeforeIf words.Range (t ∷ u ∷ [])

-- a line has this keyword and then the tokens of the first list; the second list is the end of the first, where the form of the
-- keyword has an expression, and the tokens before that end fit the form
pub data ComesToExpr : Keyword → List Lexeme → List Lexeme → Type 0 where
  at_if : {ts : List Lexeme} → ComesToExpr words.If ts ts
  at_type_default : {k : Kind} {ts : List Lexeme} → ComesToExpr (words.DefaultType k) ts ts
  at_default : {ts : List Lexeme} → ComesToExpr words.Default ts ts
  at_depends : {t : Lexeme} {ts : List Lexeme} → is_the_word (codes "on") t ≡ true → ComesToExpr words.Depends (t ∷ ts) ts
  at_visible : {t : Lexeme} {ts : List Lexeme} → is_the_word (codes "if") t ≡ true → ComesToExpr words.Visible (t ∷ ts) ts
  after_if : {k : Keyword} {front ts : List Lexeme} (t : Lexeme) → IsBeforeIf k front → is_the_word (codes "if") t ≡ true → ComesToExpr k (front ++ t ∷ ts) ts

-- a line with this keyword and these tokens after it comes to an expression that has an operand nested too deep
abbrev pub HasDeepExpr : Keyword → List Lexeme → Type 0
HasDeepExpr k ts = (us rest : List Lexeme) × ComesToExpr k ts us × IsFirstExprFault (extent us) (TooDeep, rest)
