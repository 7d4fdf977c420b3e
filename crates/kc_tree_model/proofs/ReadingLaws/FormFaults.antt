-- A line that hasn't the form of its keyword is Malformed, or an expression in it is TooDeep.
use Rattle.kc_tree_model.proofs.Common.{◌≡◌, ◌⊎◌, inl, inr, subst, ℕ, zero, suc, Bool, true, false, cond, List, [], ◌∷◌, Option, Some, None, Result, Ok, Err, refl, ap, sym, ◌∙◌, length, Kind, MAX_EXPR_DEPTH, ExprKind, TokenKind, Word, Quoted, Relation, Not, And, Or, Open, Close, Lexeme, Expr}
use Rattle.kc_tree_model.proofs.Common.{Operand, alone, both, named, quoted, conditional, quoted_text, is_close, extent, operand_of_lexeme, TreeKind, Malformed, TooDeep, Head, menu, comment, source, mainmenu, DefaultAttribute, TargetAttribute, Attribute, typed_prompt, typed_default, prompt, default}
use Rattle.kc_tree_model.proofs.Common.{depends, select, imply, visible, modules, Statement, head, attribute, is_name, is_quoted_kind, is_the_word, Keyword, ◌>>=◌, kind_of_fault, ParsedExpr, leading_expr, no_more, last_condition, optional_if, config_line, titled_line, path_of, source_line}
use Rattle.kc_tree_model.proofs.Common.{prompt_line, type_line, default_line, target_line, range_of_operands, range_line, condition_line, environment_of_operand, environment_line, option_line, statement_of, codes, ◌==◌}
use Rattle.kc_tokens.specs.declared.fault.ExprKind.TheVariants as expr_kinds
use Rattle.kc_expr.specs.Expr.{related, negated, either}
use Rattle.kc_expr.specs.Grammar.{Read, on_read, past_depth_limit, right_operand, after_operand, is_and, is_or, chain, read_ands, read_ors, closed, factor_of, read_factor, read_to_end, read_expr, constant_or}
use Rattle.kc_tree_model.specs.declared.keyword.Keyword.TheVariants as words
use Rattle.std.specs.Prelude.{drop}

-- the kinds of faults of expressions
abbrev is_expr_kind : ExprKind → Bool
is_expr_kind expr_kinds.Malformed = true
is_expr_kind expr_kinds.TooDeep = true
is_expr_kind kind = false

abbrev IsKnownRead : Read → Type 0
IsKnownRead (Ok r) = Unit {0}
IsKnownRead (Err e) = is_expr_kind e.0 ≡ true

known_on : (r : Read) (f : Expr × List Lexeme → Read) → IsKnownRead r → ((x : Expr × List Lexeme) → IsKnownRead (f x)) → IsKnownRead (on_read r f)
known_on (Ok x) f h k = k x
known_on (Err e) f h k = h

known_past_by : (kind : TokenKind) (t : Lexeme) (ts : List Lexeme) → IsKnownRead (past_depth_limit ts)
    → IsKnownRead (elim kind as
    (λ _. Read) [
      | Not ↦ past_depth_limit ts
      | Open ↦ past_depth_limit ts
      | Word ↦ Err (expr_kinds.TooDeep, t ∷ ts)
      | Quoted ↦ Err
          (expr_kinds.TooDeep, t ∷ ts)
      | _ ↦ Err (expr_kinds.Malformed, t ∷ ts)
    ])
known_past_by Word t ts h = refl
known_past_by Quoted t ts h = refl
known_past_by (Relation op) t ts h = refl
known_past_by Not t ts h = h
known_past_by And t ts h = refl
known_past_by Or t ts h = refl
known_past_by Open t ts h = h
known_past_by Close t ts h = refl

known_past : (ts : List Lexeme) → IsKnownRead (past_depth_limit ts)
known_past [] = refl
known_past (t ∷ ts) = known_past_by t.kind t ts (known_past ts)

known_right_by : (f : Operand → Expr) (o : Option Operand) (t : Lexeme) (ts : List Lexeme)
    → IsKnownRead (elim o as (λ _. Read) [ Some b ↦ Ok (f b, ts) | None ↦ Err (expr_kinds.Malformed, t ∷ ts) ])
known_right_by f None t ts = refl
known_right_by f (Some b) t ts = tt

known_right : (f : Operand → Expr) (ts : List Lexeme) → IsKnownRead (right_operand f ts)
known_right f [] = refl
known_right f (t ∷ ts) = known_right_by f (operand_of_lexeme t) t ts

known_operand_by : (a : Operand) (kind : TokenKind) (t : Lexeme) (ts : List Lexeme)
    → IsKnownRead (elim kind as (λ _. Read) [ Relation op ↦ right_operand (related op a) ts | _ ↦ Ok (alone a, t ∷ ts) ])
known_operand_by a (Relation op) t ts = known_right (related op a) ts
known_operand_by a kind t ts = tt

known_operand : (a : Operand) (ts : List Lexeme) → IsKnownRead (after_operand a ts)
known_operand a [] = tt
known_operand a (t ∷ ts) = known_operand_by a t.kind t ts

-- readers of parts of expressions
abbrev AreKnown : (List Lexeme → Read) → Type 0
AreKnown part = (ts : List Lexeme) → IsKnownRead (part ts)

module _ (is_joint : TokenKind → Bool) (joined : Expr → Expr → Expr) (part : List Lexeme → Read) (known : AreKnown part) where
  known_chain_by : (b : Bool) (n : ℕ) (a : Expr) (t : Lexeme) (ts : List Lexeme)
      → ((c : Expr) (us : List Lexeme) → IsKnownRead (chain is_joint joined part n c us))
      → IsKnownRead (elim b as (λ _. Read) [ true ↦ on_read (part ts) (λ r. chain is_joint joined part n (joined a r.0) r.1) | false ↦ Ok (a, t ∷ ts) ])
  known_chain_by true n a t ts h = known_on (part ts) _ (known ts) (λ r. h (joined a r.0) r.1)
  known_chain_by false n a t ts h = tt

  known_chain : (n : ℕ) (a : Expr) (ts : List Lexeme) → IsKnownRead (chain is_joint joined part n a ts)
  known_chain zero a ts = tt
  known_chain (suc n) a [] = tt
  known_chain (suc n) a (t ∷ ts) = known_chain_by (is_joint t.kind) n a t ts (λ c us. known_chain n c us)

known_ands : (part : List Lexeme → Read) → AreKnown part → AreKnown (read_ands part)
known_ands part known = λ ts. known_on (part ts) _ (known ts) (λ r. known_chain is_and both part known (length ts) r.0 r.1)

known_ors : (part : List Lexeme → Read) → AreKnown part → AreKnown (read_ors part)
known_ors part known = λ ts. known_on (read_ands part ts) _ (known_ands part known ts)
    (λ r. known_chain is_or either (read_ands part) (known_ands part known) (length ts) r.0 r.1)

known_close_by : (b : Bool) (e : Expr) (t : Lexeme) (ts : List Lexeme) → IsKnownRead (cond b (Ok (e, ts)) (Err (expr_kinds.Malformed, t ∷ ts)))
known_close_by true e t ts = tt
known_close_by false e t ts = refl

known_closed : (e : Expr) (ts : List Lexeme) → IsKnownRead (closed (e, ts))
known_closed e [] = refl
known_closed e (t ∷ ts) = known_close_by (is_close t.kind) e t ts

module _ (after_not after_open : List Lexeme → Read) (nots : AreKnown after_not) (opens : AreKnown after_open) where
  known_factor_by : (kind : TokenKind) (t : Lexeme) (ts : List Lexeme)
      → IsKnownRead (elim kind as
      (λ _. Read) [
        | Word ↦ after_operand (constant_or named t.text) ts
        | Quoted ↦ after_operand
            (constant_or quoted (quoted_text t.text)) ts
        | Not ↦ after_not ts
        | Open ↦ after_open ts
        | _ ↦ Err (expr_kinds.Malformed, t ∷ ts)
      ])
  known_factor_by Word t ts = known_operand _ ts
  known_factor_by Quoted t ts = known_operand _ ts
  known_factor_by (Relation op) t ts = refl
  known_factor_by Not t ts = nots ts
  known_factor_by And t ts = refl
  known_factor_by Or t ts = refl
  known_factor_by Open t ts = opens ts
  known_factor_by Close t ts = refl

  known_factor_of : (ts : List Lexeme) → IsKnownRead (factor_of after_not after_open ts)
  known_factor_of [] = refl
  known_factor_of (t ∷ ts) = known_factor_by t.kind t ts

known_factor : (d : ℕ) → AreKnown (read_factor d)
known_factor zero = λ ts. known_factor_of past_depth_limit past_depth_limit known_past known_past ts
known_factor (suc d) = λ ts.
    known_factor_of (λ us. on_read (read_factor d us) (λ r. Ok (negated r.0, r.1))) (λ us. on_read (read_ors (read_factor d) us) closed)
    (λ us. known_on (read_factor d us) _ (known_factor d us) (λ r. tt))
    (λ us. known_on (read_ors (read_factor d) us) closed (known_ors (read_factor d) (known_factor d) us) (λ r. known_closed r.0 r.1)) ts

-- the fault of an expression
known_end_by : (e : Expr) (ts : List Lexeme) (f : ExprKind × List Lexeme)
    → elim ts as (λ _. Result Expr (ExprKind × List Lexeme)) [ [] ↦ Ok e | t ∷ us ↦ Err (expr_kinds.Malformed, t ∷ us) ] ≡ Err f → is_expr_kind f.0 ≡ true
known_end_by e [] f h = cc
known_end_by e (t ∷ ts) f h = let same : (expr_kinds.Malformed, t ∷ ts) ≡ f = cc in ap (λ (x : ExprKind × List Lexeme). is_expr_kind x.0) (sym same)

known_end : (r : Read) (f : ExprKind × List Lexeme) → IsKnownRead r → read_to_end r ≡ Err f → is_expr_kind f.0 ≡ true
known_end (Ok r) f k h = known_end_by r.0 r.1 f h
known_end (Err e) f k h = let same : e ≡ f = cc in ap (λ (x : ExprKind × List Lexeme). is_expr_kind x.0) (sym same) ∙ k

known_expr : (ts : List Lexeme) (f : ExprKind × List Lexeme) → read_expr ts ≡ Err f → is_expr_kind f.0 ≡ true
unfolding read_expr
known_expr ts f h = known_end (read_ors (read_factor MAX_EXPR_DEPTH) ts) f (known_ors (read_factor MAX_EXPR_DEPTH) (known_factor MAX_EXPR_DEPTH) ts) h

-- whether a kind of fault is one that a form has: Malformed or TooDeep
abbrev pub is_form_kind : TreeKind → Bool
is_form_kind Malformed = true
is_form_kind TooDeep = true
is_form_kind kind = false

abbrev pub IsKnownForm : {A : Type 0} → Result A TreeKind → Type 0
IsKnownForm (Ok x) = Unit {0}
IsKnownForm (Err kind) = is_form_kind kind ≡ true

known_kind : (kind : ExprKind) → is_expr_kind kind ≡ true → is_form_kind (kind_of_fault kind) ≡ true
known_kind expr_kinds.Malformed h = refl
known_kind expr_kinds.TooDeep h = refl
known_kind kind h = cc

known_bind : {A B : Type 0} (r : Result A TreeKind) (f : A → Result B TreeKind) → IsKnownForm r → ((x : A) → IsKnownForm (f x)) → IsKnownForm (r >>= f)
known_bind (Ok x) f h k = k x
known_bind (Err e) f h k = h

known_when : {A : Type 0} (b : Bool) (r : Result A TreeKind) → IsKnownForm r → IsKnownForm (cond b r (Err Malformed))
known_when true r h = h
known_when false r h = refl

known_last : {A : Type 0} (x : A) (ts : List Lexeme) → IsKnownForm (no_more x ts)
known_last x [] = tt
known_last x (t ∷ ts) = refl

known_leading_by : (ts : List Lexeme) (r : Result Expr (ExprKind × List Lexeme)) → ((f : ExprKind × List Lexeme) → r ≡ Err f → is_expr_kind f.0 ≡ true)
    → IsKnownForm (elim r as
    (λ _. Result ParsedExpr TreeKind) [
      | Ok e ↦ Ok
          (record { expr = e; single = length (extent ts) == 1; rest = drop (length (extent ts)) ts })
      | Err f ↦ Err (kind_of_fault f.0)
    ])
known_leading_by ts (Ok e) h = tt
known_leading_by ts (Err f) h = known_kind f.0 (h f refl)

known_leading : (ts : List Lexeme) → IsKnownForm (leading_expr ts)
known_leading ts = known_leading_by ts (read_expr (extent ts)) (known_expr (extent ts))

known_condition : (ts : List Lexeme) → IsKnownForm (last_condition ts)
known_condition ts = known_bind (leading_expr ts) _ (known_leading ts) (λ r. known_last (conditional r.expr) r.rest)

known_optional : (ts : List Lexeme) → IsKnownForm (optional_if ts)
known_optional [] = tt
known_optional (t ∷ ts) = known_when (is_the_word (codes "if") t) _ (known_bind (last_condition ts) _ (known_condition ts) (λ e. tt))

known_config : (ts : List Lexeme) → IsKnownForm (config_line ts)
known_config [] = refl
known_config (t ∷ ts) = known_when (is_name t) _ (known_last _ ts)

known_titled : (f : List ℕ → Head) (ts : List Lexeme) → IsKnownForm (titled_line f ts)
known_titled f [] = refl
known_titled f (t ∷ ts) = known_when (is_quoted_kind t.kind) _ (known_last _ ts)

known_source_by : (o : Option (List ℕ)) (ts : List Lexeme)
    → IsKnownForm (elim o as (λ _. Result Statement TreeKind) [ None ↦ Err Malformed | Some path ↦ no_more (head (source path)) ts ])
known_source_by None ts = refl
known_source_by (Some path) ts = known_last _ ts

known_source : (ts : List Lexeme) → IsKnownForm (source_line ts)
known_source [] = refl
known_source (t ∷ ts) = known_source_by (path_of t) ts

known_prompt : (f : Option Expr → Attribute) (ts : List Lexeme) → IsKnownForm (prompt_line f ts)
known_prompt f [] = refl
known_prompt f (t ∷ ts) = known_when (is_quoted_kind t.kind) _ (known_bind (optional_if ts) _ (known_optional ts) (λ c. tt))

known_type : (k : Kind) (ts : List Lexeme) → IsKnownForm (type_line k ts)
known_type k [] = tt
known_type k (t ∷ ts) = known_prompt (typed_prompt k) (t ∷ ts)

known_default : (f : DefaultAttribute → Attribute) (ts : List Lexeme) → IsKnownForm (default_line f ts)
known_default f ts = known_bind (leading_expr ts) _ (known_leading ts) (λ e. known_bind (optional_if e.rest) _ (known_optional e.rest) (λ c. tt))

known_target : (f : TargetAttribute → Attribute) (ts : List Lexeme) → IsKnownForm (target_line f ts)
known_target f [] = refl
known_target f (t ∷ ts) = known_when (is_name t) _ (known_bind (optional_if ts) _ (known_optional ts) (λ c. tt))

known_bounds : (a b : Option Operand) (ts : List Lexeme) → IsKnownForm (range_of_operands a b ts)
known_bounds (Some a) (Some b) ts = known_bind (optional_if ts) _ (known_optional ts) (λ c. tt)
known_bounds (Some a) None ts = refl
known_bounds None b ts = refl

known_range : (ts : List Lexeme) → IsKnownForm (range_line ts)
known_range [] = refl
known_range (t ∷ []) = refl
known_range (t ∷ u ∷ ts) = known_bounds (operand_of_lexeme t) (operand_of_lexeme u) ts

known_worded : (word : List ℕ) (f : Expr → Attribute) (ts : List Lexeme) → IsKnownForm (condition_line word f ts)
known_worded word f [] = refl
known_worded word f (t ∷ ts) = known_when (is_the_word word t) _ (known_bind (last_condition ts) _ (known_condition ts) (λ e. tt))

known_environment_by : (o : Option Operand) (ts : List Lexeme) → IsKnownForm (environment_of_operand o ts)
known_environment_by None ts = refl
known_environment_by (Some text) ts = known_last _ ts

known_environment : (ts : List Lexeme) → IsKnownForm (environment_line ts)
known_environment [] = refl
known_environment (t ∷ ts) = known_when (is_quoted_kind t.kind) _ (known_environment_by (operand_of_lexeme t) ts)

known_option_by : (t : Lexeme) (ts : List Lexeme) (b : Bool)
    → IsKnownForm (cond b (no_more (attribute modules) ts) (cond (is_the_word (codes "env") t) (environment_line ts) (Err Malformed)))
known_option_by t ts true = known_last _ ts
known_option_by t ts false = known_when (is_the_word (codes "env") t) _ (known_environment ts)

known_option : (ts : List Lexeme) → IsKnownForm (option_line ts)
known_option [] = refl
known_option (t ∷ ts) = known_option_by t ts (is_the_word (codes "modules") t)

pub known_form : (k : Keyword) (ts : List Lexeme) → IsKnownForm (statement_of k ts)
known_form words.Config ts = known_config ts
known_form words.Choice ts = known_last _ ts
known_form words.Menu ts = known_titled menu ts
known_form words.If ts = known_bind (last_condition ts) _ (known_condition ts) (λ e. tt)
known_form words.Comment ts = known_titled comment ts
known_form words.Source ts = known_source ts
known_form words.Mainmenu ts = known_titled (λ _. mainmenu) ts
known_form (words.End b) ts = known_last _ ts
known_form (words.Type k) ts = known_type k ts
known_form (words.DefaultType k) ts = known_default (typed_default k) ts
known_form words.Prompt ts = known_prompt prompt ts
known_form words.Default ts = known_default default ts
known_form words.Depends ts = known_worded (codes "on") depends ts
known_form words.Select ts = known_target select ts
known_form words.Imply ts = known_target imply ts
known_form words.Range ts = known_range ts
known_form words.Visible ts = known_worded (codes "if") visible ts
known_form words.Help ts = known_last _ ts
known_form words.Modules ts = known_last _ ts
known_form words.Option ts = known_option ts
known_form words.Optional ts = known_last _ ts
known_form words.LeftOut ts = refl

kind_by : (kind : TreeKind) → is_form_kind kind ≡ true → (kind ≡ Malformed) ⊎ (kind ≡ TooDeep)
kind_by Malformed h = inl refl
kind_by TooDeep h = inr refl
kind_by kind h = cc

pub known_fault : (k : Keyword) (ts : List Lexeme) (kind : TreeKind) → statement_of k ts ≡ Err kind → is_form_kind kind ≡ true
known_fault k ts kind e = subst IsKnownForm e (known_form k ts)

pub form_kind : (k : Keyword) (ts : List Lexeme) (kind : TreeKind) → statement_of k ts ≡ Err kind → (kind ≡ Malformed) ⊎ (kind ≡ TooDeep)
form_kind k ts kind e = kind_by kind (known_fault k ts kind e)
