-- A line is TooDeep where it comes to an expression of which an operand is too deep.
use Rattle.kc_tree_model.proofs.Common.{◌≡◌, ℕ, Bool, true, false, cond, List, [], ◌∷◌, ◌++◌, length, drop, Option, Some, None, Result, Ok, Err, refl, ap, sym, ◌∙◌, subst, ◌↔◌, ◌==◌, codes, Kind, MAX_EXPR_DEPTH, ExprKind, Lexeme, Expr, Operand, conditional, IsExpr, ors, extent, operand_of_lexeme}
use Rattle.kc_tree_model.proofs.Common.{TreeKind, Malformed, TooDeep, Head, menu, condition, comment, source, mainmenu, DefaultAttribute, TargetAttribute, Attribute, typed_prompt, typed_default, prompt, default, depends, select, imply, range, visible, modules, Statement, head, attribute, is_name}
use Rattle.kc_tree_model.proofs.Common.{is_quoted_kind, is_the_word, Keyword, ◌>>=◌, kind_of_fault, ParsedExpr, leading_expr, no_more, last_condition, optional_if, config_line, titled_line, path_of, source_line, prompt_line, type_line, default_line, target_line, range_of_operands, range_line}
use Rattle.kc_tree_model.proofs.Common.{condition_line, environment_of_operand, environment_line, option_line, statement_of, HasDeepExpr}
use Rattle.kc_tokens.specs.declared.fault.ExprKind.TheVariants as expr_kinds
use Rattle.kc_expr.specs.ExprFaults.{IsFirstExprFault}
use Rattle.kc_expr.specs.Grammar.{read_expr}
use Rattle.kc_expr.proofs.FirstFaults.{first_fault, fault_read}
use Rattle.kc_tree_model.specs.declared.keyword.Keyword.TheVariants as words
use Rattle.kc_tree_model.specs.FormGrammar.{IsBeforeIf, of_type, of_prompt, of_type_default, of_default, of_select, of_imply, of_range, ComesToExpr, at_if, at_type_default, at_default, at_depends, at_visible, after_if}
use Rattle.kc_tree_model.proofs.ReadingLaws.TightTokens.{extent_front}
use Rattle.kc_tree_model.proofs.ReadingLaws.FormLaws.{OfOk, IsParsed, leading, ends_by, front_read}

-- what a result that is TooDeep is of
abbrev OfDeep : {A : Type 0} → Type 0 → Result A TreeKind → Type 0
OfDeep P (Err TooDeep) = P
OfDeep P r = Unit {0}

deep_map : {A : Type 0} (P Q : Type 0) (r : Result A TreeKind) → (P → Q) → OfDeep P r → OfDeep Q r
deep_map P Q (Err TooDeep) f h = f h
deep_map P Q r f h = tt

deep_bind : {A B : Type 0} (P : Type 0) (r : Result A TreeKind) (f : A → Result B TreeKind) → OfDeep P r → ((x : A) → r ≡ Ok x → OfDeep P (f x))
    → OfDeep P (r >>= f)
deep_bind P (Ok x) f h k = k x refl
deep_bind P (Err TooDeep) f h k = h
deep_bind P (Err e) f h k = tt

deep_when : {A : Type 0} (P : Type 0) (b : Bool) (r : Result A TreeKind) → (b ≡ true → OfDeep P r) → OfDeep P (cond b r (Err Malformed))
deep_when P true r h = h refl
deep_when P false r h = tt

deep_last : {A : Type 0} (P : Type 0) (x : A) (ts : List Lexeme) → OfDeep P (no_more x ts)
deep_last P x [] = tt
deep_last P x (t ∷ ts) = tt

-- the expression at the front is too deep
abbrev IsDeep : List Lexeme → Type 0
IsDeep ts = (rest : List Lexeme) × IsFirstExprFault (extent ts) (expr_kinds.TooDeep, rest)

deep_by : (ts rest : List Lexeme) (kind : ExprKind) → read_expr (extent ts) ≡ Err (kind, rest) → OfDeep {A = ParsedExpr} (IsDeep ts) (Err (kind_of_fault kind))
deep_by ts rest expr_kinds.TooDeep h = (rest, first_fault (extent ts) (expr_kinds.TooDeep, rest) h)
deep_by ts rest x h = tt

deep_leading_by : (ts : List Lexeme) (r : Result Expr (ExprKind × List Lexeme)) → read_expr (extent ts) ≡ r
    → OfDeep (IsDeep ts)
    (elim r as (λ _. Result ParsedExpr TreeKind) [
      | Ok e ↦ Ok
          (record { expr = e; single = length (extent ts) == 1; rest = drop (length (extent ts)) ts })
      | Err f ↦ Err (kind_of_fault f.0)
    ])
deep_leading_by ts (Ok e) h = tt
deep_leading_by ts (Err f) h = deep_by ts f.1 f.0 h

deep_leading : (ts : List Lexeme) → OfDeep (IsDeep ts) (leading_expr ts)
deep_leading ts = deep_leading_by ts (read_expr (extent ts)) refl

deep_condition : (ts : List Lexeme) → OfDeep (IsDeep ts) (last_condition ts)
deep_condition ts = deep_bind (IsDeep ts) (leading_expr ts) _ (deep_leading ts) (λ r e. deep_last (IsDeep ts) (conditional r.expr) r.rest)

-- the condition after an `if`
abbrev IsDeepIf : List Lexeme → Type 0
IsDeepIf ts = (t : Lexeme) × (us : List Lexeme) × (ts ≡ t ∷ us) × (is_the_word (codes "if") t ≡ true) × IsDeep us

deep_optional : (ts : List Lexeme) → OfDeep (IsDeepIf ts) (optional_if ts)
deep_optional [] = tt
deep_optional (t ∷ ts) =
    deep_when (IsDeepIf (t ∷ ts)) (is_the_word (codes "if") t) _ (λ e. deep_bind (IsDeepIf (t ∷ ts)) (last_condition ts) _
    (deep_map (IsDeep ts) (IsDeepIf (t ∷ ts)) (last_condition ts) (λ h. (t, ts, refl, e, h)) (deep_condition ts)) (λ c h. tt))

-- a line with an `if` after these tokens
deep_if : (k : Keyword) (front ts : List Lexeme) → IsBeforeIf k front → IsDeepIf ts → HasDeepExpr k (front ++ ts)
deep_if k front ts before h =
    subst (λ us. HasDeepExpr k (front ++ us)) (sym h.2) (h.1, h.4.0, after_if h.0 before h.3, h.4.1)

module _ (k : Keyword) where
  deep_line : {A : Type 0} (front ts : List Lexeme) (f : Option Expr → A) → IsBeforeIf k front
      → OfDeep (HasDeepExpr k (front ++ ts)) (optional_if ts >>= λ c. Ok (f c))
  deep_line front ts f before =
      deep_bind (HasDeepExpr k (front ++ ts)) (optional_if ts) _
      (deep_map (IsDeepIf ts) (HasDeepExpr k (front ++ ts)) (optional_if ts) (deep_if k front ts before) (deep_optional ts)) (λ c e. tt)

  deep_prompt : (f : Option Expr → Attribute) → ((t : Lexeme) → is_quoted_kind t.kind ≡ true → IsBeforeIf k (t ∷ [])) → (ts : List Lexeme)
      → OfDeep (HasDeepExpr k ts) (prompt_line f ts)
  deep_prompt f before [] = tt
  deep_prompt f before (t ∷ ts) = deep_when (HasDeepExpr k (t ∷ ts)) (is_quoted_kind t.kind) _ (λ e. deep_line (t ∷ []) ts (λ c. attribute (f c)) (before t e))

  deep_target : (f : TargetAttribute → Attribute) → ((t : Lexeme) → is_name t ≡ true → IsBeforeIf k (t ∷ [])) → (ts : List Lexeme)
      → OfDeep (HasDeepExpr k ts) (target_line f ts)
  deep_target f before [] = tt
  deep_target f before (t ∷ ts) =
      deep_when (HasDeepExpr k (t ∷ ts)) (is_name t) _ (λ e. deep_line (t ∷ []) ts (λ c. attribute (f (record { name = t.text; condition = c }))) (before t e))

  deep_worded : (word : List ℕ) (f : Expr → Attribute) → ((t : Lexeme) (ts : List Lexeme) → is_the_word word t ≡ true → ComesToExpr k (t ∷ ts) ts)
      → (ts : List Lexeme) → OfDeep (HasDeepExpr k ts) (condition_line word f ts)
  deep_worded word f comes [] = tt
  deep_worded word f comes (t ∷ ts) =
      deep_when (HasDeepExpr k (t ∷ ts)) (is_the_word word t) _ (λ e. deep_bind (HasDeepExpr k (t ∷ ts)) (last_condition ts) _
      (deep_map (IsDeep ts) (HasDeepExpr k (t ∷ ts)) (last_condition ts) (λ h. (ts, h.0, comes t ts e, h.1)) (deep_condition ts)) (λ c h. tt))

  of_parsed : (ts : List Lexeme) (r : ParsedExpr) → leading_expr ts ≡ Ok r → IsParsed ts r
  of_parsed ts r e = subst (OfOk (IsParsed ts)) e (leading ts)

  deep_default : (f : DefaultAttribute → Attribute) → ((ts : List Lexeme) → ComesToExpr k ts ts)
      → ((ts : List Lexeme) (e : Expr) → IsExpr ors MAX_EXPR_DEPTH ts e → IsBeforeIf k ts)
      → (ts : List Lexeme) → OfDeep (HasDeepExpr k ts) (default_line f ts)
  deep_default f comes before ts =
      deep_bind (HasDeepExpr k ts) (leading_expr ts) _
      (deep_map (IsDeep ts) (HasDeepExpr k ts) (leading_expr ts) (λ h. (ts, h.0, comes ts, h.1)) (deep_leading ts)) (λ r e.
      let parsed = of_parsed ts r e in
      let parts : extent ts ++ r.rest ≡ ts = ap (λ us. extent ts ++ us) parsed.2 ∙ sym (extent_front ts) in
      subst (λ us. OfDeep {A = Statement} (HasDeepExpr k us)
      (optional_if r.rest >>= λ c. Ok (attribute (f (record { value = r.expr; single = r.single; condition = c; from_environment = false }))))) parts
      (deep_line (extent ts) r.rest (λ c. attribute (f (record { value = r.expr; single = r.single; condition = c; from_environment = false }))) (before (extent ts) r.expr parsed.0)))

deep_range_by : (t u : Lexeme) (ts : List Lexeme) (a b : Option Operand) → operand_of_lexeme t ≡ a → operand_of_lexeme u ≡ b
    → OfDeep (HasDeepExpr words.Range (t ∷ u ∷ ts)) (range_of_operands a b ts)
deep_range_by t u ts (Some a) (Some b) e f = deep_line words.Range (t ∷ u ∷ []) ts (λ c. attribute (range (record { low = a; high = b; condition = c })))
    (of_range e f)
deep_range_by t u ts (Some a) None e f = tt
deep_range_by t u ts None b e f = tt

deep_range : (ts : List Lexeme) → OfDeep (HasDeepExpr words.Range ts) (range_line ts)
deep_range [] = tt
deep_range (t ∷ []) = tt
deep_range (t ∷ u ∷ ts) = deep_range_by t u ts (operand_of_lexeme t) (operand_of_lexeme u) refl refl

deep_type : (k : Kind) (ts : List Lexeme) → OfDeep (HasDeepExpr (words.Type k) ts) (type_line k ts)
deep_type k [] = tt
deep_type k (t ∷ ts) = deep_prompt (words.Type k) (typed_prompt k) (λ t e. of_type e) (t ∷ ts)

deep_config : (P : Type 0) (ts : List Lexeme) → OfDeep P (config_line ts)
deep_config P [] = tt
deep_config P (t ∷ ts) = deep_when P (is_name t) _ (λ e. deep_last P _ ts)

deep_titled : (P : Type 0) (f : List ℕ → Head) (ts : List Lexeme) → OfDeep P (titled_line f ts)
deep_titled P f [] = tt
deep_titled P f (t ∷ ts) = deep_when P (is_quoted_kind t.kind) _ (λ e. deep_last P _ ts)

deep_source_by : (P : Type 0) (o : Option (List ℕ)) (ts : List Lexeme)
    → OfDeep P (elim o as (λ _. Result Statement TreeKind) [ None ↦ Err Malformed | Some path ↦ no_more (head (source path)) ts ])
deep_source_by P None ts = tt
deep_source_by P (Some path) ts = deep_last P _ ts

deep_source : (P : Type 0) (ts : List Lexeme) → OfDeep P (source_line ts)
deep_source P [] = tt
deep_source P (t ∷ ts) = deep_source_by P (path_of t) ts

deep_environment_by : (P : Type 0) (o : Option Operand) (ts : List Lexeme) → OfDeep P (environment_of_operand o ts)
deep_environment_by P None ts = tt
deep_environment_by P (Some text) ts = deep_last P _ ts

deep_environment : (P : Type 0) (ts : List Lexeme) → OfDeep P (environment_line ts)
deep_environment P [] = tt
deep_environment P (t ∷ ts) = deep_when P (is_quoted_kind t.kind) _ (λ e. deep_environment_by P (operand_of_lexeme t) ts)

deep_option_by : (P : Type 0) (t : Lexeme) (ts : List Lexeme) (b : Bool)
    → OfDeep P (cond b (no_more (attribute modules) ts) (cond (is_the_word (codes "env") t) (environment_line ts) (Err Malformed)))
deep_option_by P t ts true = deep_last P _ ts
deep_option_by P t ts false = deep_when P (is_the_word (codes "env") t) _ (λ e. deep_environment P ts)

deep_option : (P : Type 0) (ts : List Lexeme) → OfDeep P (option_line ts)
deep_option P [] = tt
deep_option P (t ∷ ts) = deep_option_by P t ts (is_the_word (codes "modules") t)

deep_form : (k : Keyword) (ts : List Lexeme) → OfDeep (HasDeepExpr k ts) (statement_of k ts)
deep_form words.Config ts = deep_config _ ts
deep_form words.Choice ts = deep_last _ _ ts
deep_form words.Menu ts = deep_titled _ menu ts
deep_form words.If ts =
    deep_bind (HasDeepExpr words.If ts) (last_condition ts) _
    (deep_map (IsDeep ts) (HasDeepExpr words.If ts) (last_condition ts) (λ h. (ts, h.0, at_if, h.1)) (deep_condition ts)) (λ c h. tt)
deep_form words.Comment ts = deep_titled _ comment ts
deep_form words.Source ts = deep_source _ ts
deep_form words.Mainmenu ts = deep_titled _ (λ _. mainmenu) ts
deep_form (words.End b) ts = deep_last _ _ ts
deep_form (words.Type k) ts = deep_type k ts
deep_form (words.DefaultType k) ts = deep_default (words.DefaultType k) (typed_default k) (λ ts. at_type_default) (λ ts e h. of_type_default h) ts
deep_form words.Prompt ts = deep_prompt words.Prompt prompt (λ t e. of_prompt e) ts
deep_form words.Default ts = deep_default words.Default default (λ ts. at_default) (λ ts e h. of_default h) ts
deep_form words.Depends ts = deep_worded words.Depends (codes "on") depends (λ t ts e. at_depends e) ts
deep_form words.Select ts = deep_target words.Select select (λ t e. of_select e) ts
deep_form words.Imply ts = deep_target words.Imply imply (λ t e. of_imply e) ts
deep_form words.Range ts = deep_range ts
deep_form words.Visible ts = deep_worded words.Visible (codes "if") visible (λ t ts e. at_visible e) ts
deep_form words.Help ts = deep_last _ _ ts
deep_form words.Modules ts = deep_last _ _ ts
deep_form words.Option ts = deep_option _ ts
deep_form words.Optional ts = deep_last _ _ ts
deep_form words.LeftOut ts = tt

-- and the other way round
leading_deep : (ts : List Lexeme) → IsDeep ts → leading_expr ts ≡ Err TooDeep
leading_deep ts h =
    ap (λ r. elim r as (λ _. Result ParsedExpr TreeKind) [
      | Ok e ↦ Ok
          (record { expr = e; single = length (extent ts) == 1; rest = drop (length (extent ts)) ts })
      | Err f ↦ Err (kind_of_fault f.0)
    ])
    (fault_read (extent ts) (expr_kinds.TooDeep, h.0) h.1)

condition_deep : (ts : List Lexeme) → IsDeep ts → last_condition ts ≡ Err TooDeep
condition_deep ts h = ap (λ r. r >>= λ x. no_more (conditional x.expr) x.rest) (leading_deep ts h)

when_deep : {A : Type 0} (b : Bool) (r : Result A TreeKind) → b ≡ true → r ≡ Err TooDeep → cond b r (Err Malformed) ≡ Err TooDeep
when_deep b r e h = ap (λ y. cond y r (Err Malformed)) e ∙ h

-- with an `if` before it
module _ (t : Lexeme) (ts : List Lexeme) (word : is_the_word (codes "if") t ≡ true) (deep : IsDeep ts) where
  optional_deep : {A : Type 0} (f : Option Expr → A) → (optional_if (t ∷ ts) >>= λ c. Ok (f c)) ≡ Err TooDeep
  optional_deep f = ap (λ r. r >>= λ c. Ok (f c)) (when_deep _ _ word (ap (λ r. r >>= λ c. Ok (Some c)) (condition_deep ts deep)))

  default_deep : (f : DefaultAttribute → Attribute) (front : List Lexeme) (e : Expr) → IsExpr ors MAX_EXPR_DEPTH front e
      → default_line f (front ++ t ∷ ts) ≡ Err TooDeep
  default_deep f front e h =
      ap (λ r. r >>= λ x. optional_if x.rest >>= λ c. Ok (attribute (f (record { value = x.expr; single = x.single; condition = c; from_environment = false }))))
      (front_read front (t ∷ ts) e h (ends_by t (codes "if") word))
      ∙ optional_deep (λ c. attribute (f (record { value = e; single = length front == 1; condition = c; from_environment = false })))

  deep_after : {k : Keyword} {front : List Lexeme} → IsBeforeIf k front → statement_of k (front ++ t ∷ ts) ≡ Err TooDeep
  deep_after (of_type {k = k} e) = when_deep _ _ e (optional_deep (λ c. attribute (typed_prompt k c)))
  deep_after (of_prompt e) = when_deep _ _ e (optional_deep (λ c. attribute (prompt c)))
  deep_after (of_type_default {k = k} {ts = front} {e = e} h) = default_deep (typed_default k) front e h
  deep_after (of_default {ts = front} {e = e} h) = default_deep default front e h
  deep_after (of_select {t = u} e) = when_deep _ _ e (optional_deep (λ c. attribute (select (record { name = u.text; condition = c }))))
  deep_after (of_imply {t = u} e) = when_deep _ _ e (optional_deep (λ c. attribute (imply (record { name = u.text; condition = c }))))
  deep_after (of_range {u = u} {a = a} {b = b} e f) =
      ap (λ x. range_of_operands x (operand_of_lexeme u) (t ∷ ts)) e ∙ ap (λ x. range_of_operands (Some a) x (t ∷ ts)) f
      ∙ optional_deep (λ c. attribute (range (record { low = a; high = b; condition = c })))

deep_at : {k : Keyword} {ts us : List Lexeme} → ComesToExpr k ts us → IsDeep us → statement_of k ts ≡ Err TooDeep
deep_at (at_if {ts = ts}) h = ap (λ r. r >>= λ c. Ok (head (condition c))) (condition_deep ts h)
deep_at (at_type_default {k = k} {ts = ts}) h = ap
    (λ r. r >>= λ x. optional_if x.rest >>= λ c. Ok (attribute (typed_default k (record { value = x.expr; single = x.single; condition = c; from_environment = false }))))
    (leading_deep ts h)
deep_at (at_default {ts = ts}) h = ap
    (λ r. r >>= λ x. optional_if x.rest >>= λ c. Ok (attribute (default (record { value = x.expr; single = x.single; condition = c; from_environment = false })))) (leading_deep ts h)
deep_at (at_depends {ts = ts} e) h = when_deep _ _ e (ap (λ r. r >>= λ c. Ok (attribute (depends c))) (condition_deep ts h))
deep_at (at_visible {ts = ts} e) h = when_deep _ _ e (ap (λ r. r >>= λ c. Ok (attribute (visible c))) (condition_deep ts h))
deep_at (after_if {ts = ts} t before e) h = deep_after t ts e h before

of_deep : {A : Type 0} (P : Type 0) (r : Result A TreeKind) → r ≡ Err TooDeep → OfDeep P r → P
of_deep P r e h = subst (OfDeep P) e h

pub deep_related : (k : Keyword) (ts : List Lexeme) → (statement_of k ts ≡ Err TooDeep) ↔ HasDeepExpr k ts
deep_related k ts = ((λ e. of_deep (HasDeepExpr k ts) (statement_of k ts) e (deep_form k ts)), (λ h. deep_at h.2 (h.1, h.3)))
