-- A line has the form that is read of it.
use Rattle.kc_tree_model.proofs.Common.{◌≡◌, ℕ, Bool, true, false, cond, List, [], ◌∷◌, ◌++◌, length, drop, Option, Some, None, Result, Ok, Err, refl, ap, sym, ◌∙◌, subst, and_parts, bytes_eq-Decides, ◌↔◌, ◌==◌, codes, bytes_eq, Kind, MAX_EXPR_DEPTH, ExprKind, Word, Lexeme, Expr, Operand}
use Rattle.kc_tree_model.proofs.Common.{conditional, quoted_text, IsExpr, ors, extent, operand_of_lexeme, is_operand_kind, expr_sound, TreeKind, Malformed, Head, config, choice, menu, condition, comment, source, mainmenu, ends, DefaultAttribute, environment_default, TargetAttribute, Attribute}
use Rattle.kc_tree_model.proofs.Common.{typed_prompt, typed_default, prompt, default, depends, select, imply, range, visible, help, modules, optional, Statement, head, attribute, is_name, is_quoted_kind, is_the_word, Keyword, ◌>>=◌, kind_of_fault, ParsedExpr, leading_expr, no_more, last_condition}
use Rattle.kc_tree_model.proofs.Common.{optional_if, config_line, titled_line, path_of, source_line, prompt_line, type_line, default_line, target_line, range_of_operands, range_line, condition_line, environment_of_operand, environment_line, option_line, statement_of, IsForm}
use Rattle.std.proofs.lemmas.List.{append-nil}
use Rattle.std.specs.Prelude.{◌&&◌}
use Rattle.kc_expr.specs.Grammar.{read_expr}
use Rattle.kc_expr.proofs.GrammarComplete.{expr_complete}
use Rattle.kc_tree_model.specs.Keywords.{is_word_kind}
use Rattle.kc_tree_model.specs.declared.keyword.Keyword.TheVariants as words
use Rattle.kc_tree_model.specs.FormGrammar.{IsCondition, IsOptionalIf, no_if, with_if, IsDefault, config_form, choice_form, menu_form, if_form, comment_form, source_form, mainmenu_form, end_form, type_form, type_prompt_form, type_default_form, prompt_form, default_form, depends_form, select_form}
use Rattle.kc_tree_model.specs.FormGrammar.{imply_form, range_form, visible_form, help_form, modules_form, option_form, environment_form, optional_form}
use Rattle.kc_tree_model.proofs.ReadingLaws.TightTokens.{EndsExpr, expr_tight, extent_tight, extent_front, drop_front}

-- if a result has no fault, its value has the property `P`
abbrev pub OfOk : {A : Type 0} → (A → Type 0) → Result A TreeKind → Type 0
OfOk P (Ok x) = P x
OfOk P (Err e) = Unit {0}

ok_bind : {A B : Type 0} (P : A → Type 0) (Q : B → Type 0) (r : Result A TreeKind) (f : A → Result B TreeKind) → OfOk P r → ((x : A) → P x → OfOk Q (f x))
    → OfOk Q (r >>= f)
ok_bind P Q (Ok x) f h k = k x h
ok_bind P Q (Err e) f h k = tt

ok_when : {A : Type 0} (P : A → Type 0) (b : Bool) (r : Result A TreeKind) → (b ≡ true → OfOk P r) → OfOk P (cond b r (Err Malformed))
ok_when P true r h = h refl
ok_when P false r h = tt

ok_last : {A : Type 0} (P : A → Type 0) (x : A) (ts : List Lexeme) → (ts ≡ [] → P x) → OfOk P (no_more x ts)
ok_last P x [] h = h refl
ok_last P x (t ∷ ts) h = tt

-- what was read at the front of these tokens is their expression, whether it is one operand, and the tokens after it
abbrev pub IsParsed : List Lexeme → ParsedExpr → Type 0
IsParsed ts r = IsExpr ors MAX_EXPR_DEPTH (extent ts) r.expr × (r.single ≡ (length (extent ts) == 1)) × (r.rest ≡ drop (length (extent ts)) ts)

leading_by : (ts : List Lexeme) (r : Result Expr (ExprKind × List Lexeme)) → read_expr (extent ts) ≡ r
    → OfOk (IsParsed ts)
    (elim r as (λ _. Result ParsedExpr TreeKind) [
      | Ok e ↦ Ok
          (record { expr = e; single = length (extent ts) == 1; rest = drop (length (extent ts)) ts })
      | Err f ↦ Err (kind_of_fault f.0)
    ])
leading_by ts (Ok e) h = (expr_sound (extent ts) e h, refl, refl)
leading_by ts (Err f) h = tt

pub leading : (ts : List Lexeme) → OfOk (IsParsed ts) (leading_expr ts)
leading ts = leading_by ts (read_expr (extent ts)) refl

whole_extent : (ts : List Lexeme) → drop (length (extent ts)) ts ≡ [] → extent ts ≡ ts
whole_extent ts h = sym (append-nil (extent ts)) ∙ ap (λ us. extent ts ++ us) (sym h) ∙ sym (extent_front ts)

is_condition : (ts : List Lexeme) → OfOk (IsCondition ts) (last_condition ts)
is_condition ts =
    ok_bind (IsParsed ts) (IsCondition ts) (leading_expr ts) _ (leading ts) (λ r h. ok_last (IsCondition ts) (conditional r.expr) r.rest (λ e.
    (r.expr, subst (λ us. IsExpr ors MAX_EXPR_DEPTH us r.expr) (whole_extent ts (sym h.2 ∙ e)) h.0, refl)))

is_optional_if : (ts : List Lexeme) → OfOk (IsOptionalIf ts) (optional_if ts)
is_optional_if [] = no_if
is_optional_if (t ∷ ts) =
    ok_when (IsOptionalIf (t ∷ ts)) (is_the_word (codes "if") t) _
    (λ e. ok_bind (IsCondition ts) (IsOptionalIf (t ∷ ts)) (last_condition ts) _ (is_condition ts) (λ c h. with_if e h))

is_config : (ts : List Lexeme) → OfOk (IsForm words.Config ts) (config_line ts)
is_config [] = tt
is_config (t ∷ ts) =
    ok_when (IsForm words.Config (t ∷ ts)) (is_name t) _ (λ e. ok_last (IsForm words.Config (t ∷ ts)) (head (config t.text)) ts (λ none.
    subst (λ us. IsForm words.Config (t ∷ us) (head (config t.text))) (sym none) (config_form e)))

is_titled : (k : Keyword) (f : List ℕ → Head) → ((t : Lexeme) → is_quoted_kind t.kind ≡ true → IsForm k (t ∷ []) (head (f (quoted_text t.text))))
    → (ts : List Lexeme) → OfOk (IsForm k ts) (titled_line f ts)
is_titled k f form [] = tt
is_titled k f form (t ∷ ts) =
    ok_when (IsForm k (t ∷ ts)) (is_quoted_kind t.kind) _ (λ e. ok_last (IsForm k (t ∷ ts)) (head (f (quoted_text t.text))) ts (λ none.
    subst (λ us. IsForm k (t ∷ us) (head (f (quoted_text t.text)))) (sym none) (form t e)))

is_last : (k : Keyword) (s : Statement) → IsForm k [] s → (ts : List Lexeme) → OfOk (IsForm k ts) (no_more s ts)
is_last k s form ts = ok_last (IsForm k ts) s ts (λ none. subst (λ us. IsForm k us s) (sym none) form)

is_source_by : (t : Lexeme) (o : Option (List ℕ)) (ts : List Lexeme) → path_of t ≡ o
    → OfOk (IsForm words.Source (t ∷ ts)) (elim o as (λ _. Result Statement TreeKind) [ None ↦ Err Malformed | Some path ↦ no_more (head (source path)) ts ])
is_source_by t None ts e = tt
is_source_by t (Some path) ts e =
    ok_last (IsForm words.Source (t ∷ ts)) (head (source path)) ts
    (λ none. subst (λ us. IsForm words.Source (t ∷ us) (head (source path))) (sym none) (source_form e))

is_source : (ts : List Lexeme) → OfOk (IsForm words.Source ts) (source_line ts)
is_source [] = tt
is_source (t ∷ ts) = is_source_by t (path_of t) ts refl

is_prompt_form : (k : Keyword) (f : Option Expr → Attribute)
    → ((t : Lexeme) (ts : List Lexeme) (c : Option Expr) → is_quoted_kind t.kind ≡ true → IsOptionalIf ts c → IsForm k (t ∷ ts) (attribute (f c)))
    → (ts : List Lexeme) → OfOk (IsForm k ts) (prompt_line f ts)
is_prompt_form k f form [] = tt
is_prompt_form k f form (t ∷ ts) =
    ok_when (IsForm k (t ∷ ts)) (is_quoted_kind t.kind) _
    (λ e. ok_bind (IsOptionalIf ts) (IsForm k (t ∷ ts)) (optional_if ts) _ (is_optional_if ts) (λ c h. form t ts c e h))

is_type : (k : Kind) (ts : List Lexeme) → OfOk (IsForm (words.Type k) ts) (type_line k ts)
is_type k [] = type_form
is_type k (t ∷ ts) = is_prompt_form (words.Type k) (typed_prompt k) (λ t ts c e h. type_prompt_form e h) (t ∷ ts)

is_default : (k : Keyword) (f : DefaultAttribute → Attribute) → ((ts : List Lexeme) (d : DefaultAttribute) → IsDefault ts d → IsForm k ts (attribute (f d)))
    → (ts : List Lexeme) → OfOk (IsForm k ts) (default_line f ts)
is_default k f form ts =
    ok_bind (IsParsed ts) (IsForm k ts) (leading_expr ts) _ (leading ts)
    (λ r h. ok_bind (IsOptionalIf r.rest) (IsForm k ts) (optional_if r.rest) _ (is_optional_if r.rest) (λ c j.
    form ts (record { value = r.expr; single = r.single; condition = c; from_environment = false }) (record {
      front = extent ts;
      rest = r.rest;
      parts = extent_front ts ∙ ap (λ us. extent ts ++ us) (sym h.2);
      value = h.0;
      single = h.1;
      optional = j;
      own = refl;
    })))

is_target : (k : Keyword) (f : TargetAttribute → Attribute)
    → ((t : Lexeme) (ts : List Lexeme) (c : Option Expr) → is_name t ≡ true → IsOptionalIf ts c → IsForm k (t ∷ ts)
    (attribute (f (record { name = t.text; condition = c }))))
    → (ts : List Lexeme) → OfOk (IsForm k ts) (target_line f ts)
is_target k f form [] = tt
is_target k f form (t ∷ ts) =
    ok_when (IsForm k (t ∷ ts)) (is_name t) _
    (λ e. ok_bind (IsOptionalIf ts) (IsForm k (t ∷ ts)) (optional_if ts) _ (is_optional_if ts) (λ c h. form t ts c e h))

is_range_by : (t u : Lexeme) (ts : List Lexeme) (a b : Option Operand) → operand_of_lexeme t ≡ a → operand_of_lexeme u ≡ b
    → OfOk (IsForm words.Range (t ∷ u ∷ ts)) (range_of_operands a b ts)
is_range_by t u ts (Some a) (Some b) e f =
    ok_bind (IsOptionalIf ts) (IsForm words.Range (t ∷ u ∷ ts)) (optional_if ts) _ (is_optional_if ts) (λ c h. range_form e f h)
is_range_by t u ts (Some a) None e f = tt
is_range_by t u ts None b e f = tt

is_range : (ts : List Lexeme) → OfOk (IsForm words.Range ts) (range_line ts)
is_range [] = tt
is_range (t ∷ []) = tt
is_range (t ∷ u ∷ ts) = is_range_by t u ts (operand_of_lexeme t) (operand_of_lexeme u) refl refl

is_worded : (k : Keyword) (word : List ℕ) (f : Expr → Attribute)
    → ((t : Lexeme) (ts : List Lexeme) (c : Expr) → is_the_word word t ≡ true → IsCondition ts c → IsForm k (t ∷ ts) (attribute (f c))) →
    (ts : List Lexeme) → OfOk (IsForm k ts) (condition_line word f ts)
is_worded k word f form [] = tt
is_worded k word f form (t ∷ ts) =
    ok_when (IsForm k (t ∷ ts)) (is_the_word word t) _
    (λ e. ok_bind (IsCondition ts) (IsForm k (t ∷ ts)) (last_condition ts) _ (is_condition ts) (λ c h. form t ts c e h))

is_environment_by : (t u : Lexeme) (o : Option Operand) (ts : List Lexeme) → is_the_word (codes "env") t ≡ true → is_quoted_kind u.kind ≡ true
    → operand_of_lexeme u ≡ o → OfOk (IsForm words.Option (t ∷ u ∷ ts)) (environment_of_operand o ts)
is_environment_by t u None ts e q h = tt
is_environment_by t u (Some text) ts e q h =
    ok_last (IsForm words.Option (t ∷ u ∷ ts)) (attribute (default (environment_default text))) ts
    (λ none. subst (λ us. IsForm words.Option (t ∷ u ∷ us) (attribute (default (environment_default text)))) (sym none) (environment_form e q h))

is_environment : (t : Lexeme) (ts : List Lexeme) → is_the_word (codes "env") t ≡ true → OfOk (IsForm words.Option (t ∷ ts)) (environment_line ts)
is_environment t [] e = tt
is_environment t (u ∷ ts) e =
    ok_when (IsForm words.Option (t ∷ u ∷ ts)) (is_quoted_kind u.kind) _ (λ q. is_environment_by t u (operand_of_lexeme u) ts e q refl)

is_option_by : (t : Lexeme) (ts : List Lexeme) (b : Bool) → is_the_word (codes "modules") t ≡ b
    → OfOk (IsForm words.Option (t ∷ ts)) (cond b (no_more (attribute modules) ts) (cond (is_the_word (codes "env") t) (environment_line ts) (Err Malformed)))
is_option_by t ts true e =
    ok_last (IsForm words.Option (t ∷ ts)) (attribute modules) ts
    (λ none. subst (λ us. IsForm words.Option (t ∷ us) (attribute modules)) (sym none) (option_form e))
is_option_by t ts false e = ok_when (IsForm words.Option (t ∷ ts)) (is_the_word (codes "env") t) _ (is_environment t ts)

is_option : (ts : List Lexeme) → OfOk (IsForm words.Option ts) (option_line ts)
is_option [] = tt
is_option (t ∷ ts) = is_option_by t ts (is_the_word (codes "modules") t) refl

pub form_is : (k : Keyword) (ts : List Lexeme) → OfOk (IsForm k ts) (statement_of k ts)
form_is words.Config ts = is_config ts
form_is words.Choice ts = is_last words.Choice (head choice) choice_form ts
form_is words.Menu ts = is_titled words.Menu menu (λ t e. menu_form e) ts
form_is words.If ts = ok_bind (IsCondition ts) (IsForm words.If ts) (last_condition ts) _ (is_condition ts) (λ c h. if_form h)
form_is words.Comment ts = is_titled words.Comment comment (λ t e. comment_form e) ts
form_is words.Source ts = is_source ts
form_is words.Mainmenu ts = is_titled words.Mainmenu (λ _. mainmenu) (λ t e. mainmenu_form e) ts
form_is (words.End b) ts = is_last (words.End b) (head (ends b)) end_form ts
form_is (words.Type k) ts = is_type k ts
form_is (words.DefaultType k) ts = is_default (words.DefaultType k) (typed_default k) (λ ts d h. type_default_form h) ts
form_is words.Prompt ts = is_prompt_form words.Prompt prompt (λ t ts c e h. prompt_form e h) ts
form_is words.Default ts = is_default words.Default default (λ ts d h. default_form h) ts
form_is words.Depends ts = is_worded words.Depends (codes "on") depends (λ t ts c e h. depends_form e h) ts
form_is words.Select ts = is_target words.Select select (λ t ts c e h. select_form e h) ts
form_is words.Imply ts = is_target words.Imply imply (λ t ts c e h. imply_form e h) ts
form_is words.Range ts = is_range ts
form_is words.Visible ts = is_worded words.Visible (codes "if") visible (λ t ts c e h. visible_form e h) ts
form_is words.Help ts = is_last words.Help (attribute help) help_form ts
form_is words.Modules ts = is_last words.Modules (attribute modules) modules_form ts
form_is words.Option ts = is_option ts
form_is words.Optional ts = is_last words.Optional (attribute optional) optional_form ts
form_is words.LeftOut ts = tt

-- a token that is this word is an operand, and so ends an expression before it
pub ends_by : (t : Lexeme) (word : List ℕ) → is_the_word word t ≡ true → is_operand_kind t.kind ≡ true
ends_by t word e = word_operand t.kind (and_parts (is_word_kind t.kind) (bytes_eq t.text word) e).0
  where
    word_operand : (kind : _) → is_word_kind kind ≡ true → is_operand_kind kind ≡ true
    word_operand Word h = refl
    word_operand kind h = cc

ends_expr : {ts : List Lexeme} {c : Option Expr} → IsOptionalIf ts c → EndsExpr ts
ends_expr no_if = tt
ends_expr (with_if {t = t} e h) = ends_by t (codes "if") e

-- tokens that are an expression, before tokens that end it, are read as that expression and the tokens after it
pub front_read : (front rest : List Lexeme) (e : Expr) → IsExpr ors MAX_EXPR_DEPTH front e → EndsExpr rest
    → leading_expr (front ++ rest) ≡ Ok (record { expr = e; single = length front == 1; rest = rest })
front_read front rest e h after =
    let same : extent (front ++ rest) ≡ front = extent_tight front rest (expr_tight h) after in
    ap (λ us. elim (read_expr us) as
    (λ _. Result ParsedExpr TreeKind) [
      | Ok e ↦ Ok (record { expr = e; single = length us == 1; rest = drop (length us) (front ++ rest) })
      | Err f ↦ Err
          (kind_of_fault f.0)
    ]) same
    ∙ ap (λ r. elim r as
    (λ _. Result ParsedExpr TreeKind) [
      | Ok e ↦ Ok
          (record { expr = e; single = length front == 1; rest = drop (length front) (front ++ rest) })
      | Err f ↦ Err (kind_of_fault f.0)
    ])
    (expr_complete front e h)
    ∙ ap (λ us. Ok (record { expr = e; single = length front == 1; rest = us })) (drop_front front rest)

condition_read : (ts : List Lexeme) (c : Expr) → IsCondition ts c → last_condition ts ≡ Ok c
condition_read ts c h =
    ap (λ us. leading_expr us >>= λ r. no_more (conditional r.expr) r.rest) (sym (append-nil ts))
    ∙ ap (λ x. x >>= λ r. no_more (conditional r.expr) r.rest) (front_read ts [] h.0 h.1 tt)
    ∙ ap Ok (sym h.2)

optional_read : {ts : List Lexeme} {c : Option Expr} → IsOptionalIf ts c → optional_if ts ≡ Ok c
optional_read no_if = refl
optional_read (with_if {ts = ts} {c = c} e h) =
    ap (λ b. cond b (last_condition ts >>= λ x. Ok (Some x)) (Err Malformed)) e ∙ ap (λ r. r >>= λ x. Ok (Some x)) (condition_read ts c h)

pub when_read : {A : Type 0} (b : Bool) (r : Result A TreeKind) (x : A) → b ≡ true → r ≡ Ok x → cond b r (Err Malformed) ≡ Ok x
when_read b r x e h = ap (λ y. cond y r (Err Malformed)) e ∙ h

default_read : (f : DefaultAttribute → Attribute) (ts : List Lexeme) (d : DefaultAttribute) → IsDefault ts d → default_line f ts ≡ Ok (attribute (f d))
default_read f ts d h =
    ap (λ us. default_line f us) h.parts
    ∙ ap (λ r. r >>= λ e. optional_if e.rest >>= λ c. Ok (attribute (f (record { value = e.expr; single = e.single; condition = c; from_environment = false }))))
    (front_read h.front h.rest d.value h.value (ends_expr h.optional))
    ∙ ap (λ r. r >>= λ c. Ok (attribute (f (record { value = d.value; single = length h.front == 1; condition = c; from_environment = false })))) (optional_read h.optional)
    ∙ ap (λ b. Ok (attribute (f (record { value = d.value; single = b; condition = d.condition; from_environment = false })))) (sym h.single)
    ∙ ap (λ b. Ok (attribute (f (record { value = d.value; single = d.single; condition = d.condition; from_environment = b })))) (sym h.own)

with_optional : (f : Option Expr → Statement) (ts : List Lexeme) (c : Option Expr) → IsOptionalIf ts c → (optional_if ts >>= λ x. Ok (f x)) ≡ Ok (f c)
with_optional f ts c h = ap (λ r. r >>= λ x. Ok (f x)) (optional_read h)

with_condition : (f : Expr → Statement) (ts : List Lexeme) (c : Expr) → IsCondition ts c → (last_condition ts >>= λ x. Ok (f x)) ≡ Ok (f c)
with_condition f ts c h = ap (λ r. r >>= λ x. Ok (f x)) (condition_read ts c h)

-- the word `env` isn't `modules`
no_modules : (t : Lexeme) → is_the_word (codes "env") t ≡ true → is_the_word (codes "modules") t ≡ false
no_modules t e =
    let h = and_parts (is_word_kind t.kind) (bytes_eq t.text (codes "env")) e in
    let same : t.text ≡ codes "env" = (bytes_eq-Decides t.text (codes "env")).0 h.1 in
    ap (λ b. b && bytes_eq t.text (codes "modules")) h.0 ∙ ap (λ x. bytes_eq x (codes "modules")) same

pub form_read : {k : Keyword} {ts : List Lexeme} {s : Statement} → IsForm k ts s → statement_of k ts ≡ Ok s
form_read (config_form e) = when_read _ _ _ e refl
form_read choice_form = refl
form_read (menu_form e) = when_read _ _ _ e refl
form_read (if_form {ts = ts} {c = c} h) = with_condition (λ x. head (condition x)) ts c h
form_read (comment_form e) = when_read _ _ _ e refl
form_read (source_form {path = path} e) = ap (λ o. elim o as (λ _. Result Statement TreeKind) [ None ↦ Err Malformed | Some x ↦ Ok (head (source x)) ]) e
form_read (mainmenu_form e) = when_read _ _ _ e refl
form_read end_form = refl
form_read type_form = refl
form_read (type_prompt_form {k = k} {ts = ts} {c = c} e h) = when_read _ _ _ e (with_optional (λ x. attribute (typed_prompt k x)) ts c h)
form_read (type_default_form {k = k} {ts = ts} {d = d} h) = default_read (typed_default k) ts d h
form_read (prompt_form {ts = ts} {c = c} e h) = when_read _ _ _ e (with_optional (λ x. attribute (prompt x)) ts c h)
form_read (default_form {ts = ts} {d = d} h) = default_read default ts d h
form_read (depends_form {ts = ts} {c = c} e h) = when_read _ _ _ e (with_condition (λ x. attribute (depends x)) ts c h)
form_read (select_form {t = t} {ts = ts} {c = c} e h) = when_read _ _ _ e
    (with_optional (λ x. attribute (select (record { name = t.text; condition = x }))) ts c h)
form_read (imply_form {t = t} {ts = ts} {c = c} e h) = when_read _ _ _ e
    (with_optional (λ x. attribute (imply (record { name = t.text; condition = x }))) ts c h)
form_read (range_form {u = u} {ts = ts} {a = a} {b = b} {c = c} e f h) =
    ap (λ x. range_of_operands x (operand_of_lexeme u) ts) e ∙ ap (λ x. range_of_operands (Some a) x ts) f
    ∙ with_optional (λ x. attribute (range (record { low = a; high = b; condition = x }))) ts c h
form_read (visible_form {ts = ts} {c = c} e h) = when_read _ _ _ e (with_condition (λ x. attribute (visible x)) ts c h)
form_read help_form = refl
form_read modules_form = refl
form_read (option_form {t = t} e) = ap (λ b. cond b (Ok (attribute modules)) (cond (is_the_word (codes "env") t) (Err Malformed) (Err Malformed))) e
form_read (environment_form {t = t} {u = u} {text = text} e q h) =
    ap (λ b. cond b (Err Malformed) (cond (is_the_word (codes "env") t) (environment_line (u ∷ [])) (Err Malformed))) (no_modules t e)
    ∙ ap (λ b. cond b (environment_line (u ∷ [])) (Err Malformed)) e ∙ ap (λ b. cond b (environment_of_operand (operand_of_lexeme u) []) (Err Malformed)) q
    ∙ ap (λ o. environment_of_operand o []) h
form_read optional_form = refl

of_ok : {A : Type 0} (P : A → Type 0) (r : Result A TreeKind) (x : A) → r ≡ Ok x → OfOk P r → P x
of_ok P r x e h = subst (OfOk P) e h

pub forms_related : (k : Keyword) (ts : List Lexeme) (s : Statement) → (statement_of k ts ≡ Ok s) ↔ IsForm k ts s
forms_related k ts s = ((λ e. of_ok (IsForm k ts) (statement_of k ts) s e (form_is k ts)), form_read)
