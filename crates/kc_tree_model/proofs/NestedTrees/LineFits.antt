-- A line's statement fits the groups read before: an end matches the innermost block, and an attribute has an open entry.
use Rattle.kc_tree_model.proofs.Common.{ap, ◌∙◌, ◌≡◌, ℕ, Bool, true, false, not, cond, List, [], ◌∷◌, ◌++◌, Option, Some, None, Result, Ok, Err, IsUtf8, refl, sym, subst, length, nat_lt, codes, Language, Kind, Expr, Operand, alone, Lexeme, lexemes_from, quoted_text, operand_of_lexeme, one_and}
use Rattle.kc_tree_model.proofs.Common.{one_factor, operand, ExprFault, TreeKind, Malformed, LeftOut, Misplaced, StrayEnd, TooDeep, TooMany, LineTooLong, NotUtf8, LogicalLine, Head, config, choice, menu, condition, comment, source, mainmenu, ends, DefaultAttribute, environment_default}
use Rattle.kc_tree_model.proofs.Common.{TargetAttribute, Attribute, typed_prompt, typed_default, prompt, default, depends, select, imply, range, visible, help, modules, optional, default_of, Statement, head, attribute, Block, keyword_of, is_name, is_quoted_kind, is_the_word, Keyword, ParsedExpr}
use Rattle.kc_tree_model.proofs.Common.{leading_expr, ◌>>=◌, statement_of, config_line, titled_line, source_line, path_of, prompt_line, type_line, default_line, target_line, range_of_operands, range_line, condition_line, environment_of_operand, environment_line, option_line, no_more, last_condition}
use Rattle.kc_tree_model.proofs.Common.{optional_if, Group, is_stray, open_entry, is_allowed, is_left_out, is_stray_end, OpenEntry, is_too_deep, is_too_many, MAX_LINE_BYTES, fault_if, statement_by_keyword, statement_of_tokens, statement_by_word, statement_or_fault}
use Rattle.std.specs.Str.{is_utf8}
use Rattle.std.proofs.lemmas.Str.{IsUtf8-from_is_utf8}
use Rattle.kc_tree_model.specs.declared.keyword.Keyword.TheVariants as words
use Rattle.kc_tree_model.specs.Forms.{choice_line}
use Rattle.kc_tree_model.specs.Placement.{allows_attribute, open_entry_allows}
use Rattle.kc_tree_model.proofs.ReadingLaws.FormLaws.{front_read}
use Rattle.kc_tree_model.specs.TreeReading.{statement_on_line}

-- the sort of a statement: a `config`, a default, the end of a block, an option, another attribute, or any other statement
pub data Sort : Type 0 where
  config_sort : Sort
  default_sort : Sort
  end_sort : Block → Sort
  option_sort : Sort
  attribute_sort : Sort
  other_sort : Sort

abbrev pub sort_of_head : Head → Sort
sort_of_head (config name) = config_sort
sort_of_head (ends b) = end_sort b
sort_of_head h = other_sort

abbrev sort_of_attribute : Attribute → Sort
sort_of_attribute (default d) = cond d.from_environment option_sort default_sort
sort_of_attribute (typed_default k d) = default_sort
sort_of_attribute modules = option_sort
sort_of_attribute a = attribute_sort

abbrev sort_of : Statement → Sort
sort_of (head h) = sort_of_head h
sort_of (attribute a) = sort_of_attribute a

abbrev pub sort_of_word : Keyword → Sort
sort_of_word words.Config = config_sort
sort_of_word words.Choice = other_sort
sort_of_word words.Menu = other_sort
sort_of_word words.If = other_sort
sort_of_word words.Comment = other_sort
sort_of_word words.Source = other_sort
sort_of_word words.Mainmenu = other_sort
sort_of_word (words.End b) = end_sort b
sort_of_word words.Default = default_sort
sort_of_word (words.DefaultType k) = default_sort
sort_of_word words.Modules = option_sort
sort_of_word words.Option = option_sort
sort_of_word k = attribute_sort

-- a line's statement is of this sort, unless it is refused
abbrev Gives : Sort → Result Statement TreeKind → Type 0
Gives t (Ok s) = sort_of s ≡ t
Gives t (Err e) = Unit {0}

gives_if : (b : Bool) (t : Sort) (r : Result Statement TreeKind) (e : TreeKind) → Gives t r → Gives t (cond b r (Err e))
gives_if true t r e h = h
gives_if false t r e h = tt

gives_last : (s : Statement) (ts : List Lexeme) (t : Sort) → sort_of s ≡ t → Gives t (no_more s ts)
gives_last s [] t h = h
gives_last s (p ∷ ts) t h = tt

gives_bind : {A : Type 0} (r : Result A TreeKind) (f : A → Result Statement TreeKind) (t : Sort) → ((x : A) → Gives t (f x)) → Gives t (r >>= f)
gives_bind (Ok x) f t h = h x
gives_bind (Err e) f t h = tt

gives_config : (ts : List Lexeme) → Gives config_sort (config_line ts)
gives_config [] = tt
gives_config (p ∷ ts) = gives_if (is_name p) config_sort (no_more (head (config p.text)) ts) Malformed (gives_last (head (config p.text)) ts config_sort refl)

gives_choice : (ts : List Lexeme) → Gives other_sort (choice_line ts)
gives_choice ts = gives_last (head choice) ts other_sort refl

gives_title : (f : List ℕ → Head) → ((x : List ℕ) → sort_of_head (f x) ≡ other_sort) → (ts : List Lexeme) → Gives other_sort (titled_line f ts)
gives_title f h [] = tt
gives_title f h (p ∷ ts) =
    gives_if (is_quoted_kind p.kind) other_sort (no_more (head (f (quoted_text p.text))) ts) Malformed
    (gives_last (head (f (quoted_text p.text))) ts other_sort (h (quoted_text p.text)))

gives_source_by : (o : Option (List ℕ)) (ts : List Lexeme) → Gives other_sort (elim o [ None ↦ Err Malformed | Some path ↦ no_more (head (source path)) ts ])
gives_source_by None ts = tt
gives_source_by (Some path) ts = gives_last (head (source path)) ts other_sort refl

gives_source : (ts : List Lexeme) → Gives other_sort (source_line ts)
gives_source [] = tt
gives_source (p ∷ ts) = gives_source_by (path_of p) ts

gives_prompt : (f : Option Expr → Attribute) → ((c : Option Expr) → sort_of_attribute (f c) ≡ attribute_sort) → (ts : List Lexeme)
    → Gives attribute_sort (prompt_line f ts)
gives_prompt f h [] = tt
gives_prompt f h (p ∷ ts) =
    gives_if (is_quoted_kind p.kind) attribute_sort (optional_if ts >>= λ c. Ok (attribute (f c))) Malformed
    (gives_bind (optional_if ts) (λ c. Ok (attribute (f c))) attribute_sort h)

gives_type : (k : Kind) (ts : List Lexeme) → Gives attribute_sort (type_line k ts)
gives_type k [] = refl
gives_type k (p ∷ ts) = gives_prompt (typed_prompt k) (λ c. refl) (p ∷ ts)

gives_default : (f : DefaultAttribute → Attribute)
    → ((v : Expr) (s : Bool) (c : Option Expr) → sort_of_attribute (f (record { value = v; single = s; condition = c; from_environment = false })) ≡ default_sort)
    → (ts : List Lexeme)
    → Gives default_sort (default_line f ts)
gives_default f h ts =
    gives_bind (leading_expr ts) (λ e. optional_if e.rest >>= λ c. Ok (attribute (f (record { value = e.expr; single = e.single; condition = c; from_environment = false }))))
    default_sort (λ e. gives_bind (optional_if e.rest) (λ c. Ok (attribute (f (record { value = e.expr; single = e.single; condition = c; from_environment = false })))) default_sort
    (h e.expr e.single))

gives_aimed : (f : TargetAttribute → Attribute) → ((a : TargetAttribute) → sort_of_attribute (f a) ≡ attribute_sort) → (ts : List Lexeme)
    → Gives attribute_sort (target_line f ts)
gives_aimed f h [] = tt
gives_aimed f h (p ∷ ts) =
    gives_if (is_name p) attribute_sort (optional_if ts >>= λ c. Ok (attribute (f (record { name = p.text; condition = c })))) Malformed
    (gives_bind (optional_if ts) (λ c. Ok (attribute (f (record { name = p.text; condition = c })))) attribute_sort
    (λ c. h (record { name = p.text; condition = c })))

gives_bounds : (a b : Option Operand) (ts : List Lexeme) → Gives attribute_sort (range_of_operands a b ts)
gives_bounds (Some a) (Some b) ts =
    gives_bind (optional_if ts) (λ c. Ok (attribute (range (record { low = a; high = b; condition = c })))) attribute_sort (λ c. refl)
gives_bounds (Some a) None ts = tt
gives_bounds None b ts = tt

gives_range : (ts : List Lexeme) → Gives attribute_sort (range_line ts)
gives_range [] = tt
gives_range (p ∷ []) = tt
gives_range (p ∷ q ∷ ts) = gives_bounds (operand_of_lexeme p) (operand_of_lexeme q) ts

gives_worded : (w : List ℕ) (f : Expr → Attribute) → ((e : Expr) → sort_of_attribute (f e) ≡ attribute_sort) → (ts : List Lexeme)
    → Gives attribute_sort (condition_line w f ts)
gives_worded w f h [] = tt
gives_worded w f h (p ∷ ts) =
    gives_if (is_the_word w p) attribute_sort (last_condition ts >>= λ e. Ok (attribute (f e))) Malformed
    (gives_bind (last_condition ts) (λ e. Ok (attribute (f e))) attribute_sort h)

gives_environment_by : (o : Option Operand) (ts : List Lexeme) → Gives option_sort (environment_of_operand o ts)
gives_environment_by None ts = tt
gives_environment_by (Some text) ts = gives_last (attribute (default (environment_default text))) ts option_sort refl

gives_environment : (ts : List Lexeme) → Gives option_sort (environment_line ts)
gives_environment [] = tt
gives_environment (p ∷ ts) =
    gives_if (is_quoted_kind p.kind) option_sort (environment_of_operand (operand_of_lexeme p) ts) Malformed (gives_environment_by (operand_of_lexeme p) ts)

gives_option_by : (p : Lexeme) (ts : List Lexeme) (b : Bool)
    → Gives option_sort (cond b (no_more (attribute modules) ts) (cond (is_the_word (codes "env") p) (environment_line ts) (Err Malformed)))
gives_option_by p ts true = gives_last (attribute modules) ts option_sort refl
gives_option_by p ts false = gives_if (is_the_word (codes "env") p) option_sort (environment_line ts) Malformed (gives_environment ts)

gives_option : (ts : List Lexeme) → Gives option_sort (option_line ts)
gives_option [] = tt
gives_option (p ∷ ts) = gives_option_by p ts (is_the_word (codes "modules") p)

gives_statement : (k : Keyword) (ts : List Lexeme) → Gives (sort_of_word k) (statement_of k ts)
gives_statement words.Config ts = gives_config ts
gives_statement words.Choice ts = gives_choice ts
gives_statement words.Menu ts = gives_title menu (λ _. refl) ts
gives_statement words.If ts = gives_bind (last_condition ts) (λ e. Ok (head (condition e))) other_sort (λ e. refl)
gives_statement words.Comment ts = gives_title comment (λ _. refl) ts
gives_statement words.Source ts = gives_source ts
gives_statement words.Mainmenu ts = gives_title (λ _. mainmenu) (λ _. refl) ts
gives_statement (words.End b) ts = gives_last (head (ends b)) ts (end_sort b) refl
gives_statement (words.Type k) ts = gives_type k ts
gives_statement (words.DefaultType k) ts = gives_default (typed_default k) (λ v s c. refl) ts
gives_statement words.Prompt ts = gives_prompt prompt (λ c. refl) ts
gives_statement words.Default ts = gives_default default (λ v s c. refl) ts
gives_statement words.Depends ts = gives_worded _ depends (λ e. refl) ts
gives_statement words.Select ts = gives_aimed select (λ a. refl) ts
gives_statement words.Imply ts = gives_aimed imply (λ a. refl) ts
gives_statement words.Range ts = gives_range ts
gives_statement words.Visible ts = gives_worded _ visible (λ e. refl) ts
gives_statement words.Help ts = gives_last (attribute help) ts attribute_sort refl
gives_statement words.Modules ts = gives_last (attribute modules) ts option_sort refl
gives_statement words.Option ts = gives_option ts
gives_statement words.Optional ts = gives_last (attribute optional) ts attribute_sort refl
gives_statement words.LeftOut ts = tt

-- the statements that may follow the groups read before
abbrev FitsHead : List Group → Head → Type 0
FitsHead read (ends b) = is_stray read b ≡ false
FitsHead read h = Unit {0}

abbrev pub Fits : List Group → Option Statement → Type 0
Fits read None = Unit {0}
Fits read (Some (head h)) = FitsHead read h
Fits read (Some (attribute a)) = (e : OpenEntry) × (open_entry read ≡ Some e)

-- an attribute's keyword is allowed where an entry is open
entry_of_taken : (o : Option OpenEntry) (k : Keyword) → elim o [ None ↦ false | Some e ↦ allows_attribute e k ] ≡ true → (e : OpenEntry) × (o ≡ Some e)
entry_of_taken None k h = cc
entry_of_taken (Some e) k h = (e, refl)

abbrev is_attribute_sort : Sort → Bool
is_attribute_sort default_sort = true
is_attribute_sort attribute_sort = true
is_attribute_sort option_sort = true
is_attribute_sort t = false

default_sorted : (b : Bool) → is_attribute_sort (cond b option_sort default_sort) ≡ true
default_sorted true = refl
default_sorted false = refl

attribute_sorted : (a : Attribute) → is_attribute_sort (sort_of_attribute a) ≡ true
attribute_sorted (default d) = default_sorted d.from_environment
attribute_sorted (typed_default k d) = refl
attribute_sorted a = refl

taken : (read : List Group) (k : Keyword) → is_attribute_sort (sort_of_word k) ≡ true → is_allowed read k ≡ true → open_entry_allows read k ≡ true
taken read words.Config e h = cc
taken read words.Choice e h = cc
taken read words.Menu e h = cc
taken read words.If e h = cc
taken read words.Comment e h = cc
taken read words.Source e h = cc
taken read words.Mainmenu e h = cc
taken read (words.End b) e h = cc
taken read k e h = h

stray_of_word : (read : List Group) (k : Keyword) (b : Block) → sort_of_word k ≡ end_sort b → is_stray_end read k ≡ false → is_stray read b ≡ false
stray_of_word read (words.End c) b e h = let same : c ≡ b = cc in subst (λ x. is_stray read x ≡ false) same h
stray_of_word read k b e h = cc

fits_statement : (read : List Group) (k : Keyword) (s : Statement) → sort_of s ≡ sort_of_word k → is_allowed read k ≡ true → is_stray_end read k ≡ false
    → Fits read (Some s)
fits_statement read k (attribute a) e h g = entry_of_taken (open_entry read) k (taken read k (ap is_attribute_sort (sym e) ∙ attribute_sorted a) h)
fits_statement read k (head (ends b)) e h g = stray_of_word read k b (sym e) g
fits_statement read k (head x) e h g = tt

-- if `fault_if` followed by another step gives no fault, its test is false and the step gives the result
pub fault_if_ok : {B : Type 0} (b : Bool) (k : TreeKind) (f : Unit {0} → Result B TreeKind) (y : B) → fault_if b k >>= f ≡ Ok y → (b ≡ false) × (f tt ≡ Ok y)
fault_if_ok true k f y h = cc
fault_if_ok false k f y h = (refl, h)

pub bind_ok : {A B : Type 0} (r : Result A TreeKind) (f : A → Result B TreeKind) (y : B) → r >>= f ≡ Ok y → (x : A) × (r ≡ Ok x) × (f x ≡ Ok y)
bind_ok (Ok x) f y h = (x, refl, h)
bind_ok (Err e) f y h = cc

pub not_false : (b : Bool) → not b ≡ false → b ≡ true
not_false true h = refl
not_false false h = cc

-- a line with these tokens, the first of them a keyword, is the statement `s`, which is allowed after these groups and passes no limit
pub record IsKeywordStatement (read : List Group) (tokens : Result (List Lexeme) ExprFault) (s : Statement) : Type 0 where
  pub keyword : Keyword
  pub first : Lexeme
  pub rest : List Lexeme
  pub tokens_are : tokens ≡ Ok (first ∷ rest)
  pub allowed : is_allowed read keyword ≡ true
  pub matched : is_stray_end read keyword ≡ false
  pub form : statement_of keyword rest ≡ Ok s
  pub sort : sort_of s ≡ sort_of_word keyword
  pub few : is_too_many read s ≡ false

abbrev pub IsKeywordStatementIfSome : List Group → Result (List Lexeme) ExprFault → Option Statement → Type 0
IsKeywordStatementIfSome read tokens None = Unit {0}
IsKeywordStatementIfSome read tokens (Some s) = IsKeywordStatement read tokens s

statement_keyword : (language : Language) (read : List Group) (k : Keyword) (t : Lexeme) (ts : List Lexeme) (o : Option Statement)
    → statement_by_keyword language read k ts ≡ Ok o → IsKeywordStatementIfSome read (Ok (t ∷ ts)) o
statement_keyword language read k t ts o h =
    let a = fault_if_ok (is_left_out language read k ts) LeftOut _ o h in
    let b = fault_if_ok (not (is_allowed read k)) Misplaced _ o a.1 in
    let c = fault_if_ok (is_stray_end read k) StrayEnd _ o b.1 in
    let d = bind_ok (statement_of k ts) _ o c.1 in
    let e = fault_if_ok (is_too_deep read d.0) TooDeep _ o d.2 in
    let f = fault_if_ok (is_too_many read d.0) TooMany _ o e.1 in
    let some_is : Some d.0 ≡ o = cc in
    subst (IsKeywordStatementIfSome read (Ok (t ∷ ts))) some_is (record {
      keyword = k;
      first = t;
      rest = ts;
      tokens_are = refl;
      allowed = not_false (is_allowed read k) b.0;
      matched = c.0;
      form = d.1;
      sort = subst (Gives (sort_of_word k)) d.1 (gives_statement k ts);
      few = f.0;
    })

keyword_statement_if_some : (language : Language) (read : List Group) (w : Option Keyword) (t : Lexeme) (ts : List Lexeme) (o : Option Statement)
    → statement_by_word language read ts w ≡ Ok o → IsKeywordStatementIfSome read (Ok (t ∷ ts)) o
keyword_statement_if_some language read None t ts o h = cc
keyword_statement_if_some language read (Some k) t ts o h = statement_keyword language read k t ts o h

statement_in_line : (language : Language) (read : List Group) (ts : List Lexeme) (o : Option Statement) → statement_of_tokens language read ts ≡ Ok o
    → IsKeywordStatementIfSome read (Ok ts) o
statement_in_line language read [] None h = tt
statement_in_line language read [] (Some s) h = cc
statement_in_line language read (t ∷ ts) o h = keyword_statement_if_some language read (keyword_of t) t ts o h

statement_lexed : (language : Language) (read : List Group) (r : Result (List Lexeme) ExprFault) (o : Option Statement)
    → statement_or_fault language read r ≡ Ok o → IsKeywordStatementIfSome read r o
statement_lexed language read (Err e) o h = cc
statement_lexed language read (Ok ts) o h = statement_in_line language read ts o h

statement_or_help : (language : Language) (read : List Group) (b : Bool) (r : Result (List Lexeme) ExprFault) (o : Option Statement)
    → cond b (Ok None) (statement_or_fault language read r) ≡ Ok o → IsKeywordStatementIfSome read r o
statement_or_help language read true r None h = tt
statement_or_help language read true r (Some s) h = cc
statement_or_help language read false r o h = statement_lexed language read r o h

pub past_test : (b : Bool) (e : TreeKind) (r : Result (Option Statement) TreeKind) (o : Option Statement) → cond b (Err e) r ≡ Ok o → r ≡ Ok o
past_test true e r o h = cc
past_test false e r o h = h

pub line_given : (language : Language) (read : List Group) (l : LogicalLine) (o : Option Statement) → statement_on_line language read l ≡ Ok o
    → IsKeywordStatementIfSome read (lexemes_from language 0 0 l.text) o
unfolding statement_on_line
line_given language read l o h = statement_or_help language read l.help (lexemes_from language 0 0 l.text) o
    (past_test (not (is_utf8 l.text)) NotUtf8 _ o (past_test (nat_lt MAX_LINE_BYTES (length l.text)) LineTooLong _ o h))

fits_given : (read : List Group) (r : Result (List Lexeme) ExprFault) (o : Option Statement) → IsKeywordStatementIfSome read r o → Fits read o
fits_given read r None h = tt
fits_given read r (Some s) h = fits_statement read h.keyword s h.sort h.allowed h.matched

pub line_fits : (language : Language) (read : List Group) (l : LogicalLine) (o : Option Statement) → statement_on_line language read l ≡ Ok o → Fits read o
line_fits language read l o h = fits_given read (lexemes_from language 0 0 l.text) o (line_given language read l o h)

-- the name that a line defines
named_well : (t : Lexeme) (ts : List Lexeme) (name : List ℕ) (b : Bool) → is_name t ≡ b
    → cond b (no_more {A = Statement} (head (config t.text)) ts) (Err Malformed) ≡ Ok (head (config name)) → (t.text ≡ name) × (is_name t ≡ true)
named_well t [] name true e h = (cc, e)
named_well t (u ∷ ts) name true e h = cc
named_well t ts name false e h = cc

config_named : (ts : List Lexeme) (name : List ℕ) → config_line ts ≡ Ok (head (config name)) → (t : Lexeme) × (t.text ≡ name) × (is_name t ≡ true)
config_named [] name h = cc
config_named (t ∷ ts) name h = let r = named_well t ts name (is_name t) refl h in (t, r.0, r.1)

config_given : (k : Keyword) (ts : List Lexeme) (name : List ℕ) → config_sort ≡ sort_of_word k → statement_of k ts ≡ Ok (head (config name))
    → (t : Lexeme) × (t.text ≡ name) × (is_name t ≡ true)
config_given words.Config ts name e h = config_named ts name h
config_given k ts name e h = cc

pub line_names : (language : Language) (read : List Group) (l : LogicalLine) (name : List ℕ) → statement_on_line language read l
    ≡ Ok (Some (head (config name))) → (t : Lexeme) × (t.text ≡ name) × (is_name t ≡ true)
line_names language read l name h = let s = line_given language read l (Some (head (config name))) h in config_given s.keyword s.rest name s.sort s.form

-- this value is the expression that is read at the front of the last of a line's tokens
pub record IsValueOf (tokens : Result (List Lexeme) ExprFault) (value : Expr) : Type 0 where
  pub before : List Lexeme
  pub rest : List Lexeme
  pub tokens_are : tokens ≡ Ok (before ++ rest)
  pub taken : ParsedExpr
  pub read_as : leading_expr rest ≡ Ok taken
  pub is : taken.expr ≡ value

attribute_same : (x y : Attribute) (r : Result Statement TreeKind) → r ≡ Ok (attribute x) → r ≡ Ok (attribute y) → x ≡ y
attribute_same x y r h k = cc

valued_same : (x y : DefaultAttribute) → Some x ≡ Some y → x.value ≡ y.value
valued_same x y k = let z : x ≡ y = cc in ap (λ (v : DefaultAttribute). v.value) z

default_value : (f : DefaultAttribute → Attribute) (g : Attribute → Option DefaultAttribute) → ((d : DefaultAttribute) → g (f d) ≡ Some d)
    → (ts : List Lexeme) (a : Attribute) (d : DefaultAttribute) → g a ≡ Some d → default_line f ts ≡ Ok (attribute a)
    → (x : ParsedExpr) × (leading_expr ts ≡ Ok x) × (x.expr ≡ d.value)
default_value f g same ts a d e h =
    let x = bind_ok (leading_expr ts) _ (attribute a) h in
    let c = bind_ok (optional_if x.0.rest) _ (attribute a) x.2 in
    let made : f (record { value = x.0.expr; single = x.0.single; condition = c.0; from_environment = false }) ≡ a = attribute_same
    (f (record { value = x.0.expr; single = x.0.single; condition = c.0; from_environment = false })) a
    (Ok (attribute (f (record { value = x.0.expr; single = x.0.single; condition = c.0; from_environment = false })))) refl c.2 in
    let told : Some (record { value = x.0.expr; single = x.0.single; condition = c.0; from_environment = false }) ≡ Some d = sym
    (same (record { value = x.0.expr; single = x.0.single; condition = c.0; from_environment = false })) ∙ ap g made ∙ e in
    (x.0, x.1, valued_same (record { value = x.0.expr; single = x.0.single; condition = c.0; from_environment = false }) d told)

-- this value is the expression that is read at the front of the last of these tokens
record IsValueIn (ts : List Lexeme) (value : Expr) : Type 0 where
  before : List Lexeme
  rest : List Lexeme
  parts : ts ≡ before ++ rest
  taken : ParsedExpr
  read_as : leading_expr rest ≡ Ok taken
  is : taken.expr ≡ value

first_value : (ts : List Lexeme) (value : Expr) → (x : ParsedExpr) × (leading_expr ts ≡ Ok x) × (x.expr ≡ value) → IsValueIn ts value
first_value ts value x = record { before = []; rest = ts; parts = refl; taken = x.0; read_as = x.1; is = x.2 }

-- the text of an `option env`
made_of : (text : Operand) (a : Attribute) (d : DefaultAttribute) → default_of a ≡ Some d → default (environment_default text) ≡ a → alone text ≡ d.value
made_of text a d m e = valued_same (environment_default text) d (ap default_of e ∙ m)

environment_value_by : (t u : Lexeme) (o : Option Operand) (ts : List Lexeme) (a : Attribute) (d : DefaultAttribute) → default_of a ≡ Some d
    → operand_of_lexeme u ≡ o → environment_of_operand o ts ≡ Ok (attribute a) → IsValueIn (t ∷ u ∷ ts) d.value
environment_value_by t u None ts a d m e h = cc
environment_value_by t u (Some text) (v ∷ ts) a d m e h = cc
environment_value_by t u (Some text) [] a d m e h =
    let made : default (environment_default text) ≡ a = attribute_same (default (environment_default text)) a (Ok (attribute (default (environment_default text)))) refl h in
    record {
      before = t ∷ [];
      rest = u ∷ [];
      parts = refl;
      taken = record { expr = alone text; single = true; rest = [] };
      read_as = front_read (u ∷ []) [] (alone text) (one_and (one_factor (operand u e refl))) tt;
      is = made_of text a d m made;
    }

environment_value_if : (t u : Lexeme) (b : Bool) (ts : List Lexeme) (a : Attribute) (d : DefaultAttribute) → default_of a ≡ Some d
    → cond b (environment_of_operand (operand_of_lexeme u) ts) (Err Malformed) ≡ Ok (attribute a) → IsValueIn (t ∷ u ∷ ts) d.value
environment_value_if t u true ts a d m h = environment_value_by t u (operand_of_lexeme u) ts a d m refl h
environment_value_if t u false ts a d m h = cc

environment_value : (t : Lexeme) (ts : List Lexeme) (a : Attribute) (d : DefaultAttribute) → default_of a ≡ Some d
    → environment_line ts ≡ Ok (attribute a) → IsValueIn (t ∷ ts) d.value
environment_value t [] a d m h = cc
environment_value t (u ∷ ts) a d m h = environment_value_if t u (is_quoted_kind u.kind) ts a d m h

no_default : (ts : List Lexeme) (a : Attribute) (d : DefaultAttribute) → default_of a ≡ Some d → no_more {A = Statement} (attribute modules) ts ≡ Ok (attribute a) → ⊥
no_default (t ∷ ts) a d m h = cc
no_default [] a d m h = let made : modules ≡ a = attribute_same modules a (Ok (attribute modules)) refl h in let none : default_of {E = Expr} {O = Operand} {N = List ℕ} modules ≡ Some d = ap default_of made ∙ m in cc

option_value_by : (t : Lexeme) (b c : Bool) (ts : List Lexeme) (a : Attribute) (d : DefaultAttribute) → default_of a ≡ Some d
    → cond b (no_more {A = Statement} (attribute modules) ts) (cond c (environment_line ts) (Err Malformed)) ≡ Ok (attribute a) → IsValueIn (t ∷ ts) d.value
option_value_by t true c ts a d m h = absurd (no_default ts a d m h)
option_value_by t false true ts a d m h = environment_value t ts a d m h
option_value_by t false false ts a d m h = cc

option_value : (ts : List Lexeme) (a : Attribute) (d : DefaultAttribute) → default_of a ≡ Some d → option_line ts ≡ Ok (attribute a) → IsValueIn ts d.value
option_value [] a d m h = cc
option_value (t ∷ ts) a d m h = option_value_by t (is_the_word (codes "modules") t) (is_the_word (codes "env") t) ts a d m h

abbrev is_default_sort : Sort → Bool
is_default_sort default_sort = true
is_default_sort option_sort = true
is_default_sort t = false

default_value_read : (k : Keyword) (ts : List Lexeme) (a : Attribute) (d : DefaultAttribute) → is_default_sort (sort_of_word k) ≡ true → default_of a ≡ Some d
    → statement_of k ts ≡ Ok (attribute a) → IsValueIn ts d.value
default_value_read words.Default ts a d e m h = first_value ts d.value (default_value default default_of (λ d. refl) ts a d m h)
default_value_read (words.DefaultType k) ts a d e m h = first_value ts d.value (default_value (typed_default k) default_of (λ d. refl) ts a d m h)
default_value_read words.Option ts a d e m h = option_value ts a d m h
default_value_read words.Modules ts a d e m h = absurd (no_default ts a d m h)
default_value_read k ts a d e m h = cc

default_by_source : (b : Bool) → is_default_sort (cond b option_sort default_sort) ≡ true
default_by_source true = refl
default_by_source false = refl

sorted_default : (a : Attribute) (d : DefaultAttribute) → default_of a ≡ Some d → is_default_sort (sort_of_attribute a) ≡ true
sorted_default (default x) d h = default_by_source x.from_environment
sorted_default (typed_default k x) d h = refl
sorted_default a d h = cc

pub line_values : (language : Language) (read : List Group) (l : LogicalLine) (a : Attribute) (d : DefaultAttribute) → default_of a ≡ Some d
    → statement_on_line language read l ≡ Ok (Some (attribute a)) → IsValueOf (lexemes_from language 0 0 l.text) d.value
line_values language read l a d m h =
    let s = line_given language read l (Some (attribute a)) h in
    let x = default_value_read s.keyword s.rest a d (ap is_default_sort (sym s.sort) ∙ sorted_default a d m) m s.form in
    record {
      before = s.first ∷ x.before;
      rest = x.rest;
      tokens_are = s.tokens_are ∙ ap (λ us. Ok (s.first ∷ us)) x.parts;
      taken = x.taken;
      read_as = x.read_as;
      is = x.is;
    }

-- a line that is accepted is UTF-8
test_passed : (b : Bool) (e : TreeKind) (r : Result (Option Statement) TreeKind) (o : Option Statement) → cond b (Err e) r ≡ Ok o → b ≡ false
test_passed true e r o h = cc
test_passed false e r o h = refl

pub line_utf8 : (language : Language) (read : List Group) (l : LogicalLine) (o : Option Statement) → statement_on_line language read l ≡ Ok o → IsUtf8 l.text
unfolding statement_on_line
line_utf8 language read l o h =
    IsUtf8-from_is_utf8 l.text (not_false (is_utf8 l.text) (test_passed (not (is_utf8 l.text)) NotUtf8 _ o
    (past_test (nat_lt MAX_LINE_BYTES (length l.text)) LineTooLong _ o h)))
