-- The forms of lines, step by step: conditions, first tokens and results.
use Rattle.std.proofs.Common.{zero, ◌⊎◌, map}
use Rattle.std.proofs.lemmas.List.{drop-map, drop_more}
use Rattle.std.specs.Prelude.{take}
use Rattle.kc_statements.proofs.Common.{◌≡◌, inl, inr, ℕ, suc, ◌+◌, ◌<◌, ◌≤◌, Bool, true, false, List, [], ◌∷◌, length, drop, refl, ap, sym, ◌∙◌, arith, rules, Some, Result, Ok, Err, length-drop, ◌==◌, codes, slice_index_or, IfOk, false≢true, nat_tests, Lexeme, lexeme_of, lexemes_of, Word, Expr}
use Rattle.kc_statements.proofs.Common.{extent, ExprKind, TreeKind, Malformed, OutOfMemory, last_condition, optional_if, no_more, kind_of_fault, ParsedExpr, ◌>>=◌, is_the_word, Statement, ReturnsOrFails}
use Rattle.kc_expr.specs.between.ParseResults.{RefusesExpr, expr_tokens, expr_end}
use Rattle.kc_tokens.specs.declared.fault.ExprFault.{ExprFault}
use Rattle.kc_tokens.specs.MemoryFaults.{IsOutOfMemory}
use Rattle.kc_tokens.specs.declared.token.Token.{Token as CodeToken}
use Rattle.kc_expr.specs.Expr.{conditional}
use Rattle.kc_expr.specs.Grammar.{read_expr, fault_of}
use Rattle.kc_expr.proofs.FirstFaults.{fault_read}
use Rattle.kc_tree_model.specs.Forms.{statement_of}
use Rattle.kc_tree_model.specs.declared.keyword.Keyword.{Keyword}

more : {A : Type 0} (x : A) (ts : List Lexeme) → 0 < length ts → no_more x ts ≡ Err Malformed
more x [] h = absurd (omega arith)
more x (t ∷ ts) h = refl

-- what is left of a condition once its expression is read
after_condition : List Lexeme → Result Expr (ExprKind × List Lexeme) → Result Expr TreeKind
after_condition ts (Ok e) = no_more (conditional e) (drop (length (extent ts)) ts)
after_condition ts (Err f) = Err (kind_of_fault f.0)

by_reading : (ts : List Lexeme) (r : Result Expr (ExprKind × List Lexeme))
    → (elim r [ Ok e ↦ Ok (record { expr = e; single = length (extent ts) == 1; rest = drop (length (extent ts)) ts }) | Err f ↦ Err (kind_of_fault f.0) ] >>=
    λ (t : ParsedExpr). no_more (conditional t.expr) t.rest) ≡ after_condition ts r
unfolding after_condition
by_reading ts (Ok e) = refl
by_reading ts (Err f) = refl

-- a last condition with tokens after its expression is malformed
pub condition_after : (ts : List Lexeme) (e : Expr) → read_expr (extent ts) ≡ Ok e → length (extent ts) < length ts → last_condition ts ≡ Err Malformed
unfolding after_condition
condition_after ts e reads h =
    by_reading ts (read_expr (extent ts)) ∙ ap (after_condition ts) reads ∙ more (conditional e) (drop (length (extent ts)) ts)
    (omega (arith, length-drop (length (extent ts)) ts))

-- no tokens after a condition
bare : {A : Type 0} (x : A) (ts : List Lexeme) → length ts ≡ 0 → no_more x ts ≡ Ok x
bare x [] h = refl
bare x (t ∷ ts) h = absurd (omega (arith, h))

pub condition_last : (ts : List Lexeme) (e : Expr) → read_expr (extent ts) ≡ Ok e → length ts ≤ length (extent ts) → last_condition ts ≡ Ok (conditional e)
unfolding after_condition
condition_last ts e reads h =
    by_reading ts (read_expr (extent ts)) ∙ ap (after_condition ts) reads ∙ bare (conditional e) (drop (length (extent ts)) ts)
    (omega (arith, h, length-drop (length (extent ts)) ts))

-- a last condition that is no expression has the fault of the expression
pub condition_unread : (ts : List Lexeme) (x : ExprKind × List Lexeme) → read_expr (extent ts) ≡ Err x → last_condition ts ≡ Err (kind_of_fault x.0)
unfolding after_condition
condition_unread ts x reads = by_reading ts (read_expr (extent ts)) ∙ ap (after_condition ts) reads

reported_kind : (all : List Lexeme) (x : ExprKind × List Lexeme) → (fault_of all x).kind ≡ x.0
reported_kind all (k, []) = refl
reported_kind all (k, t ∷ ts) = refl

-- a fault that the parser of expressions reports is the one that the definition of a form gives
pub unread : {A : Type 0} (ps : List Lexeme) (at : ℕ) (e : ExprFault) (k : TreeKind) (given : Result A TreeKind)
    → (IsOutOfMemory e ⊎ RefusesExpr ps at e) → k ≡ kind_of_fault e.kind
    → ((x : ExprKind × List Lexeme) → read_expr (expr_tokens ps at) ≡ Err x → given ≡ Err (kind_of_fault x.0)) → (k ≡ OutOfMemory) ⊎ (given ≡ Err k)
unread ps at e k given f q h = elim f [
  | inl m ↦ inl (q ∙ ap kind_of_fault m.0)
  | inr n ↦
      let told : e.kind ≡ n.fault.0 = ap (λ (y : ExprFault). y.kind) n.placed ∙ reported_kind (take (expr_end ps at) ps) n.fault in
      inr (h n.fault (fault_read _ n.fault n.first) ∙ ap Err (sym (q ∙ ap kind_of_fault told)))
]

-- the tokens from a place on are the one at that place and those after it
pub front_piece : (ts : List CodeToken) (at : ℕ) (d : CodeToken) → at < length ts
    → drop at (lexemes_of ts) ≡ lexeme_of (slice_index_or ts at d) ∷ drop (at + 1) (lexemes_of ts)
front_piece ts at d h =
    drop-map lexeme_of at ts ∙ ap (map lexeme_of) (drop_more ts at d h)
    ∙ ap (λ r. lexeme_of (slice_index_or ts at d) ∷ r) (sym (drop-map lexeme_of (at + 1) ts))

pub no_if : (t : Lexeme) (ts : List Lexeme) → is_the_word (codes "if") t ≡ false → optional_if (t ∷ ts) ≡ Err Malformed
no_if t ts e = rw e refl

pub if_given : (t : Lexeme) (ts : List Lexeme) (e : Expr) → is_the_word (codes "if") t ≡ true → last_condition ts ≡ Ok e → optional_if (t ∷ ts) ≡ Ok (Some e)
if_given t ts e w c = rw w (rw c refl)

pub if_refused : (t : Lexeme) (ts : List Lexeme) (k : TreeKind) → is_the_word (codes "if") t ≡ true → last_condition ts ≡ Err k → optional_if (t ∷ ts) ≡ Err k
if_refused t ts k w c = rw w (rw c refl)

-- some token, the default for a place past the end of a list of tokens
abbrev pub some_token : CodeToken
some_token = record { kind = Word; start = 0; end = 0; text = record { ref_ptr = (0, 0); now = [] } }

-- a result that agrees with y agrees with x, if x and y are equal
pub along : {A B : Type 0} (view : A → B) (r : Result A TreeKind) (x y : Result B TreeKind) → x ≡ y → ReturnsOrFails view r y → ReturnsOrFails view r x
along view (Ok a) x y q g = q ∙ g
along view (Err k) x y q g = elim g [ inl m ↦ inl m | inr e ↦ inr (q ∙ e) ]

-- a result with a function applied to its `Ok`
abbrev pub stepped : {B C : Type 0} → (B → C) → Result B TreeKind → Result C TreeKind
stepped k r = r >>= λ b. Ok (k b)

-- the first token of a list, and `some_token` of an empty one
abbrev pub first_of : List CodeToken → CodeToken
first_of ts = slice_index_or ts 0 some_token

-- a number that the test `n == 0` refuses is above 0
pub there : (n : ℕ) (b : Bool) → b ≡ (n == 0) → b ≡ false → 0 < n
there zero b e f = absurd (false≢true (sym f ∙ e))
there (suc n) b e f = omega arith

-- the statement of a line under one keyword is that under an equal keyword
pub by_keyword : {A : Type 0} (view : A → Statement) (r : Result A TreeKind) (ps : List Lexeme) {k l : Keyword} → k ≡ l
    → ReturnsOrFails view r (statement_of l ps) → ReturnsOrFails view r (statement_of k ps)
by_keyword view r ps {k} {l} q g = along view r (statement_of k ps) (statement_of l ps) (ap (λ w. statement_of w ps) q) g

-- what is given where no tokens may be left
pub left_given : {A B : Type 0} (view : A → B) (x : A) (ts : List Lexeme) (r : Result A TreeKind) → r ≡ no_more x ts → ReturnsOrFails view r (no_more (view x) ts)
left_given view x [] r e = rw e refl
left_given view x (t ∷ ts) r e = rw e (inr refl)

pub left_held : {A : Type 0} (P : A → Type 0) (x : A) (ts : List Lexeme) (r : Result A TreeKind) → r ≡ no_more x ts → P x → IfOk r P
left_held P x [] r e h = rw e h
left_held P x (t ∷ ts) r e h = rw e tt

pub none_left : {A B : Type 0} (x u : A) (y : B) (ts : List Lexeme) → no_more x ts ≡ Ok u → no_more y ts ≡ Ok y
none_left x u y [] e = refl
none_left x u y (t ∷ ts) e = cc

pub some_left : {A B : Type 0} (x : A) (y : B) (k : TreeKind) (ts : List Lexeme) → no_more x ts ≡ Err k → no_more y ts ≡ Err k
some_left x y k [] e = cc
some_left x y k (t ∷ ts) e = ap Err (let q : Malformed ≡ k = cc in q)

-- no tokens where their number is 0
equal : (m n : ℕ) → (m == n) ≡ true → m ≡ n
equal m n e = search (rules, nat_tests)

pub none_there : (ts : List CodeToken) (b : Bool) → b ≡ (length ts == 0) → b ≡ true → ts ≡ []
none_there [] b e f = refl
none_there (t ∷ ts) b e f = absurd (omega (arith, equal (length (t ∷ ts)) 0 (sym e ∙ f)))

-- a result that agrees with a definition still does after one more function on the `Ok` of each
pub given_on : {A B C : Type 0} (view : A → B) (k : B → C) (r : Result A TreeKind) (x : Result B TreeKind) → ReturnsOrFails view r x
    → ReturnsOrFails (λ a. k (view a)) r (stepped k x)
given_on view k (Ok a) x g = ap (stepped k) g
given_on view k (Err f) x g = elim g [ inl m ↦ inl m | inr q ↦ inr (ap (stepped k) q) ]
