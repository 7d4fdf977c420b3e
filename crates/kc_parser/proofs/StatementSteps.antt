-- The statement of a line, step by step.
use Rattle.kc_parser.proofs.Common.{◌≡◌, ◌⊎◌, inl, inr, ℕ, Bool, true, false, not, cond, List, [], ◌∷◌, Option, Some, None, Result, Ok, Err, refl, ap, sym, ◌∙◌, append-nil, is_utf8, nat_lt, Language, Exprs, Grows, Lexeme, lexemes_from, TreeKind, OutOfMemory, LeftOut, Misplaced, StrayEnd, TooDeep}
use Rattle.kc_parser.proofs.Common.{TooMany, Keyword, Head, Attribute, head, source, path_of_head, is_allowed, is_left_out, is_stray_end, Group, FileSource, MAX_LINE_BYTES, SourceFiles, Listing, ReaderState, fault_before, line_here, limits, AppendsHead, ReturnsLineRead}
use Rattle.std.specs.Prelude.{length}
use Rattle.kc_tokens.specs.Token.{with_front}
use Rattle.kc_tokens.specs.declared.fault.ExprFault.{ExprFault}
use Rattle.kc_tokens.specs.MemoryFaults.{IsOutOfMemory}
use Rattle.kc_tree_model.specs.declared.fault.TreeKind.TheVariants.{UnknownStatement}
use Rattle.kc_tree_model.specs.Keywords.{keyword_of}
use Rattle.kc_tree_model.specs.declared.keyword.Keyword.TheVariants as words
use Rattle.kc_tree_model.specs.LogicalLines.{is_help_or_fault, is_help, is_help_word}
use Rattle.kc_tree_model.specs.Statements.{Statement}
use Rattle.kc_tree_model.specs.declared.statement.Statement.TheVariants.{Attribute as attribute}
use Rattle.kc_tree_model.specs.Forms.{statement_of, kind_of_fault, ◌>>=◌}
use Rattle.kc_tree_model.specs.Limits.{is_too_deep, is_too_many, too_many_by_attribute}
use Rattle.kc_tree_model.specs.TreeReading.{fault_if, statement_by_keyword, statement_of_tokens, statement_by_word, statement_or_fault, statement_on_line}
use Rattle.kc_tree_model.proofs.HelpLines.{help_alike}
use Rattle.kc_parser.specs.checker.StateViews.{file_source_of}
use Rattle.kc_parser.specs.between.ListingView.{RepresentsListing}
use Rattle.kc_parser.specs.declared.state.Step.{Step}
use Rattle.kc_parser.specs.declared.state.Step.TheVariants.{Next, Help, Source}
use Rattle.kc_parser.specs.checker.Steps.{AppendsAttribute}
use Rattle.kc_parser.proofs.AppendSteps.{lists_grown}
use Rattle.kc_parser.specs.checker.StatementResults.{no_path, AppendsStatement, begins_with, IsGiven, IsSourceGiven, ReturnsStatementRead}

-- an attribute that selects or implies a name that is too long has the fault `TooMany`
pub attribute_long : (before : List Group) (a : Attribute) → too_many_by_attribute a ≡ true → limits before (attribute a) ≡ Some TooMany
attribute_long before a e = rw e refl

pub attribute_fits : (before : List Group) (a : Attribute) → too_many_by_attribute a ≡ false → limits before (attribute a) ≡ None
attribute_fits before a e = rw e refl

-- a call that appends a statement other than a `source` returns no path to read
pub head_given : (r : FileSource) (file line : ℕ) (before : List Group) (h : Head) (new : ReaderState) (put : Result (Unit {0}) TreeKind)
    → path_of_head h ≡ None
    → AppendsHead r file line before h new put
    → AppendsStatement r file line before (head h) new (no_path put)
head_given r file line before h new (Ok u) n p = (p.0, n, p.1)
head_given r file line before h new (Err k) n p = p

pub attribute_given : (r : FileSource) (file line : ℕ) (before : List Group) (a : Attribute) (new : ReaderState) (put : Result (Unit {0}) TreeKind)
    → AppendsAttribute r line before a new put
    → AppendsStatement r file line before (attribute a) new (no_path put)
attribute_given r file line before a new (Ok u) p = (p.0, refl, p.1)
attribute_given r file line before a new (Err k) p = p

-- a listing represents the same statements after its arena has grown
pub shows_grown : (l : Listing) (arena : Exprs) (before : List Group) → Grows l.names.arena arena → RepresentsListing l before
    → RepresentsListing (record l { names = record l.names { arena = arena } }) before
unfolding RepresentsListing
shows_grown l arena before grows h = lists_grown _ arena _ _ _ [] _ _ _ before grows (sym (append-nil l.texts.items)) h

-- the tests before a form
early : (a b c : Bool) (kind : TreeKind) (rest : Result (Option Statement) TreeKind)
    → cond a (Some LeftOut) (cond b (Some Misplaced) (cond c (Some StrayEnd) None)) ≡ Some kind
    → (fault_if a LeftOut >>= λ _. fault_if b Misplaced >>= λ _. fault_if c StrayEnd >>= λ _. rest) ≡ Err kind
early false false false kind rest e = cc
early a b c kind rest e = cc

late : (a b c : Bool) (rest : Result (Option Statement) TreeKind) → cond a (Some LeftOut) (cond b (Some Misplaced) (cond c (Some StrayEnd) None)) ≡ None
    → (fault_if a LeftOut >>= λ _. fault_if b Misplaced >>= λ _. fault_if c StrayEnd >>= λ _. rest) ≡ rest
late false false false rest e = refl
late a b c rest e = cc

-- the limits after it
limited : (a b : Bool) (s : Statement) (kind : TreeKind) → cond a (Some TooDeep) (cond b (Some TooMany) None) ≡ Some kind
    → (fault_if a TooDeep >>= λ _. fault_if b TooMany >>= λ _. Ok (Some s)) ≡ Err kind
limited false false s kind e = cc
limited a b s kind e = cc

unlimited : (a b : Bool) (s : Statement) → cond a (Some TooDeep) (cond b (Some TooMany) None) ≡ None
    → (fault_if a TooDeep >>= λ _. fault_if b TooMany >>= λ _. Ok (Some s)) ≡ Ok (Some s)
unlimited true b s e = cc
unlimited false true s e = cc
unlimited false false s e = refl

-- the statement once its form was read
abbrev limited_by : List Group → Result Statement TreeKind → Result (Option Statement) TreeKind
limited_by before given = given >>= λ s. fault_if (is_too_deep before s) TooDeep >>= λ _. fault_if (is_too_many before s) TooMany >>= λ _. Ok (Some s)

module _ (language : Language) (before : List Group) (k : Keyword) (ts : List Lexeme) where
  pub statement_early : (kind : TreeKind) → fault_before language before k ts ≡ Some kind → statement_by_keyword language before k ts ≡ Err kind
  statement_early kind e = early (is_left_out language before k ts) (not (is_allowed before k)) (is_stray_end before k) kind
      (limited_by before (statement_of k ts)) e

  statement_late : fault_before language before k ts ≡ None → statement_by_keyword language before k ts ≡ limited_by before (statement_of k ts)
  statement_late e = late (is_left_out language before k ts) (not (is_allowed before k)) (is_stray_end before k) (limited_by before (statement_of k ts)) e

  pub statement_malformed : (kind : TreeKind) → fault_before language before k ts ≡ None → statement_of k ts ≡ Err kind
      → statement_by_keyword language before k ts ≡ Err kind
  statement_malformed kind e h = statement_late e ∙ ap (limited_by before) h

  statement_limited : (s : Statement) (kind : TreeKind) → fault_before language before k ts ≡ None → statement_of k ts ≡ Ok s → limits before s ≡ Some kind
      → statement_by_keyword language before k ts ≡ Err kind
  statement_limited s kind e h l = statement_late e ∙ ap (limited_by before) h ∙ limited (is_too_deep before s) (is_too_many before s) s kind l

  statement_well : (s : Statement) → fault_before language before k ts ≡ None → statement_of k ts ≡ Ok s → limits before s ≡ None
      → statement_by_keyword language before k ts ≡ Ok (Some s)
  statement_well s e h l = statement_late e ∙ ap (limited_by before) h ∙ unlimited (is_too_deep before s) (is_too_many before s) s l

-- whether a help text follows
no_help : (k : Keyword) (ts : List Lexeme) → is_help_word (Some k) ≡ false → begins_with k ts ≡ false
no_help k [] e = e
no_help k (t ∷ ts) e = refl

a_help : (k : Keyword) (ts : List Lexeme) (s : Statement) → is_help_word (Some k) ≡ true → statement_of k ts ≡ Ok s → begins_with k ts ≡ true
a_help k [] s e h = e
a_help words.Help (t ∷ ts) s e h = cc
a_help k (t ∷ ts) s e h = cc

no_help_of_source : (k : Keyword) (ts : List Lexeme) (path : List ℕ) → statement_of k ts ≡ Ok (head (source path)) → begins_with k ts ≡ false
no_help_of_source words.Help [] path h = cc
no_help_of_source k [] path h = refl
no_help_of_source k (t ∷ ts) path h = refl

-- what is given of a line whose form was read
module _ (r : FileSource) (file line : ℕ) (language : Language) (before : List Group) (k : Keyword) (ts : List Lexeme) (s : Statement) (new : ReaderState)
    (early : fault_before language before k ts ≡ None) (form : statement_of k ts ≡ Ok s) where
  pub source_given : (path : List ℕ) → AppendsStatement r file line before s new (Ok (Some path)) → IsSourceGiven r (statement_by_keyword language before k ts)
      (begins_with k ts) path before new
  source_given path p = record {
    gives = statement_well language before k ts s early form p.0 ∙ ap (λ t. Ok (Some t)) p.1;
    follows = no_help_of_source k ts path (form ∙ ap Ok p.1);
    describes = p.2;
  }

  pub next_given : is_help_word (Some k) ≡ false → AppendsStatement r file line before s new (Ok None)
      → IsGiven r file line (statement_by_keyword language before k ts) (begins_with k ts) before false new
  next_given n p = record {
    statement = Some s;
    gives = statement_well language before k ts s early form p.0;
    without_path = p.1;
    follows = no_help k ts n;
    describes = p.2;
  }

  pub help_given : is_help_word (Some k) ≡ true → AppendsStatement r file line before s new (Ok None)
      → IsGiven r file line (statement_by_keyword language before k ts) (begins_with k ts) before true new
  help_given n p = record {
    statement = Some s;
    gives = statement_well language before k ts s early form p.0;
    without_path = p.1;
    follows = a_help k ts s n form;
    describes = p.2;
  }

  pub limit_given : (kind : TreeKind) → AppendsStatement r file line before s new (Err kind) → (kind ≡ OutOfMemory)
      ⊎ ((statement_by_keyword language before k ts ≡ Err kind) × RepresentsListing new.listing before)
  limit_given kind (inl m) = inl m
  limit_given kind (inr h) = inr (statement_limited language before k ts s kind early form h.0, h.1)

-- a line whose first token isn't a keyword has the fault `UnknownStatement`
pub word_unknown : (language : Language) (before : List Group) (t : Lexeme) (ts : List Lexeme) → keyword_of t ≡ None
    → statement_of_tokens language before (t ∷ ts) ≡ Err UnknownStatement
word_unknown language before t ts e = ap (statement_by_word language before ts) e

word_known : (language : Language) (before : List Group) (t : Lexeme) (ts : List Lexeme) (k : Keyword) → keyword_of t ≡ Some k
    → statement_of_tokens language before (t ∷ ts) ≡ statement_by_keyword language before k ts
word_known language before t ts k e = ap (statement_by_word language before ts) e

help_known : (t : Lexeme) (ts : List Lexeme) (k : Keyword) → keyword_of t ≡ Some k → is_help (t ∷ ts) ≡ begins_with k ts
help_known t [] k e = ap is_help_word e
help_known t (u ∷ ts) k e = refl

pub given_by_word : (r : FileSource) (file line : ℕ) (language : Language) (before : List Group) (t : Lexeme) (ts : List Lexeme) (k : Keyword)
    (new : ReaderState) (result : Result Step TreeKind) → keyword_of t ≡ Some k
    → ReturnsStatementRead r file line (statement_by_keyword language before k ts) (begins_with k ts) before new result
    → ReturnsStatementRead r file line (statement_of_tokens language before (t ∷ ts)) (is_help (t ∷ ts)) before new result
given_by_word r file line language before t ts k new result e g = rw (word_known language before t ts k e, help_known t ts k e) g

-- no tokens in front of a line's other tokens leave them, or their fault, as they are
pub with_no_front : {E : Type 0} (read : Result (List Lexeme) E) → with_front [] read ≡ read
with_no_front (Ok ts) = refl
with_no_front (Err e) = refl

-- the language of a file source is that of the reader's files
pub language_of_source : (f : SourceFiles) → (file_source_of f).language ≡ f.texts.now.language
unfolding file_source_of
language_of_source f = refl

-- the line
gives_tokens : (language : Language) (before : List Group) (line : ℕ) (text : List ℕ) → nat_lt MAX_LINE_BYTES (length text) ≡ false → is_utf8 text ≡ true
    → statement_on_line language before (line_here line text) ≡ statement_or_fault language before (lexemes_from language 0 0 text)
unfolding statement_on_line
gives_tokens language before line text e u = rw (e, u) refl

module _ (r : FileSource) (file line : ℕ) (before : List Group) (text : List ℕ) (new : ReaderState) (short : nat_lt MAX_LINE_BYTES (length text) ≡ false)
    (utf8 : is_utf8 text ≡ true) where
  pub line_of_tokens : (ts : List Lexeme) (result : Result Step TreeKind) → lexemes_from r.language 0 0 text ≡ Ok ts
      → ReturnsStatementRead r file line (statement_of_tokens r.language before ts) (is_help ts) before new result
      → ReturnsLineRead r file line text before new result
  line_of_tokens ts (Ok Next) e g = record {
    statement = g.statement;
    gives = gives_tokens r.language before line text short utf8 ∙ ap (statement_or_fault r.language before) e ∙ g.gives;
    no_path = g.without_path;
    begins = sym (help_alike text r.language) ∙ ap is_help_or_fault e ∙ g.follows;
    describes = g.describes;
  }
  line_of_tokens ts (Ok Help) e g = record {
    statement = g.statement;
    gives = gives_tokens r.language before line text short utf8 ∙ ap (statement_or_fault r.language before) e ∙ g.gives;
    no_path = g.without_path;
    begins = sym (help_alike text r.language) ∙ ap is_help_or_fault e ∙ g.follows;
    describes = g.describes;
  }
  line_of_tokens ts (Ok (Source path)) e g = record {
    gives = gives_tokens r.language before line text short utf8 ∙ ap (statement_or_fault r.language before) e ∙ g.gives;
    begins = sym (help_alike text r.language) ∙ ap is_help_or_fault e ∙ g.follows;
    describes = g.describes;
  }
  line_of_tokens ts (Err kind) e (inl m) = inl m
  line_of_tokens ts (Err kind) e (inr h) = inr (gives_tokens r.language before line text short utf8 ∙ ap (statement_or_fault r.language before) e ∙ h.0, h.1)

  -- a line whose tokens can't be read has the fault of its first token that can't be read, or memory ran out
  pub line_of_fault : (f : ExprFault) (kind : TreeKind) → kind ≡ kind_of_fault f.kind → IsOutOfMemory f
      ⊎ (lexemes_from r.language 0 0 text ≡ Err f) → RepresentsListing new.listing before → ReturnsLineRead r file line text before new (Err kind)
  line_of_fault f kind e (inl m) s = inl (e ∙ ap kind_of_fault m.0)
  line_of_fault f kind e (inr h) s = inr (gives_tokens r.language before line text short utf8 ∙ ap (statement_or_fault r.language before) h ∙ ap Err (sym e), s)
