-- Lines that the reader accepts are lines on which the expansion doesn't act.
use Rattle.kc_expansion.proofs.Common.{◌≡◌, ◌⊎◌, inl, inr, ℕ, Bool, true, false, ◌&&◌, ◌||◌, cond, List, [], ◌∷◌, ◌++◌, length, map, Option, Some, None, Result, Ok, Err, refl, sym, ap, ◌∙◌, subst, arith, ◌==◌, nat_lt, bytes_eq, codes, is_some, is_none, list_all, list_any, is_utf8, first_so}
use Rattle.kc_expansion.proofs.Common.{second_so, nat_list_eq_equiv, MAX_LINE_BYTES, MAX_TEXT_BYTES, Language, ExprFault, TokenKind, Word, Quoted, quoted_text, is_operand_kind, Lexeme, lexemes_from, read_cut, TreeKind, TooDeep, TooMany, Keyword, keywords, keyword_in_table, is_word_kind, keyword_of}
use Rattle.kc_expansion.proofs.Common.{LogicalLine, is_help_word, is_help, is_help_or_fault, begins_help, source, path_of_head, Statement, head, attribute, Group, is_in_list, path_to_read, LineToken, line_tokens, WrittenToken, written_as, environment_asked, LineForm, form_of, without_trivia}
use Rattle.kc_expansion.proofs.Common.{is_help_line, is_pattern, tokens_as_they_are, neither_first, neither_second, same_text, plain_items}
use Rattle.std.specs.Prelude.{not}
use Rattle.kc_value.specs.declared.value.Kind.{Kind}
use Rattle.kc_expr.specs.Expr.{Expr, Operand}
use Rattle.kc_expr.specs.Grammar.{operand_of_lexeme}
use Rattle.kc_tree_model.specs.declared.fault.TreeKind.TheVariants.{Malformed, LeftOut, Misplaced, StrayEnd, LineTooLong, NotUtf8}
use Rattle.kc_tree_model.specs.declared.keyword.Keyword.TheVariants as words
use Rattle.kc_tree_model.specs.Keywords.{is_quoted_kind, is_the_word, is_name}
use Rattle.kc_tree_model.specs.Statements.{Head, environment_default, Attribute}
use Rattle.kc_tree_model.specs.between.Attributes.{DefaultAttribute, TargetAttribute}
use Rattle.kc_tree_model.specs.declared.statement.Head.TheVariants.{Config as config, Choice as choice, Menu as menu, Condition as condition, Comment as comment, Mainmenu as mainmenu, Ends as ends}
use Rattle.kc_tree_model.specs.declared.statement.Attribute.TheVariants.{TypedPrompt as typed_prompt, TypedDefault as typed_default, Prompt as prompt, Default as default, Depends as depends, Select as select, Imply as imply, Range as range, Visible as visible, Help as help, Modules as modules, Optional as optional}
use Rattle.kc_tree_model.specs.Forms.{leading_expr, ◌>>=◌, statement_of, config_line, titled_line, source_line, path_of, is_glob, prompt_line, type_line, default_line, target_line, range_of_operands, range_line, condition_line, environment_of_operand, environment_line, option_line, no_more, last_condition, optional_if}
use Rattle.kc_tree_model.specs.Placement.{first_is, is_strict, is_allowed, is_left_out_option, is_left_out, is_stray_end, is_glob_path}
use Rattle.kc_tree_model.specs.Limits.{is_too_deep, is_too_many}
use Rattle.kc_tree_model.specs.TreeReading.{statement_by_keyword, statement_by_word, statement_of_tokens, statement_or_fault, statement_on_line}
use Rattle.kc_tree_model.proofs.HelpLines.{help_alike}
use Rattle.kc_tree_model.proofs.NestedTrees.LineFits.{fault_if_ok, bind_ok}
use Rattle.kc_macros_model.specs.declared.token_sort.TokenSort.TheVariants as sorts
use Rattle.kc_macros_model.specs.WrittenTokens.{is_keyword, inner_keywords}
use Rattle.kc_macros_model.specs.Assignments.{AssignedText}
use Rattle.kc_macros_model.specs.EnvironmentLines.{solid_tokens, asked_after_env, asked_after_option, asked_by}
use Rattle.kc_macros_model.specs.LineForms.{plain, bare_prompt, prompt_words, source_words, help_words, is_word, is_path, is_bare_prompt, form_of_two_words}
use Rattle.kc_macros_model.specs.PlainLines.{is_kept_token, token_as_it_is, is_assignment, is_plain_form, plain_path, is_one_of, is_copied}
use Rattle.kc_macros_model.proofs.PlainTokens.{no_plain_dollar, run_kept}
use Rattle.kc_expansion.specs.TreeLaws.{is_sourced_by, AcceptedLinesStay}
use Rattle.kc_expansion.proofs.HelpWordLemmas.{is_help_text, help_keyword}
use Rattle.kc_expansion.proofs.ReaderTokens.{AreRead, none_read, trivia_read, word_read, quoted_read, operator_read, long_operator_read, cut_tokens}

-- nothing is left to expand in the tokens
tokens_kept : {ps : List Lexeme} {ts : List LineToken} → AreRead ps ts → list_all is_kept_token ts ≡ true
tokens_kept none_read = refl
tokens_kept (trivia_read r) = tokens_kept r
tokens_kept (word_read {p = p} {ts = ts} e h r) = ap (λ b. b && list_all is_kept_token ts) (run_kept p.text h) ∙ tokens_kept r
tokens_kept (quoted_read {ts = ts} quote s e h m r) = ap (λ b. b && list_all is_kept_token ts) h ∙ tokens_kept r
tokens_kept (operator_read c e r) = tokens_kept r
tokens_kept (long_operator_read c d e r) = tokens_kept r

-- a line that begins with a keyword is no assignment
in_table : {A : Type 0} (table : List (List ℕ × A)) (w : List ℕ) (x : A) → keyword_in_table table w ≡ Some x
    → list_any (λ (e : List ℕ × A). bytes_eq e.0 w) table ≡ true
in_table [] w x e = let z : ⊥ = cc in absurd z
in_table {A = A} (e ∷ table) w x h = by_test (bytes_eq e.0 w) (in_table table w x) h
  where
    by_test : (b : Bool) → (keyword_in_table table w ≡ Some x → list_any (λ (e : List ℕ × A). bytes_eq e.0 w) table ≡ true)
        → cond b (Some e.1) (keyword_in_table table w) ≡ Some x → (b || list_any (λ (e : List ℕ × A). bytes_eq e.0 w) table) ≡ true
    by_test true ih h = refl
    by_test false ih h = ih h

keyword_known : (w : List ℕ) (k : Keyword) → keyword_in_table keywords w ≡ Some k → is_keyword w ≡ true
keyword_known w k h = ap (λ b. b || list_any (bytes_eq w) inner_keywords) (in_table keywords w k h)

-- the keyword of a first token, which is a word
record IsKeyword (p : Lexeme) (k : Keyword) : Type 0 where
  word : p.kind ≡ Word
  entry : keyword_in_table keywords p.text ≡ Some k

word_by_kind : (kind : TokenKind) (o : Option Keyword) (k : Keyword) → cond (is_word_kind kind) o None ≡ Some k → (kind ≡ Word) × (o ≡ Some k)
word_by_kind Word o k e = (refl, e)
word_by_kind x o k e = let z : ⊥ = cc in absurd z

keyword_is : (p : Lexeme) (k : Keyword) → keyword_of p ≡ Some k → IsKeyword p k
keyword_is p k e = let r = word_by_kind p.kind (keyword_in_table keywords p.text) k e in record { word = r.0; entry = r.1 }

abbrev begins_with_keyword : List Lexeme → Bool
begins_with_keyword [] = true
begins_with_keyword (p ∷ ps) = is_word_kind p.kind && is_keyword p.text

no_assigned : (b : Bool) (o : Option AssignedText) → b ≡ true → is_some (cond b None o) ≡ false
no_assigned true o h = refl
no_assigned false o h = let z : ⊥ = cc in absurd z

no_assignment : {ps : List Lexeme} {ts : List LineToken} → AreRead ps ts → begins_with_keyword ps ≡ true → is_assignment ts ≡ false
no_assignment (trivia_read r) h = no_assignment r h
no_assignment (word_read {p = p} {ts = ts} e d r) h =
    no_assigned (is_keyword p.text) _ (second_so (is_word_kind p.kind) (is_keyword p.text) h)
no_assignment x h = refl

-- the tokens as they are written
data AreWritten : List Lexeme → List WrittenToken → Type 0 where
  none_written : AreWritten [] []
  word_written : {p : Lexeme} {ps : List Lexeme} {ts : List WrittenToken} → p.kind ≡ Word → AreWritten ps ts
      → AreWritten (p ∷ ps) (written_as sorts.Word p.text p.text ∷ ts)
  quoted_written : {p : Lexeme} {ps : List Lexeme} {ts : List WrittenToken} (bytes : List ℕ) → p.kind ≡ Quoted → AreWritten ps ts
      → AreWritten (p ∷ ps) (written_as sorts.Quoted bytes (quoted_text p.text) ∷ ts)
  operator_written : {p : Lexeme} {ps : List Lexeme} {ts : List WrittenToken} (c : ℕ) → is_operand_kind p.kind ≡ false → AreWritten ps ts
      → AreWritten (p ∷ ps) (written_as sorts.Other (c ∷ []) [] ∷ ts)
  long_operator_written : {p : Lexeme} {ps : List Lexeme} {ts : List WrittenToken} (c d : ℕ) → is_operand_kind p.kind ≡ false → AreWritten ps ts
      → AreWritten (p ∷ ps) (written_as sorts.Other (c ∷ []) [] ∷ (written_as sorts.Other (d ∷ []) [] ∷ ts))

as_written : {ps : List Lexeme} {ts : List LineToken} → AreRead ps ts → AreWritten ps (without_trivia (map token_as_it_is ts))
as_written none_read = none_written
as_written (trivia_read r) = as_written r
as_written (word_read {p = p} {ps = ps} {ts = ts} e h r) =
    subst (λ b. AreWritten (p ∷ ps) (without_trivia (cond b (written_as sorts.Other p.text []) (written_as sorts.Word p.text p.text) ∷ map token_as_it_is ts)))
    (sym (no_plain_dollar (plain_items false p.text h))) (word_written e (as_written r))
as_written (quoted_read {p = p} {ps = ps} {ts = ts} quote s e h m r) =
    subst (λ t. AreWritten (p ∷ ps) (written_as sorts.Quoted (quote ∷ (s ++ quote ∷ [])) t ∷ without_trivia (map token_as_it_is ts))) (sym m)
    (quoted_written (quote ∷ (s ++ quote ∷ [])) e (as_written r))
as_written (operator_read c e r) = operator_written c e (as_written r)
as_written (long_operator_read c d e r) = long_operator_written c d e (as_written r)

-- a help text follows for both, or for none
no_help_kind : (p : Lexeme) (b : Bool) → is_word_kind p.kind ≡ b → b ≡ false → is_help_word (keyword_of p) ≡ false
no_help_kind p b e h = ap (λ x. is_help_word (cond x (keyword_in_table keywords p.text) None)) (e ∙ h)

operator_no_word : (kind : TokenKind) → is_operand_kind kind ≡ false → is_word_kind kind ≡ false
operator_no_word Word h = let z : ⊥ = cc in absurd z
operator_no_word x h = refl

pub turned : (x y : List ℕ) → bytes_eq x y ≡ bytes_eq y x
turned = nat_list_eq_equiv.symm

help_text_in : (w : List ℕ) → is_in_list w help_words ≡ is_help_text w
help_text_in w = ap (λ b. b || (bytes_eq (codes "---help---") w || false)) (turned (codes "help") w)
    ∙ ap (λ b. bytes_eq w (codes "help") || (b || false)) (turned (codes "---help---") w) ∙ ap (λ b. bytes_eq w (codes "help") || b)
    (or_false (bytes_eq w (codes "---help---")))
  where
    or_false : (b : Bool) → (b || false) ≡ b
    or_false true = refl
    or_false false = refl

help_same : {ps : List Lexeme} {ts : List WrittenToken} → AreWritten ps ts → is_help_line ts ≡ is_help ps
help_same none_written = refl
help_same (word_written {p = p} e none_written) =
    help_text_in p.text ∙ sym (help_keyword p.text) ∙ sym (ap (λ k. is_help_word (cond (is_word_kind k) (keyword_in_table keywords p.text) None)) e)
help_same (word_written e x) = refl
help_same (quoted_written {p = p} bytes e none_written) = sym (ap (λ k. is_help_word (cond (is_word_kind k) (keyword_in_table keywords p.text) None)) e)
help_same (quoted_written bytes e x) = refl
help_same (operator_written {p = p} c e none_written) = sym (no_help_kind p (is_word_kind p.kind) refl (operator_no_word p.kind e))
help_same (operator_written c e x) = refl
help_same (long_operator_written {p = p} c d e none_written) = sym (no_help_kind p (is_word_kind p.kind) refl (operator_no_word p.kind e))
help_same (long_operator_written c d e x) = refl

-- the statement that the reader has for a line with these tokens
record IsStatement (language : Language) (read : List Group) (p : Lexeme) (ps : List Lexeme) (s : Statement) : Type 0 where
  keyword : Keyword
  first : keyword_of p ≡ Some keyword
  kept : is_left_out language read keyword ps ≡ false
  form : statement_of keyword ps ≡ Ok s

abbrev HasStatement : Language → List Group → List Lexeme → Option Statement → Type 0
HasStatement language read [] o = o ≡ None
HasStatement language read (p ∷ ps) None = ⊥
HasStatement language read (p ∷ ps) (Some s) = IsStatement language read p ps s

keyword_statement : (language : Language) (read : List Group) (k : Keyword) (p : Lexeme) (ps : List Lexeme) (o : Option Statement) → keyword_of p ≡ Some k
    → statement_by_keyword language read k ps ≡ Ok o → HasStatement language read (p ∷ ps) o
keyword_statement language read k p ps o first h =
    let a = fault_if_ok (is_left_out language read k ps) LeftOut _ o h in
    let b = fault_if_ok (not (is_allowed read k)) Misplaced _ o a.1 in
    let c = fault_if_ok (is_stray_end read k) StrayEnd _ o b.1 in
    let d = bind_ok (statement_of k ps) _ o c.1 in
    let e = fault_if_ok (is_too_deep read d.0) TooDeep _ o d.2 in
    let f = fault_if_ok (is_too_many read d.0) TooMany _ o e.1 in
    let same : Some d.0 ≡ o = cc in
    subst (HasStatement language read (p ∷ ps)) same (record { keyword = k; first = first; kept = a.0; form = d.1 })

word_statement : (language : Language) (read : List Group) (w : Option Keyword) (p : Lexeme) (ps : List Lexeme) (o : Option Statement) → keyword_of p ≡ w
    → statement_by_word language read ps w ≡ Ok o → HasStatement language read (p ∷ ps) o
word_statement language read None p ps o first h = let z : ⊥ = cc in absurd z
word_statement language read (Some k) p ps o first h = keyword_statement language read k p ps o first h

tokens_statement : (language : Language) (read : List Group) (ps : List Lexeme) (o : Option Statement) → statement_of_tokens language read ps ≡ Ok o
    → HasStatement language read ps o
tokens_statement language read [] o h = let e : None ≡ o = cc in sym e
tokens_statement language read (p ∷ ps) o h = word_statement language read (keyword_of p) p ps o refl h

record IsStatementOf (language : Language) (read : List Group) (text : List ℕ) (o : Option Statement) : Type 0 where
  tokens : List Lexeme
  lexemes : lexemes_from language 0 0 text ≡ Ok tokens
  statement : HasStatement language read tokens o

lexemes_statement : (language : Language) (read : List Group) (text : List ℕ) (r : Result (List Lexeme) ExprFault) (o : Option Statement)
    → lexemes_from language 0 0 text ≡ r → statement_or_fault language read r ≡ Ok o → IsStatementOf language read text o
lexemes_statement language read text (Err e) o l h = let z : ⊥ = cc in absurd z
lexemes_statement language read text (Ok ps) o l h = record { tokens = ps; lexemes = l; statement = tokens_statement language read ps o h }

past : {A : Type 0} (b : Bool) (e : TreeKind) (r : Result A TreeKind) (o : A) → cond b (Err e) r ≡ Ok o → (b ≡ false) × (r ≡ Ok o)
past true e r o h = let z : ⊥ = cc in absurd z
past false e r o h = (refl, h)

-- a word that is among some, each of which passes a test
in_all : (p : List ℕ → Bool) (w : List ℕ) (xs : List (List ℕ)) → list_all p xs ≡ true → is_in_list w xs ≡ true → p w ≡ true
in_all p w [] h e = let z : ⊥ = cc in absurd z
in_all p w (x ∷ xs) h e = by_test (bytes_eq x w) refl (in_all p w xs (second_so (p x) (list_all p xs) h)) e
  where
    by_test : (b : Bool) → bytes_eq x w ≡ b → (is_in_list w xs ≡ true → p w ≡ true) → (b || is_in_list w xs) ≡ true → p w ≡ true
    by_test true f ih e = ap p (sym (same_text x w f)) ∙ first_so (p x) (list_all p xs) h
    by_test false f ih e = ih e

-- words that a prompt follows
abbrev is_prompt_keyword : Keyword → Bool
is_prompt_keyword (words.Type k) = true
is_prompt_keyword words.Prompt = true
is_prompt_keyword words.Menu = true
is_prompt_keyword words.Comment = true
is_prompt_keyword words.Mainmenu = true
is_prompt_keyword k = false

abbrev is_prompt_entry : Option Keyword → Bool
is_prompt_entry None = false
is_prompt_entry (Some k) = is_prompt_keyword k

all_prompts : list_all (λ w. is_prompt_entry (keyword_in_table keywords w)) prompt_words ≡ true
all_prompts = refl

test_holds : {B : Type 0} (b : Bool) (r : Result B TreeKind) (s : B) → cond b r (Err Malformed) ≡ Ok s → b ≡ true
test_holds true r s h = refl
test_holds false r s h = let z : ⊥ = cc in absurd z

prompt_quoted : (k : Keyword) (q : Lexeme) (qs : List Lexeme) (s : Statement) → is_prompt_keyword k ≡ true → statement_of k (q ∷ qs) ≡ Ok s
    → is_quoted_kind q.kind ≡ true
prompt_quoted (words.Type k) q qs s e h = test_holds (is_quoted_kind q.kind) _ s h
prompt_quoted words.Prompt q qs s e h = test_holds (is_quoted_kind q.kind) _ s h
prompt_quoted words.Menu q qs s e h = test_holds (is_quoted_kind q.kind) _ s h
prompt_quoted words.Comment q qs s e h = test_holds (is_quoted_kind q.kind) _ s h
prompt_quoted words.Mainmenu q qs s e h = test_holds (is_quoted_kind q.kind) _ s h
prompt_quoted k q qs s e h = let z : ⊥ = cc in absurd z

-- words of sources: `source`, or one that is left out
abbrev is_left_out_entry : Option Keyword → Bool
is_left_out_entry (Some words.LeftOut) = true
is_left_out_entry k = false

all_sources : list_all (λ w. bytes_eq w (codes "source") || is_left_out_entry (keyword_in_table keywords w)) source_words ≡ true
all_sources = refl

left_out_is : (k : Keyword) → is_left_out_entry (Some k) ≡ true → k ≡ words.LeftOut
left_out_is words.LeftOut h = refl
left_out_is k h = let z : ⊥ = cc in absurd z

-- only `source` has the keyword of a source
abbrev is_source_keyword : Keyword → Bool
is_source_keyword words.Source = true
is_source_keyword k = false

abbrev has_one_source : List (List ℕ × Keyword) → Bool
has_one_source table = list_all (λ (e : List ℕ × Keyword). not (is_source_keyword e.1) || bytes_eq e.0 (codes "source")) table

source_entry : (table : List (List ℕ × Keyword)) (w : List ℕ) → has_one_source table ≡ true → keyword_in_table table w ≡ Some words.Source → w ≡ codes "source"
source_entry [] w h e = let z : ⊥ = cc in absurd z
source_entry (x ∷ table) w h e =
    by_test (bytes_eq x.0 w) refl (source_entry table w (second_so (not (is_source_keyword x.1) || bytes_eq x.0 (codes "source")) (has_one_source table) h)) e
  where
    test : Bool
    test = not (is_source_keyword x.1) || bytes_eq x.0 (codes "source")

    or_so : (a b : Bool) → a ≡ true → (not a || b) ≡ true → b ≡ true
    or_so true b f g = g
    or_so false b f g = let z : ⊥ = cc in absurd z

    by_test : (b : Bool) → bytes_eq x.0 w ≡ b → (keyword_in_table table w ≡ Some words.Source → w ≡ codes "source")
        → cond b (Some x.1) (keyword_in_table table w) ≡ Some words.Source → w ≡ codes "source"
    by_test true f ih e =
        let is : x.1 ≡ words.Source = cc in
        sym (same_text x.0 w f) ∙ same_text x.0 (codes "source") (or_so (is_source_keyword x.1) (bytes_eq x.0 (codes "source")) (ap is_source_keyword is)
        (first_so test (has_one_source table) h))
    by_test false f ih e = ih e

-- no other statement sources a path
abbrev NoSource : Result Statement TreeKind → Type 0
NoSource (Ok s) = path_to_read (Some s) ≡ None
NoSource (Err e) = Unit {0}

none_if : (b : Bool) (r : Result Statement TreeKind) (e : TreeKind) → NoSource r → NoSource (cond b r (Err e))
none_if true r e h = h
none_if false r e h = tt

none_last : (s : Statement) (ts : List Lexeme) → path_to_read (Some s) ≡ None → NoSource (no_more s ts)
none_last s [] h = h
none_last s (p ∷ ts) h = tt

none_bind : {A : Type 0} (r : Result A TreeKind) (f : A → Result Statement TreeKind) → ((x : A) → NoSource (f x)) → NoSource (r >>= f)
none_bind (Ok x) f h = h x
none_bind (Err e) f h = tt

none_config : (ts : List Lexeme) → NoSource (config_line ts)
none_config [] = tt
none_config (p ∷ ts) = none_if (is_name p) (no_more (head (config p.text)) ts) Malformed (none_last (head (config p.text)) ts refl)

none_title : (f : List ℕ → Head) → ((x : List ℕ) → path_of_head (f x) ≡ None) → (ts : List Lexeme) → NoSource (titled_line f ts)
none_title f h [] = tt
none_title f h (p ∷ ts) = none_if (is_quoted_kind p.kind) (no_more (head (f (quoted_text p.text))) ts) Malformed
    (none_last (head (f (quoted_text p.text))) ts (h (quoted_text p.text)))

none_prompt : (f : Option Expr → Attribute) (ts : List Lexeme) → NoSource (prompt_line f ts)
none_prompt f [] = tt
none_prompt f (p ∷ ts) = none_if (is_quoted_kind p.kind) (optional_if ts >>= λ c. Ok (attribute (f c))) Malformed
    (none_bind (optional_if ts) (λ c. Ok (attribute (f c))) (λ c. refl))

none_type : (k : Kind) (ts : List Lexeme) → NoSource (type_line k ts)
none_type k [] = refl
none_type k (p ∷ ts) = none_prompt (typed_prompt k) (p ∷ ts)

none_default : (f : DefaultAttribute → Attribute) (ts : List Lexeme) → NoSource (default_line f ts)
none_default f ts =
    none_bind (leading_expr ts) (λ e. optional_if e.rest >>= λ c. Ok (attribute (f (record { value = e.expr; single = e.single; condition = c; from_environment = false }))))
    (λ e. none_bind (optional_if e.rest) (λ c. Ok (attribute (f (record { value = e.expr; single = e.single; condition = c; from_environment = false })))) (λ c. refl))

none_aimed : (f : TargetAttribute → Attribute) (ts : List Lexeme) → NoSource (target_line f ts)
none_aimed f [] = tt
none_aimed f (p ∷ ts) =
    none_if (is_name p) (optional_if ts >>= λ c. Ok (attribute (f (record { name = p.text; condition = c })))) Malformed
    (none_bind (optional_if ts) (λ c. Ok (attribute (f (record { name = p.text; condition = c })))) (λ c. refl))

none_bounds : (a b : Option Operand) (ts : List Lexeme) → NoSource (range_of_operands a b ts)
none_bounds (Some a) (Some b) ts = none_bind (optional_if ts) (λ c. Ok (attribute (range (record { low = a; high = b; condition = c })))) (λ c. refl)
none_bounds (Some a) None ts = tt
none_bounds None b ts = tt

none_range : (ts : List Lexeme) → NoSource (range_line ts)
none_range [] = tt
none_range (p ∷ []) = tt
none_range (p ∷ q ∷ ts) = none_bounds (operand_of_lexeme p) (operand_of_lexeme q) ts

none_worded : (w : List ℕ) (f : Expr → Attribute) (ts : List Lexeme) → NoSource (condition_line w f ts)
none_worded w f [] = tt
none_worded w f (p ∷ ts) = none_if (is_the_word w p) (last_condition ts >>= λ e. Ok (attribute (f e))) Malformed
    (none_bind (last_condition ts) (λ e. Ok (attribute (f e))) (λ e. refl))

none_environment : (ts : List Lexeme) → NoSource (environment_line ts)
none_environment [] = tt
none_environment (p ∷ ts) = none_if (is_quoted_kind p.kind) (environment_of_operand (operand_of_lexeme p) ts) Malformed (by_operand (operand_of_lexeme p))
  where
    by_operand : (o : Option Operand) → NoSource (environment_of_operand o ts)
    by_operand None = tt
    by_operand (Some text) = none_last (attribute (default (environment_default text))) ts refl

none_option : (ts : List Lexeme) → NoSource (option_line ts)
none_option [] = tt
none_option (p ∷ ts) = by_tests (is_the_word (codes "modules") p)
  where
    by_tests : (b : Bool) → NoSource (cond b (no_more (attribute modules) ts) (cond (is_the_word (codes "env") p) (environment_line ts) (Err Malformed)))
    by_tests true = none_last (attribute modules) ts refl
    by_tests false = none_if (is_the_word (codes "env") p) (environment_line ts) Malformed (none_environment ts)

no_source : (k : Keyword) (ts : List Lexeme) → is_source_keyword k ≡ false → NoSource (statement_of k ts)
no_source words.Config ts e = none_config ts
no_source words.Choice ts e = none_last (head choice) ts refl
no_source words.Menu ts e = none_title menu (λ _. refl) ts
no_source words.If ts e = none_bind (last_condition ts) (λ e. Ok (head (condition e))) (λ e. refl)
no_source words.Comment ts e = none_title comment (λ _. refl) ts
no_source words.Source ts e = let z : ⊥ = cc in absurd z
no_source words.Mainmenu ts e = none_title (λ _. mainmenu) (λ _. refl) ts
no_source (words.End b) ts e = none_last (head (ends b)) ts refl
no_source (words.Type k) ts e = none_type k ts
no_source (words.DefaultType k) ts e = none_default (typed_default k) ts
no_source words.Prompt ts e = none_prompt prompt ts
no_source words.Default ts e = none_default default ts
no_source words.Depends ts e = none_worded _ depends ts
no_source words.Select ts e = none_aimed select ts
no_source words.Imply ts e = none_aimed imply ts
no_source words.Range ts e = none_range ts
no_source words.Visible ts e = none_worded _ visible ts
no_source words.Help ts e = none_last (attribute help) ts refl
no_source words.Modules ts e = none_last (attribute modules) ts refl
no_source words.Option ts e = none_option ts
no_source words.Optional ts e = none_last (attribute optional) ts refl
no_source words.LeftOut ts e = tt

source_keyword : (k : Keyword) → is_source_keyword k ≡ true → k ≡ words.Source
source_keyword words.Source h = refl
source_keyword k h = let z : ⊥ = cc in absurd z

only_source : (k : Keyword) (ts : List Lexeme) (s : Statement) (path : List ℕ) → statement_of k ts ≡ Ok s → path_to_read (Some s) ≡ Some path → k ≡ words.Source
only_source k ts s path h e = by_test (is_source_keyword k) refl
  where
    by_test : (b : Bool) → is_source_keyword k ≡ b → k ≡ words.Source
    by_test true f = source_keyword k f
    by_test false f = let n : path_to_read (Some s) ≡ None = subst NoSource h (no_source k ts f) in let z : ⊥ = cc in absurd z

-- the line of a source
record IsSourceLine (ts : List Lexeme) (path : List ℕ) : Type 0 where
  token : Lexeme
  parts : ts ≡ token ∷ []
  means : path_of token ≡ Some path

source_parts : (ts : List Lexeme) (s : Statement) → source_line ts ≡ Ok s → (path : List ℕ) × IsSourceLine ts path × (path_to_read (Some s) ≡ Some path)
source_parts [] s h = let z : ⊥ = cc in absurd z
source_parts (t ∷ ts) s h = by_path (path_of t) ts refl h
  where
    by_path : (o : Option (List ℕ)) (us : List Lexeme) → path_of t ≡ o → elim o as (λ _. Result Statement TreeKind)
        [ None ↦ Err Malformed | Some path ↦ no_more (head (source path)) us ] ≡ Ok s
        → (path : List ℕ) × IsSourceLine (t ∷ us) path × (path_to_read (Some s) ≡ Some path)
    by_path None us e h = let z : ⊥ = cc in absurd z
    by_path (Some path) [] e h =
        let is : head (source path) ≡ s = cc in (path, record { token = t; parts = refl; means = e }, sym (ap (λ x. path_to_read (Some x)) is))
    by_path (Some path) (u ∷ us) e h = let z : ⊥ = cc in absurd z

-- a line with these tokens is a `source` line of this one path, which has no `*`, `?` or `[`
pub record IsPlainPath (real : List WrittenToken) (path : List ℕ) : Type 0 where
  pub one : plain_path real ≡ Some path
  pub no_pattern : is_pattern path ≡ false
  pub no_bracket : list_any (λ c. c == 91) path ≡ false

abbrev pub FormFits : Option (List ℕ) → List WrittenToken → Type 0
FormFits None real = is_plain_form (form_of real) ≡ true
FormFits (Some path) real = IsPlainPath real path

either_test : (a b : Bool) → a ≡ false → b ≡ false → (a || b) ≡ false
either_test true b e f = let z : ⊥ = cc in absurd z
either_test false b e f = f

no_globs : (path : List ℕ) → is_glob path ≡ false → (is_pattern path ≡ false) × (list_any (λ c. c == 91) path ≡ false)
no_globs [] h = (refl, refl)
no_globs (c ∷ s) h =
    let first = neither_first (c == 42 || (c == 63) || (c == 91)) (is_glob s) h in
    let rest = no_globs s (neither_second (c == 42 || (c == 63) || (c == 91)) (is_glob s) h) in
    let wild = neither_first (c == 42 || (c == 63)) (c == 91) first in (
      either_test (c == 42 || (c == 63)) (is_pattern s) wild rest.0,
      either_test (c == 91) (list_any (λ c. c == 91) s)
          (neither_second (c == 42 || (c == 63)) (c == 91) first) rest.1,
    )

word_has_word : {q : Lexeme} {qs : List Lexeme} {u : WrittenToken} {us : List WrittenToken} → AreWritten (q ∷ qs) (u ∷ us) → is_word u ≡ true
    → (q.kind ≡ Word) × (u.bytes ≡ q.text)
word_has_word (word_written e r) h = (e, refl)
word_has_word x h = let z : ⊥ = cc in absurd z

four_tests : (a b c d : Bool) (x y z u : LineForm) → a ≡ false → b ≡ false → c ≡ false → d ≡ false → is_plain_form
    (cond a x (cond b y (cond c z (cond d u plain)))) ≡ true
four_tests false false false false x y z u ha hb hc hd = refl
four_tests a b c d x y z u ha hb hc hd = let n : ⊥ = cc in absurd n

nothing_written : {u : WrittenToken} {us : List WrittenToken} → AreWritten [] (u ∷ us) → ⊥
nothing_written r = elim r [ ]

module _ (language : Language) (read : List Group) (p : Lexeme) (k : Keyword) (is : IsKeyword p k) where
  entry_of : (w : List ℕ) → bytes_eq p.text w ≡ true → keyword_in_table keywords w ≡ Some k
  entry_of w e = ap (keyword_in_table keywords) (sym (same_text p.text w e)) ∙ is.entry

  no_prompt : (q : Lexeme) (qs : List Lexeme) (u : WrittenToken) (us : List WrittenToken) (s : Statement) → AreWritten (q ∷ qs) (u ∷ us)
      → statement_of k (q ∷ qs) ≡ Ok s → (is_in_list p.text prompt_words && is_bare_prompt u) ≡ false
  no_prompt q qs u us s r h = by_tests (is_in_list p.text prompt_words) (is_bare_prompt u) refl refl
    where
      by_tests : (a b : Bool) → is_in_list p.text prompt_words ≡ a → is_bare_prompt u ≡ b → (a && b) ≡ false
      by_tests false b e f = refl
      by_tests true false e f = refl
      by_tests true true e f =
          let w = word_has_word r (first_so (is_word u) (not (is_in_list u.bytes (codes "if" ∷ codes "on" ∷ []))) f) in
          let listed : is_prompt_entry (keyword_in_table keywords p.text) ≡ true =
          in_all (λ w. is_prompt_entry (keyword_in_table keywords w)) p.text prompt_words all_prompts e in
          let takes : is_prompt_keyword k ≡ true = sym (ap is_prompt_entry is.entry) ∙ listed in
          let z : true ≡ false = sym (prompt_quoted k q qs s takes h) ∙ ap is_quoted_kind w.0 in
          z

  -- a line of two tokens that sources nothing
  no_source_pair : (q : Lexeme) (qs : List Lexeme) (u : WrittenToken) (s : Statement) → is_left_out language read k (q ∷ qs) ≡ false
      → statement_of k (q ∷ qs) ≡ Ok s → path_to_read (Some s) ≡ None → (is_in_list p.text source_words && is_path u) ≡ false
  no_source_pair q qs u s kept h none = by_test (is_in_list p.text source_words) refl
    where
      by_word : (a : Bool) → bytes_eq p.text (codes "source") ≡ a → (a || is_left_out_entry (keyword_in_table keywords p.text)) ≡ true → ⊥
      by_word true e f =
          let here : words.Source ≡ k = (let x : keyword_in_table keywords (codes "source") ≡ Some k = entry_of (codes "source") e in cc) in
          let parts = source_parts (q ∷ qs) s (ap (λ j. statement_of j (q ∷ qs)) here ∙ h) in
          let z : Some parts.0 ≡ None = sym parts.2 ∙ none in
          (let y : ⊥ = cc in y)
      by_word false e f =
          let out : k ≡ words.LeftOut = left_out_is k (sym (ap is_left_out_entry is.entry) ∙ f) in
          let z : true ≡ false = sym (ap (λ j. is_left_out language read j (q ∷ qs)) out) ∙ kept in
          (let y : ⊥ = cc in y)

      by_test : (a : Bool) → is_in_list p.text source_words ≡ a → (a && is_path u) ≡ false
      by_test false e = refl
      by_test true e =
          absurd (by_word (bytes_eq p.text (codes "source")) refl (in_all (λ w. bytes_eq w (codes "source") || is_left_out_entry (keyword_in_table keywords w))
          p.text source_words all_sources e))

  no_choice : (q : Lexeme) (qs : List Lexeme) (u : WrittenToken) (us : List WrittenToken) → AreWritten (q ∷ qs) (u ∷ us)
      → is_left_out language read k (q ∷ qs) ≡ false → (bytes_eq p.text (codes "choice") && is_word u) ≡ false
  no_choice q qs u us r kept = by_tests (bytes_eq p.text (codes "choice")) (is_word u) refl refl
    where
      by_tests : (a b : Bool) → bytes_eq p.text (codes "choice") ≡ a → is_word u ≡ b → (a && b) ≡ false
      by_tests false b e f = refl
      by_tests true false e f = refl
      by_tests true true e f =
          let here : words.Choice ≡ k = (let x : keyword_in_table keywords (codes "choice") ≡ Some k = entry_of (codes "choice") e in cc) in
          let w = word_has_word r f in
          let left : is_word_kind q.kind ≡ false = ap (λ j. is_left_out language read j (q ∷ qs)) here ∙ kept in
          sym (ap is_word_kind w.0) ∙ left

  -- an option is `modules` or `env`
  option_word : (q : Lexeme) (qs : List Lexeme) (s : Statement) → option_line (q ∷ qs) ≡ Ok s
      → (is_the_word (codes "modules") q ≡ true) ⊎ (is_the_word (codes "env") q ≡ true)
  option_word q qs s h = by_tests (is_the_word (codes "modules") q) (is_the_word (codes "env") q) refl refl h
    where
      by_tests : (b c : Bool) → is_the_word (codes "modules") q ≡ b → is_the_word (codes "env") q ≡ c
          → cond b (no_more (attribute modules) qs) (cond c (environment_line qs) (Err Malformed)) ≡ Ok s
          → (is_the_word (codes "modules") q ≡ true) ⊎ (is_the_word (codes "env") q ≡ true)
      by_tests true c e f h = inl e
      by_tests false true e f h = inr f
      by_tests false false e f h = let z : ⊥ = cc in absurd z

  word_bytes : {q : Lexeme} {qs : List Lexeme} {u : WrittenToken} {us : List WrittenToken} (x : List ℕ) → AreWritten (q ∷ qs) (u ∷ us)
      → (is_word_kind q.kind && bytes_eq q.text x) ≡ true → u.bytes ≡ x
  word_bytes {q = q} x (word_written e r) t = same_text q.text x (second_so (is_word_kind q.kind) (bytes_eq q.text x) t)
  word_bytes {q = q} x (quoted_written bytes e r) t =
      let z : false ≡ true = sym (ap is_word_kind e) ∙ first_so (is_word_kind q.kind) (bytes_eq q.text x) t in let y : ⊥ = cc in absurd y
  word_bytes {q = q} x (operator_written c e r) t =
      let z : false ≡ true = sym (operator_no_word q.kind e) ∙ first_so (is_word_kind q.kind) (bytes_eq q.text x) t in let y : ⊥ = cc in absurd y
  word_bytes {q = q} x (long_operator_written c d e r) t =
      let z : false ≡ true = sym (operator_no_word q.kind e) ∙ first_so (is_word_kind q.kind) (bytes_eq q.text x) t in let y : ⊥ = cc in absurd y

  no_option : (q : Lexeme) (qs : List Lexeme) (u : WrittenToken) (us : List WrittenToken) (s : Statement) (w : List ℕ) → bytes_eq (codes "modules") w ≡ false
      → bytes_eq (codes "env") w ≡ false → AreWritten (q ∷ qs) (u ∷ us) → statement_of k (q ∷ qs) ≡ Ok s
      → (bytes_eq p.text (codes "option") && bytes_eq u.bytes w) ≡ false
  no_option q qs u us s w n m r h = by_test (bytes_eq p.text (codes "option")) refl
    where
      by_word : (is_the_word (codes "modules") q ≡ true) ⊎ (is_the_word (codes "env") q ≡ true) → bytes_eq u.bytes w ≡ false
      by_word (inl e) = ap (λ b. bytes_eq b w) (word_bytes (codes "modules") r e) ∙ n
      by_word (inr e) = ap (λ b. bytes_eq b w) (word_bytes (codes "env") r e) ∙ m

      by_test : (a : Bool) → bytes_eq p.text (codes "option") ≡ a → (a && bytes_eq u.bytes w) ≡ false
      by_test false e = refl
      by_test true e =
          let here : words.Option ≡ k = (let x : keyword_in_table keywords (codes "option") ≡ Some k = entry_of (codes "option") e in cc) in
          by_word (option_word q qs s (ap (λ j. statement_of j (q ∷ qs)) here ∙ h))

  pair_plain : (q : Lexeme) (qs : List Lexeme) (u : WrittenToken) (us : List WrittenToken) (s : Statement) → AreWritten (q ∷ qs) (u ∷ us)
      → is_left_out language read k (q ∷ qs) ≡ false → statement_of k (q ∷ qs) ≡ Ok s
      → path_to_read (Some s) ≡ None → is_plain_form (form_of_two_words p.text u) ≡ true
  pair_plain q qs u us s r kept h none =
      four_tests (is_in_list p.text source_words && is_path u) (bytes_eq p.text (codes "choice") && is_word u)
      (bytes_eq p.text (codes "option") && bytes_eq u.bytes (codes "defconfig_list"))
      (bytes_eq p.text (codes "option") && bytes_eq u.bytes (codes "allnoconfig_y"))
      _ _ _ _ (no_source_pair q qs u s kept h none) (no_choice q qs u us r kept) (no_option q qs u us s (codes "defconfig_list") refl refl r h)
      (no_option q qs u us s (codes "allnoconfig_y") refl refl r h)

  rest_plain : (qs : List Lexeme) (us : List WrittenToken) (s : Statement) → AreWritten qs us → is_left_out language read k qs ≡ false
      → statement_of k qs ≡ Ok s → path_to_read (Some s) ≡ None
      → is_plain_form (form_of (written_as sorts.Word p.text p.text ∷ us)) ≡ true
  rest_plain [] [] s r kept h none = refl
  rest_plain [] (u ∷ us) s r kept h none = absurd (nothing_written r)
  rest_plain (q ∷ qs) [] s r kept h none = refl
  rest_plain (q ∷ qs) (u ∷ []) s r kept h none =
      ap (λ b. is_plain_form (cond b (bare_prompt u.bytes) (form_of_two_words p.text u))) (no_prompt q qs u [] s r h) ∙ pair_plain q qs u [] s r kept h none
  rest_plain (q ∷ qs) (u ∷ (v ∷ us)) s r kept h none = ap (λ b. is_plain_form (cond b (bare_prompt u.bytes) plain)) (no_prompt q qs u (v ∷ us) s r h)

no_operator_path : (q : Lexeme) (path : List ℕ) (kind : TokenKind) → is_operand_kind kind ≡ false
    → cond (is_quoted_kind kind) (Some (quoted_text q.text)) (cond (is_word_kind kind) (Some q.text) None) ≡ Some path → ⊥
no_operator_path q path Word e h = cc
no_operator_path q path k e h = cc

-- a line that sources a path
path_written : (q : Lexeme) (u : WrittenToken) (us : List WrittenToken) (path : List ℕ) → AreWritten (q ∷ []) (u ∷ us) → path_of q ≡ Some path
    → (us ≡ []) × (is_path u ≡ true) × (u.meaning ≡ Some path)
path_written q u us path (word_written e none_written) h = (refl, refl, sym (by_kind q.kind e) ∙ h)
  where
    by_kind : (kind : TokenKind) → kind ≡ Word → cond (is_quoted_kind kind) (Some (quoted_text q.text)) (cond (is_word_kind kind) (Some q.text) None)
        ≡ Some q.text
    by_kind kind e = ap (λ j. cond (is_quoted_kind j) (Some (quoted_text q.text)) (cond (is_word_kind j) (Some q.text) None)) e
path_written q u us path (quoted_written bytes e none_written) h = (refl, refl, sym (by_kind q.kind e) ∙ h)
  where
    by_kind : (kind : TokenKind) → kind ≡ Quoted → cond (is_quoted_kind kind) (Some (quoted_text q.text)) (cond (is_word_kind kind) (Some q.text) None)
        ≡ Some (quoted_text q.text)
    by_kind kind e = ap (λ j. cond (is_quoted_kind j) (Some (quoted_text q.text)) (cond (is_word_kind j) (Some q.text) None)) e
path_written q u us path (operator_written c e none_written) h = absurd (no_operator_path q path q.kind e h)
path_written q u us path (long_operator_written c d e none_written) h = absurd (no_operator_path q path q.kind e h)

some_written : {q : Lexeme} {qs : List Lexeme} {us : List WrittenToken} → AreWritten (q ∷ qs) us → (u : WrittenToken) × (vs : List WrittenToken) × (us ≡ u ∷ vs)
some_written (word_written e r) = (_, _, refl)
some_written x = (_, _, refl)

module _ (language : Language) (read : List Group) (p : Lexeme) (text : p.text ≡ codes "source") (path : List ℕ) where
  path_line : (q : Lexeme) (us : List WrittenToken) → AreWritten (q ∷ []) us → path_of q ≡ Some path → is_glob_path q ≡ false
      → IsPlainPath (written_as sorts.Word p.text p.text ∷ us) path
  path_line q us r h g =
      let w = some_written r in
      let is = path_written q w.0 w.1 path (subst (AreWritten (q ∷ [])) w.2 r) h in
      let globs = no_globs path (sym (ap (λ o. elim o as (λ _. Bool) [ None ↦ false | Some path ↦ is_glob path ]) h) ∙ g) in
      record {
        one = ap (λ x. plain_path (written_as sorts.Word p.text p.text ∷ x)) (w.2 ∙ ap (λ x. w.0 ∷ x) is.0)
            ∙ ap (λ t. cond (bytes_eq t (codes "source") && is_path w.0) w.0.meaning None) text ∙ ap (λ b. cond b w.0.meaning None) is.1 ∙ is.2;
        no_pattern = globs.0;
        no_bracket = globs.1;
      }

  source_fits : (ps : List Lexeme) (us : List WrittenToken) (s : Statement) → AreWritten ps us → is_left_out language read words.Source ps ≡ false
      → source_line ps ≡ Ok s → path_to_read (Some s) ≡ Some path → IsPlainPath (written_as sorts.Word p.text p.text ∷ us) path
  source_fits [] us s r g h e = let z : ⊥ = cc in absurd z
  source_fits (q ∷ qs) us s r g h e =
      let parts = source_parts (q ∷ qs) s h in
      let same : parts.0 ≡ path = (let x : Some parts.0 ≡ Some path = sym parts.2 ∙ e in cc) in
      let none : qs ≡ [] = (let x = parts.1.parts in cc) in
      let here : parts.1.token ≡ q = (let x = parts.1.parts in cc) in
      path_line q us (subst (λ x. AreWritten (q ∷ x) us) none r) (sym (ap path_of here) ∙ parts.1.means ∙ ap Some same) g

-- the form of a line with these tokens
head_written : {p : Lexeme} {ps : List Lexeme} {ts : List WrittenToken} → AreWritten (p ∷ ps) ts → p.kind ≡ Word
    → (us : List WrittenToken) × (ts ≡ written_as sorts.Word p.text p.text ∷ us) × AreWritten ps us
head_written (word_written e r) h = (_, refl, r)
head_written (quoted_written bytes e r) h = let z : ⊥ = cc in absurd z
head_written (operator_written c e r) h = let z : true ≡ false = sym (ap is_operand_kind h) ∙ e in let y : ⊥ = cc in absurd y
head_written (long_operator_written c d e r) h = let z : true ≡ false = sym (ap is_operand_kind h) ∙ e in let y : ⊥ = cc in absurd y

statement_fits : (language : Language) (read : List Group) (p : Lexeme) (ps : List Lexeme) (ts : List WrittenToken) (s : Statement)
    → IsStatement language read p ps s → AreWritten (p ∷ ps) ts → FormFits (path_to_read (Some s)) ts
statement_fits language read p ps ts s is r =
    let k = is.keyword in
    let key = keyword_is p k is.first in
    let w = head_written r key.word in
    subst (FormFits (path_to_read (Some s))) (sym w.1) (by_path w.0 w.2 key (path_to_read (Some s)) refl)
  where
    by_path : (us : List WrittenToken) → AreWritten ps us → IsKeyword p is.keyword → (o : Option (List ℕ)) → path_to_read (Some s) ≡ o
        → FormFits o (written_as sorts.Word p.text p.text ∷ us)
    by_path us r key None e = rest_plain language read p is.keyword key ps us s r is.kept is.form e
    by_path us r key (Some path) e =
        let k : is.keyword ≡ words.Source = only_source is.keyword ps s path is.form e in
        let text = source_entry keywords p.text refl (key.entry ∙ ap Some k) in
        source_fits language read p text path ps us s r (sym (ap (λ j. is_left_out language read j ps) k) ∙ is.kept)
        (sym (ap (λ j. statement_of j ps) k) ∙ is.form) e

line_form : (language : Language) (read : List Group) (ps : List Lexeme) (ts : List WrittenToken) (o : Option Statement) → HasStatement language read ps o
    → AreWritten ps ts → FormFits (path_to_read o) ts
line_form language read [] ts o h none_written = subst (λ x. FormFits (path_to_read x) []) (sym h) refl
line_form language read (p ∷ ps) ts None h r = absurd h
line_form language read (p ∷ ps) ts (Some s) h r = statement_fits language read p ps ts s h r

keyword_first : (language : Language) (read : List Group) (ps : List Lexeme) (o : Option Statement) → HasStatement language read ps o
    → begins_with_keyword ps ≡ true
keyword_first language read [] o h = refl
keyword_first language read (p ∷ ps) None h = absurd h
keyword_first language read (p ∷ ps) (Some s) h =
    let key = keyword_is p h.keyword h.first in ap (λ j. is_word_kind j && is_keyword p.text) key.word ∙ keyword_known p.text h.keyword key.entry

-- an `option env` that is accepted has its text after `env`, and asks nothing
quoted_no_operator : (k : TokenKind) → is_operand_kind k ≡ false → is_quoted_kind k ≡ true → ⊥
quoted_no_operator Quoted e h = let z : true ≡ false = e in cc
quoted_no_operator k e h = let z : false ≡ true = h in cc

after_env : {ps : List Lexeme} {ts : List LineToken} → AreRead ps ts → first_is (λ q. is_quoted_kind q.kind) ps ≡ true → asked_after_env (solid_tokens ts) ≡ None
after_env none_read h = refl
after_env (trivia_read r) h = after_env r h
after_env (word_read e n r) h = refl
after_env (quoted_read quote s e k m r) h = refl
after_env (operator_read {p = p} c e r) h = absurd (quoted_no_operator p.kind e h)
after_env (long_operator_read {p = p} c d e r) h = absurd (quoted_no_operator p.kind e h)

quoted_next : (env bare other : Bool) → env ≡ true → ((env && bare) || other) ≡ false → bare ≡ false
quoted_next true true other e h = let z : ⊥ = cc in absurd z
quoted_next true false other e h = refl
quoted_next false bare other e h = let z : ⊥ = cc in absurd z

module _ (language : Language) where
  bare_is_quoted : (b q : Bool) → (b || not q) ≡ false → q ≡ true
  bare_is_quoted true q h = let z : ⊥ = cc in absurd z
  bare_is_quoted false true h = refl
  bare_is_quoted false false h = let z : ⊥ = cc in absurd z

  after_option : {ps : List Lexeme} {ts : List LineToken} → AreRead ps ts → is_left_out_option language ps ≡ false → asked_after_option (solid_tokens ts) ≡ None
  after_option (trivia_read r) h = after_option r h
  after_option (word_read {p = q} {ps = qs} {ts = us} e n r) h = by_test (bytes_eq q.text (codes "env")) refl
    where
      by_test : (b : Bool) → bytes_eq q.text (codes "env") ≡ b → cond b (asked_after_env (solid_tokens us)) None ≡ None
      by_test false f = refl
      by_test true f =
          let env : is_the_word (codes "env") q ≡ true = ap (λ k. is_word_kind k && bytes_eq q.text (codes "env")) e ∙ f in
          after_env r (bare_is_quoted (is_strict language) (first_is (λ u. is_quoted_kind u.kind) qs)
          (quoted_next (is_the_word (codes "env") q) (is_strict language || not (first_is (λ u. is_quoted_kind u.kind) qs)) (is_the_word (codes "defconfig_list") q || is_the_word (codes "allnoconfig_y") q) env (regrouped h)))
        where
          regrouped : ((is_the_word (codes "env") q && (is_strict language || not (first_is (λ u. is_quoted_kind u.kind) qs)))
              || is_the_word (codes "defconfig_list") q || is_the_word (codes "allnoconfig_y") q) ≡ false
              → ((is_the_word (codes "env") q && (is_strict language || not (first_is (λ u. is_quoted_kind u.kind) qs)))
              || (is_the_word (codes "defconfig_list") q || is_the_word (codes "allnoconfig_y") q)) ≡ false
          regrouped h =
              by_three (is_the_word (codes "env") q && (is_strict language || not (first_is (λ u. is_quoted_kind u.kind) qs)))
              (is_the_word (codes "defconfig_list") q) (is_the_word (codes "allnoconfig_y") q) h
            where
              by_three : (a b c : Bool) → (a || b || c) ≡ false → (a || (b || c)) ≡ false
              by_three true b c h = let z : ⊥ = cc in absurd z
              by_three false true c h = let z : ⊥ = cc in absurd z
              by_three false false c h = h
  after_option x h = refl

  nothing_asked : {ts : List LineToken} → AreRead [] ts → asked_by (solid_tokens ts) ≡ None
  nothing_asked none_read = refl
  nothing_asked (trivia_read r) = nothing_asked r

  statement_asks : (read : List Group) {p : Lexeme} {ps : List Lexeme} (s : Statement) → IsStatement language read p ps s → {ts : List LineToken}
      → AreRead (p ∷ ps) ts → asked_by (solid_tokens ts) ≡ None
  statement_asks read s is (trivia_read r) = statement_asks read s is r
  statement_asks read s is (word_read {p = p} {ps = ps} {ts = ts} e n r) = by_test (bytes_eq p.text (codes "option")) refl
    where
      by_test : (b : Bool) → bytes_eq p.text (codes "option") ≡ b → cond b (asked_after_option (solid_tokens ts)) None ≡ None
      by_test false f = refl
      by_test true f =
          let key = keyword_is p is.keyword is.first in
          let here : words.Option ≡ is.keyword =
          (let x : keyword_in_table keywords (codes "option") ≡ Some is.keyword = entry_of language read p is.keyword key (codes "option") f in cc) in
          after_option r (ap (λ j. is_left_out language read j ps) here ∙ is.kept)
  statement_asks read s is x = refl

  line_asks : (read : List Group) (ps : List Lexeme) {ts : List LineToken} (o : Option Statement) → HasStatement language read ps o → AreRead ps ts
      → asked_by (solid_tokens ts) ≡ None
  line_asks read [] o h r = nothing_asked r
  line_asks read (p ∷ ps) None h r = absurd h
  line_asks read (p ∷ ps) (Some s) h r = statement_asks read s h r

-- a line that the reader accepts outside help texts: it asks nothing, nothing in it is expanded or assigned, and it sources this
-- path, or is in no form that the expansion writes anew
pub record IsAcceptedLine (text : List ℕ) (path : Option (List ℕ)) : Type 0 where
  pub short : nat_lt MAX_TEXT_BYTES (length text) ≡ false
  pub utf8 : is_utf8 text ≡ true
  pub asks : environment_asked text ≡ None
  pub kept : list_all is_kept_token (line_tokens 0 text) ≡ true
  pub no_name : is_assignment (line_tokens 0 text) ≡ false
  pub form : FormFits path (tokens_as_they_are text)
  pub help : is_help_line (tokens_as_they_are text) ≡ begins_help text

not_so : (b : Bool) → not b ≡ false → b ≡ true
not_so true h = refl
not_so false h = let z : ⊥ = cc in absurd z

line_with_statement : (language : Language) (read : List Group) (text : List ℕ) (o : Option Statement) → nat_lt MAX_TEXT_BYTES (length text) ≡ false
    → is_utf8 text ≡ true → IsStatementOf language read text o → IsAcceptedLine text (path_to_read o)
line_with_statement language read text o short utf8 is =
    let read_as : AreRead is.tokens (line_tokens 0 text) = cut_tokens language 0 text is.tokens
    (read_cut language (length text) 0 text is.tokens (omega arith) is.lexemes) in
    let written = as_written read_as in
    record {
      short = short;
      utf8 = utf8;
      asks = line_asks language read is.tokens o is.statement read_as;
      kept = tokens_kept read_as;
      no_name = no_assignment read_as (keyword_first language read is.tokens o is.statement);
      form = line_form language read is.tokens (tokens_as_they_are text) o is.statement written;
      help = help_same written ∙ sym (ap is_help_or_fault is.lexemes) ∙ help_alike text language;
    }

pub accepted_line : (language : Language) (read : List Group) (l : LogicalLine) (o : Option Statement) → l.help ≡ false
    → statement_on_line language read l ≡ Ok o → IsAcceptedLine l.text (path_to_read o)
unfolding statement_on_line
accepted_line language read l o no_help h =
    let a = past (nat_lt MAX_LINE_BYTES (length l.text)) LineTooLong _ o h in
    let b = past (not (is_utf8 l.text)) NotUtf8 _ o a.1 in
    let c : statement_or_fault language read (lexemes_from language 0 0 l.text) ≡ Ok o =
    sym (ap (λ x. cond x (Ok None) (statement_or_fault language read (lexemes_from language 0 0 l.text))) no_help) ∙ b.1 in
    line_with_statement language read l.text o a.0 (not_so (is_utf8 l.text) b.0)
    (lexemes_statement language read l.text (lexemes_from language 0 0 l.text) o refl c)

-- such a line is plain
either_true : (a b : Bool) → b ≡ true → (a || b) ≡ true
either_true true b e = refl
either_true false b e = e

plain_or_source : (o : Option Statement) (path : Option (List ℕ)) (real : List WrittenToken) → path_to_read o ≡ path → FormFits path real
    → (is_plain_form (form_of real) || is_one_of (is_sourced_by o) (plain_path real)) ≡ true
plain_or_source o None real e h = ap (λ b. b || is_one_of (is_sourced_by o) (plain_path real)) h
plain_or_source o (Some path) real e h =
    let same : is_sourced_by o path ≡ true = ap (λ (p : Option (List ℕ)). elim p as (λ _. Bool) [ None ↦ false | Some q ↦ bytes_eq q path ]) e
    ∙ nat_list_eq_equiv.refl path in
    either_true (is_plain_form (form_of real)) (is_one_of (is_sourced_by o) (plain_path real))
    (ap (is_one_of (is_sourced_by o)) h.one ∙ ap (λ b. not b && (not (list_any (λ c. c == 91) path) && is_sourced_by o path)) h.no_pattern
    ∙ ap (λ b. not b && is_sourced_by o path) h.no_bracket ∙ same)

pub accepted_lines_stay : AcceptedLinesStay
accepted_lines_stay language read l o no_help h =
    let is = accepted_line language read l o no_help h in
    let real = tokens_as_they_are l.text in
    let form = plain_or_source o (path_to_read o) real refl is.form in
    let copied : is_copied l.text ≡ false = ap (λ b. b || not (is_utf8 l.text)) is.short ∙ ap not is.utf8 in (
      ap (λ b. b || (is_none (environment_asked l.text) && (list_all is_kept_token (line_tokens 0 l.text) && (not (is_assignment (line_tokens 0 l.text))
          && (is_plain_form (form_of real) || is_one_of (is_sourced_by o) (plain_path real)))))) copied
          ∙ ap (λ a. is_none a && (list_all is_kept_token (line_tokens 0 l.text) && (not (is_assignment (line_tokens 0 l.text))
          && (is_plain_form (form_of real) || is_one_of (is_sourced_by o) (plain_path real))))) is.asks
          ∙ ap (λ b. b && (not (is_assignment (line_tokens 0 l.text)) && (is_plain_form (form_of real) || is_one_of (is_sourced_by o)
          (plain_path real)))) is.kept
          ∙ ap (λ b. not b && (is_plain_form (form_of real) || is_one_of (is_sourced_by o) (plain_path real))) is.no_name ∙ form,
      ap (λ b. cond b (begins_help l.text) (is_help_line real)) copied ∙ is.help,
    )
