-- Lines that have nothing to expand, assign or rewrite are written as they are.
use Rattle.kc_macros_model.proofs.Common.{◌≡◌, ℕ, zero, suc, ◌+◌, Bool, true, false, ◌&&◌, ◌||◌, cond, List, [], ◌∷◌, ◌++◌, length, take, drop, map, Option, Some, None, refl, sym, ap, ◌∙◌, not, nat_lt, bytes_eq, codes, is_none, ◌==◌, list_all, list_any, first_so, second_so, take-append-drop}
use Rattle.kc_macros_model.proofs.Common.{PhysicalLine, split_at_newlines, without_return, is_continued, joined_bytes, continuation_count, begins_help, LineTooLong, MAX_TEXT_BYTES, Place, Program, returns, stops, ◌>>=◌, fault, line_tokens, Word, WrittenToken, written_as, LineContent, tokens, is_trivia}
use Rattle.kc_macros_model.proofs.Common.{line_content, environment_asked, meant_line, SourceSort, LineForm, plain, named_choice, sources, is_word, is_path, form_of_first_word, form_of, without_trivia, with_nth_token, line_bytes, is_help_line, is_pattern, ReadingState, Progress, progress, WrittenLine}
use Rattle.kc_macros_model.proofs.Common.{written_line, place, SourceReader, form_written, short_line, tokens_written, content_written, bytes_of_lines, lines_written, newlines_of, help_after, lines_read, is_kept_token, token_as_it_is, is_assignment, tokens_as_they_are, is_plain_form, plain_path}
use Rattle.kc_macros_model.proofs.Common.{is_one_of, is_copied, is_plain_line, is_before_help, logical_texts, no_paths, nat_list_eq_equiv}
use Rattle.std.specs.Str.{is_utf8}
use Rattle.kc_macros_model.specs.PlainLines.{PlainLinesStay, PlainFilesStay}
use Rattle.kc_macros_model.proofs.EnvironmentLines.{meant_same}
use Rattle.kc_macros_model.proofs.CleanTexts.{neither_first}
use Rattle.kc_macros_model.proofs.Keys.{same_text}
use Rattle.kc_macros_model.proofs.LineCounts.{split_bytes, lines_both, drop_twice}
use Rattle.kc_macros_model.proofs.PlainTokens.{not_so, bytes_as_they_are, decided_as_they_are, tokens_stay}
use Rattle.kc_macros_model.proofs.TokensOfLines.{tokens_are_line}

-- the written tokens of a line that has nothing to expand, trivia among them
abbrev pub own_tokens : List ℕ → List WrittenToken
own_tokens text = map token_as_it_is (line_tokens 0 text)

pub own_bytes : (text : List ℕ) → line_bytes (own_tokens text) ≡ text
own_bytes text = bytes_as_they_are (line_tokens 0 text) ∙ tokens_are_line text

-- a line that has nothing to expand and is no assignment is written by the form of its own tokens
pub line_by_form : (sub : SourceReader) (at : Place) (continued : Bool) (text : List ℕ) (s : ReadingState) (f : LineForm)
    → list_all is_kept_token (line_tokens 0 text) ≡ true → is_assignment (line_tokens 0 text) ≡ false
    → form_of (tokens_as_they_are text) ≡ f
    → (line_content at s.bindings true (line_tokens 0 text) >>= content_written sub at continued s)
    ≡ (form_written sub at (own_tokens text) f s >>= short_line at (is_help_line (tokens_as_they_are text)))
line_by_form sub at continued text s f free no_name form =
    ap (λ (p : Program LineContent). p >>= content_written sub at continued s) (tokens_stay at s.bindings (line_tokens 0 text) free no_name)
    ∙ either_way continued
    ∙ ap (λ b. elim b as (λ z. Program WrittenLine) [ true ↦ stops | false ↦ form_written sub at ts (form_of real) s >>= short_line at (is_help_line real) ])
    (decided_as_they_are (line_tokens 0 text))
    ∙ ap (λ g. form_written sub at ts g s >>= short_line at (is_help_line real)) form
  where
    ts : List WrittenToken
    ts = own_tokens text

    real : List WrittenToken
    real = tokens_as_they_are text

    either_way : (c : Bool) → content_written sub at c s (tokens ts) ≡ tokens_written sub at s ts real
    either_way true = refl
    either_way false = refl

-- a text of at most `MAX_TEXT_BYTES` bytes is an expanded line without fault
pub short_stays : (at : Place) (help : Bool) (text new : List ℕ) (s : ReadingState) → new ≡ text → nat_lt MAX_TEXT_BYTES (length text) ≡ false
    → short_line at help (progress new s) ≡ returns (written_line text help s)
short_stays at help text new s e h =
    ap (λ x. short_line at help (progress x s)) e ∙ ap (λ b. elim b as (λ z. Program WrittenLine) [
      | true ↦ fault at LineTooLong []
      | false ↦ returns (written_line text help s)
    ]) h

pub plain_form_is : (f : LineForm) → is_plain_form f ≡ true → f ≡ plain
plain_form_is plain e = refl
plain_form_is x e = let z : ⊥ = cc in absurd z

-- a plain line that sources nothing and isn't too long is written as it is
pub plain_line_stays : (sub : SourceReader) (at : Place) (continued : Bool) (text : List ℕ) (s : ReadingState)
    → list_all is_kept_token (line_tokens 0 text) ≡ true → is_assignment (line_tokens 0 text) ≡ false
    → is_plain_form (form_of (tokens_as_they_are text)) ≡ true → nat_lt MAX_TEXT_BYTES (length text) ≡ false
    → (line_content at s.bindings true (line_tokens 0 text) >>= content_written sub at continued s) ≡ returns
    (written_line text (is_help_line (tokens_as_they_are text)) s)
plain_line_stays sub at continued text s free no_name form short =
    line_by_form sub at continued text s plain free no_name (plain_form_is (form_of (tokens_as_they_are text)) form)
    ∙ short_stays at (is_help_line (tokens_as_they_are text)) text (line_bytes (own_tokens text)) s (own_bytes text) short

none_of_none : (o : Option (List ℕ)) → is_one_of no_paths o ≡ false
none_of_none None = refl
none_of_none (Some path) = by_tests (not (is_pattern path)) (not (list_any (λ c. c == 91) path))
  where
    by_tests : (x y : Bool) → (x && (y && false)) ≡ false
    by_tests true true = refl
    by_tests true false = refl
    by_tests false y = refl

no_other : (x y : Bool) → y ≡ false → (x || y) ≡ true → x ≡ true
no_other true y h e = refl
no_other false y h e = let z : ⊥ = cc in absurd z

pub plain_lines_stay : PlainLinesStay
plain_lines_stay sub at continued text s e = by_test (is_copied text) refl e
  where
    real : List WrittenToken
    real = tokens_as_they_are text

    asks : Bool
    asks = is_none (environment_asked text)

    free : Bool
    free = list_all is_kept_token (line_tokens 0 text)

    no_name : Bool
    no_name = not (is_assignment (line_tokens 0 text))

    form : Bool
    form = is_plain_form (form_of real) || is_one_of no_paths (plain_path real)

    by_test : (b : Bool) → is_copied text ≡ b → (b || (asks && (free && (no_name && form)))) ≡ true
        → (elim b as (λ z. Program WrittenLine) [
          | true ↦ returns (written_line text (begins_help text) s)
          | false ↦ line_content at s.bindings true (line_tokens 0 (meant_line text)) >>= content_written sub at continued s
        ])
        ≡ returns (written_line text (cond b (begins_help text) (is_help_line real)) s)
    by_test true c e = refl
    by_test false c e =
        let whole = second_so asks (free && (no_name && form)) e in
        let rest = second_so free (no_name && form) whole in
        ap (λ x. line_content at s.bindings true (line_tokens 0 x) >>= content_written sub at continued s) (meant_same text (first_so asks (free && (no_name && form)) e))
        ∙ plain_line_stays sub at continued text s (first_so free (no_name && form) whole) (not_so (is_assignment (line_tokens 0 text)) (first_so no_name form rest))
        (no_other (is_plain_form (form_of real)) (is_one_of no_paths (plain_path real)) (none_of_none (plain_path real)) (second_so no_name form rest))
        (neither_first (nat_lt MAX_TEXT_BYTES (length text)) (not (is_utf8 text)) c)

-- the physical lines of a logical line, those of its help text, and the remaining ones are all the lines
pub whole_lines : (l : PhysicalLine) (ls : List PhysicalLine) (more help : ℕ) (text : List ℕ)
    → lines_written (l ∷ take more ls) text text ++ (bytes_of_lines (take help (drop more ls)) ++ bytes_of_lines (drop (more + help) ls))
    ≡ bytes_of_lines (l ∷ ls)
whole_lines l ls more help text =
    let first = bytes_of_lines (l ∷ take more ls) in
    let middle = bytes_of_lines (take help (drop more ls)) in
    ap (λ b. cond b first (text ++ newlines_of (l ∷ take more ls)) ++ (middle ++ bytes_of_lines (drop (more + help) ls))) (nat_list_eq_equiv.refl text)
    ∙ ap (λ x. first ++ (middle ++ bytes_of_lines x)) (drop_twice more help ls)
    ∙ ap (λ x. first ++ x) (sym (lines_both (take help (drop more ls)) (drop help (drop more ls))) ∙ ap bytes_of_lines (take-append-drop help (drop more ls)))
    ∙ sym (lines_both (l ∷ take more ls) (drop more ls))
    ∙ ap (λ x. bytes_of_lines (l ∷ x)) (take-append-drop more ls)

lines_stay : (sub : SourceReader) (file : List ℕ) (skip n : ℕ) (ls : List PhysicalLine) (s : ReadingState)
    → list_all (is_plain_line no_paths) (logical_texts skip ls) ≡ true
    → lines_read sub file skip n ls s ≡ returns (progress (bytes_of_lines (drop skip ls)) s)
lines_stay sub file zero n [] s e = refl
lines_stay sub file (suc skip) n [] s e = refl
lines_stay sub file (suc skip) n (l ∷ ls) s e = lines_stay sub file skip (n + 1) ls s e
lines_stay sub file zero n (l ∷ ls) s e =
    let more = continuation_count (map without_return (l ∷ ls)) in
    let text = joined_bytes (map without_return (l ∷ ls)) in
    let help = help_after (is_before_help text) (drop more ls) in
    let first : is_plain_line no_paths text ≡ true = first_so (is_plain_line no_paths text)
    (list_all (is_plain_line no_paths) (logical_texts (more + help) ls)) e in
    let others : list_all (is_plain_line no_paths) (logical_texts (more + help) ls) ≡ true =
    second_so (is_plain_line no_paths text) (list_all (is_plain_line no_paths) (logical_texts (more + help) ls)) e in
    ap (λ (p : Program WrittenLine). p >>= λ line. let h = help_after line.begins_help (drop more ls) in
    lines_read sub file (more + h) (n + 1) ls line.state >>= λ rest. returns
    (progress (lines_written (l ∷ take more ls) text line.text ++ (bytes_of_lines (take h (drop more ls)) ++ rest.text)) rest.state))
    (plain_lines_stay sub (place file n) (is_continued (without_return l)) text s first)
    ∙ ap (λ (p : Program Progress). p >>= λ rest. returns (progress (lines_written (l ∷ take more ls) text text
    ++ (bytes_of_lines (take help (drop more ls)) ++ rest.text)) rest.state)) (lines_stay sub file (more + help) (n + 1) ls s others)
    ∙ ap (λ x. returns (progress x s)) (whole_lines l ls more help text)

pub plain_files_stay : PlainFilesStay
plain_files_stay sub file bytes s e = lines_stay sub file 0 1 (split_at_newlines bytes) s e ∙ ap (λ x. returns (progress x s)) (split_bytes bytes)

-- the sort of the keyword `source`: its path isn't relative to the file's folder, and its file must be there
abbrev pub one_source : SourceSort
one_source = record { relative = false; optional = false }

-- the first written token of a line that is no trivia is the word `source`
pub record BeginsWithSource (ts : List WrittenToken) : Type 0 where
  pub first : WrittenToken
  pub rest : List WrittenToken
  pub parts : without_trivia ts ≡ first ∷ rest
  pub bytes : first.bytes ≡ codes "source"

abbrev source_word : WrittenToken
source_word = written_as Word (codes "source") []

same_head : (x y : WrittenToken) (xs ys : List WrittenToken) → x ∷ xs ≡ y ∷ ys → x ≡ y
same_head x y xs ys e = cc

-- putting the word `source` in place of a first token that is that word leaves the bytes of a line
source_stays : (ts : List WrittenToken) (first : WrittenToken) (rest : List WrittenToken) → without_trivia ts ≡ first ∷ rest → first.bytes ≡ codes "source"
    → line_bytes (with_nth_token 0 source_word ts) ≡ line_bytes ts
source_stays [] first rest e b = let z : ⊥ = cc in absurd z
source_stays (t ∷ ts) first rest e b = by_test (λ h. source_stays ts first rest h b) (is_trivia t) e
  where
    by_test : (without_trivia ts ≡ first ∷ rest → line_bytes (with_nth_token 0 source_word ts) ≡ line_bytes ts) → (g : Bool)
        → cond (not g) (t ∷ without_trivia ts) (without_trivia ts) ≡ first ∷ rest
        → line_bytes (cond g (t ∷ with_nth_token 0 source_word ts) (source_word ∷ ts)) ≡ line_bytes (t ∷ ts)
    by_test ih true e = ap (λ x. t.bytes ++ x) (ih e)
    by_test ih false e = ap (λ x. x ++ line_bytes ts) (sym b ∙ ap (λ (x : WrittenToken). x.bytes) (sym (same_head t first (without_trivia ts) rest e)))

pub source_word_stays : {ts : List WrittenToken} → BeginsWithSource ts → line_bytes (with_nth_token 0 source_word ts) ≡ line_bytes ts
source_word_stays {ts = ts} h = source_stays ts h.first h.rest h.parts h.bytes

-- the written tokens without trivia of a line are those of `source PATH` with this path
pub record IsSource (real : List WrittenToken) (path : List ℕ) : Type 0 where
  pub form : form_of real ≡ sources one_source (Some path)
  pub first : WrittenToken
  pub rest : List WrittenToken
  pub parts : real ≡ first ∷ rest
  pub bytes : first.bytes ≡ codes "source"

pub source_of_path : (real : List WrittenToken) (path : List ℕ) → plain_path real ≡ Some path → IsSource real path
source_of_path [] path e = let z : ⊥ = cc in absurd z
source_of_path (t ∷ []) path e = let z : ⊥ = cc in absurd z
source_of_path (t ∷ u ∷ v ∷ rest) path e = let z : ⊥ = cc in absurd z
source_of_path (t ∷ u ∷ []) path e = by_tests (is_word t) (bytes_eq t.bytes (codes "source")) (is_path u) refl refl refl e
  where
    by_tests : (x y z : Bool) → is_word t ≡ x → bytes_eq t.bytes (codes "source") ≡ y → is_path u ≡ z → cond (x && (y && z)) u.meaning None ≡ Some path
        → IsSource (t ∷ u ∷ []) path
    by_tests true true true hw hs hp e =
        let s : t.bytes ≡ codes "source" = same_text t.bytes (codes "source") hs in
        record {
          form = ap (λ x. cond x (form_of_first_word t.bytes u []) plain) hw
              ∙ ap (λ x. form_of_first_word x u []) s
              ∙ ap (λ x. cond x (sources one_source u.meaning) (cond (bytes_eq (codes "source") (codes "choice") && is_word u) (named_choice u.bytes) plain)) hp
              ∙ ap (λ m. sources one_source m) e;
          first = t;
          rest = u ∷ [];
          parts = refl;
          bytes = s;
        }
    by_tests true true false hw hs hp e = let z : ⊥ = cc in absurd z
    by_tests true false z hw hs hp e = let z : ⊥ = cc in absurd z
    by_tests false y z hw hs hp e = let z : ⊥ = cc in absurd z
