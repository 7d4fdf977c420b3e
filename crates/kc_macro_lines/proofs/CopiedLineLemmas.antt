-- Lines without `$`, and lines on which nothing acts.
use Rattle.kc_macro_lines.proofs.Common.{◌≡◌, ℕ, zero, suc, ◌+◌, ◌≤◌, Bool, true, false, ◌&&◌, ◌||◌, cond, List, [], ◌∷◌, ◌++◌, length, take, drop, get_or, Option, Some, None, refl, sym, ap, ◌∙◌, subst, arith, ◌==◌, not, nat_lt, pred, bytes_eq, codes, is_some, option_map, list_any, prefix_len}
use Rattle.kc_macro_lines.proofs.Common.{is_utf8, drop_all, eqb-true, le-ltb, is_white_byte, is_in_list, Place, Program, returns, stops, ◌>>=◌, Item, byte, escaped, item_bytes, reference_of, first_item, items, inside_length, is_unterminated, is_reference, is_plain_dollar, Bindings, LineToken, trivia}
use Rattle.kc_macro_lines.proofs.Common.{run, quoted, other, broken, token_bytes, extent, is_run_byte, run_token, quoted_token, first_token, line_tokens, bytes_of_tokens, Word, Other, WrittenToken, written_as, quoted_text_of, joined_quoted_texts, written_items, token_of_quoted_text, written_token, run_value}
use Rattle.kc_macro_lines.proofs.Common.{token_of_text, AssignedText, LineContent, tokens, with_token, is_trivia, is_unknown, is_trivia_token, is_open_front, assignment_to, assignment_at, assignment_or, line_content, without_front, solid_tokens, asked_after_option, asked_by, prompt_words, source_words}
use Rattle.kc_macro_lines.proofs.Common.{help_words, is_acting_word, HasNothingToExpand}
use Rattle.std.specs.Prelude.{is_none}
use Rattle.kc_tree_model.specs.LogicalLines.{begins_help}
use Rattle.kc_macros_model.specs.declared.fault.MacroKind.TheVariants.{LineTooLong}
use Rattle.kc_value.specs.declared.limits.TheConstants.{MAX_TEXT_BYTES}
use Rattle.kc_macros_model.specs.Expansion.{fault}
use Rattle.kc_macros_model.specs.declared.token_sort.TokenSort.TheVariants.{Trivia}
use Rattle.kc_macros_model.specs.EnvironmentLines.{meant_line}
use Rattle.kc_macros_model.proofs.EnvironmentLines.{meant_same}
use Rattle.kc_macros_model.specs.LineForms.{LineForm, plain, bare_prompt, replaced_by, named_choice, sources, sort_of_source, is_path, form_of, form_of_first_word, form_of_two_words, is_word, is_bare_prompt, is_help_line, is_undecided, without_trivia, line_bytes}
use Rattle.kc_macros_model.specs.ReadingStates.{ReadingState, progress, WrittenLine, written_line}
use Rattle.kc_macros_model.specs.TreeExpansion.{SourceReader, form_written, short_line, tokens_written, content_written, line_written}
use Rattle.kc_macro_lines.specs.between.CopiedLines.{IsCopied}
use Rattle.kc_macro_lines.specs.checker.LinesWithoutMacros.{HasNoWordNext}
use Rattle.kc_macro_lines.proofs.WrittenTokenLemmas.{run_is_word}
use Rattle.kc_macro_lines.proofs.LineTokenLemmas.{row_of_tokens, tokens_skip}

-- whether a text has a `$`
abbrev pub has_dollar : List ℕ → Bool
has_dollar s = list_any (λ c. c == 36) s

pub either_false : (a b : Bool) → (a || b) ≡ false → (a ≡ false) × (b ≡ false)
either_false false false h = (refl, refl)
either_false false true h = absurd (let z : ⊥ = cc in z)
either_false true b h = absurd (let z : ⊥ = cc in z)

pub first_plain : (c : ℕ) (s : List ℕ) → has_dollar (c ∷ s) ≡ false → (c == 36) ≡ false
first_plain c s h = (either_false (c == 36) (has_dollar s) h).0

pub rest_plain : (c : ℕ) (s : List ℕ) → has_dollar (c ∷ s) ≡ false → has_dollar s ≡ false
rest_plain c s h = (either_false (c == 36) (has_dollar s) h).1

pub take_plain : (n : ℕ) (s : List ℕ) → has_dollar s ≡ false → has_dollar (take n s) ≡ false
take_plain zero s h = refl
take_plain (suc n) [] h = refl
take_plain (suc n) (c ∷ s) h = ap (λ b. b || has_dollar (take n s)) (first_plain c s h) ∙ take_plain n s (rest_plain c s h)

-- the first item of a text that doesn't begin with `$`: in quotes an escaped byte after a backslash, otherwise a byte
pub first_is : (q : Bool) (c d : ℕ) (s : List ℕ) → (c == 36) ≡ false → first_item q c (d ∷ s) ≡ cond (q && (c == 92)) (escaped d) (byte c)
first_is q c d s e = ap (λ b. cond (b && (d == 40)) (reference_of s (inside_length 0 s)) (cond (q && (c == 92)) (escaped d) (byte c))) e

-- no item of a text without `$` passes a test that its bytes and pairs don't pass
module _ (p : Item → Bool) (of_byte : (c : ℕ) → (c == 36) ≡ false → p (byte c) ≡ false) (of_pair : (c : ℕ) → p (escaped c) ≡ false) (q : Bool) where
  no_item : (skip : ℕ) (s : List ℕ) → has_dollar s ≡ false → list_any p (items q skip s) ≡ false
  no_item zero [] h = refl
  no_item (suc k) [] h = refl
  no_item (suc k) (c ∷ s) h = no_item k s (rest_plain c s h)
  no_item zero (c ∷ []) h = ap (λ b. b || false) (of_byte c (first_plain c [] h))
  no_item zero (c ∷ d ∷ s) h =
      ap (λ i. p i || list_any p (items q (pred (length (item_bytes i))) (d ∷ s))) (first_is q c d s (first_plain c (d ∷ s) h))
      ∙ by_test (q && (c == 92)) (no_item 0 (d ∷ s) (rest_plain c (d ∷ s) h)) (no_item 1 (d ∷ s) (rest_plain c (d ∷ s) h))
    where
      by_test : (b : Bool) → list_any p (items q 0 (d ∷ s)) ≡ false → list_any p (items q 1 (d ∷ s)) ≡ false
          → (let i = cond b (escaped d) (byte c) in (p i || list_any p (items q (pred (length (item_bytes i))) (d ∷ s))) ≡ false)
      by_test true k l = ap (λ b. b || list_any p (items q 1 (d ∷ s))) (of_pair d) ∙ l
      by_test false k l = ap (λ b. b || list_any p (items q 0 (d ∷ s))) (of_byte c (first_plain c (d ∷ s) h)) ∙ k

pub all_terminated : (q : Bool) (s : List ℕ) → has_dollar s ≡ false → list_any is_unterminated (items q 0 s) ≡ false
all_terminated q s h = no_item is_unterminated (λ c e. refl) (λ c. refl) q 0 s h

no_reference : (s : List ℕ) → has_dollar s ≡ false → list_any is_reference (items false 0 s) ≡ false
no_reference s h = no_item is_reference (λ c e. refl) (λ c. refl) false 0 s h

no_dollar : (s : List ℕ) → has_dollar s ≡ false → list_any is_plain_dollar (items false 0 s) ≡ false
no_dollar s h = no_item is_plain_dollar (λ c e. e) (λ c. refl) false 0 s h

-- bytes between quotes that are written as they are
record IsKept (quote skip : ℕ) (s : List ℕ) : Type 0 where
  meaning : List ℕ
  written : (at : Place) (b : Bindings) → written_items at b quote (items true skip s) ≡ returns (quoted_text_of (drop skip s) meaning)

kept : (quote skip : ℕ) (s : List ℕ) → has_dollar s ≡ false → IsKept quote skip s
kept quote zero [] h = record { meaning = []; written = λ at b. refl }
kept quote (suc k) [] h = record { meaning = []; written = λ at b. refl }
kept quote (suc k) (c ∷ s) h = let r = kept quote k s (rest_plain c s h) in record { meaning = r.meaning; written = r.written }
kept quote zero (c ∷ []) h = record {
  meaning = c ∷ [];
  written = λ at b. ap (λ t. returns (quoted_text_of (cond t (92 ∷ c ∷ []) (c ∷ []) ++ []) (c ∷ []))) (first_plain c [] h);
}
kept quote zero (c ∷ d ∷ s) h = by_test (kept quote 0 (d ∷ s) (rest_plain c (d ∷ s) h)) (kept quote 1 (d ∷ s) (rest_plain c (d ∷ s) h)) (c == 92) refl
  where
    plain_c : (c == 36) ≡ false
    plain_c = first_plain c (d ∷ s) h

    from : (i : Item) → first_item true c (d ∷ s) ≡ i → items true 0 (c ∷ d ∷ s) ≡ i ∷ items true (pred (length (item_bytes i))) (d ∷ s)
    from i e = ap (λ x. x ∷ items true (pred (length (item_bytes x))) (d ∷ s)) e

    by_test : IsKept quote 0 (d ∷ s) → IsKept quote 1 (d ∷ s) → (b : Bool) → (c == 92) ≡ b → IsKept quote 0 (c ∷ d ∷ s)
    by_test next after false e = record {
      meaning = c ∷ next.meaning;
      written = λ at b.
          ap (written_items at b quote) (from (byte c) (first_is true c d s plain_c ∙ ap (λ t. cond t (escaped d) (byte c)) e))
          ∙ ap (λ p. p >>= λ rest. returns (joined_quoted_texts (quoted_text_of (cond (c == 36) (92 ∷ c ∷ []) (c ∷ [])) (c ∷ [])) rest)) (next.written at b)
          ∙ ap (λ t. returns (quoted_text_of (cond t (92 ∷ c ∷ []) (c ∷ []) ++ d ∷ s) (c ∷ next.meaning))) plain_c;
    }
    by_test next after true e = record {
      meaning = d ∷ after.meaning;
      written = λ at b.
          ap (written_items at b quote) (from (escaped d) (first_is true c d s plain_c ∙ ap (λ t. cond t (escaped d) (byte c)) e))
          ∙ ap (λ p. p >>= λ rest. returns (joined_quoted_texts (quoted_text_of (92 ∷ d ∷ []) (d ∷ [])) rest)) (after.written at b)
          ∙ ap (λ x. returns (quoted_text_of (x ∷ d ∷ s) (d ∷ after.meaning))) (sym (eqb-true c 92 e));
    }

abbrev is_run_token : LineToken → Bool
is_run_token (run s) = true
is_run_token (trivia s) = false
is_run_token (quoted quote s) = false
is_run_token (other s) = false
is_run_token (broken s) = false

-- a token that is written as it is
record IsPlain (t : LineToken) (w : WrittenToken) : Type 0 where
  written : (at : Place) (b : Bindings) → written_token at b t ≡ returns w
  bytes : w.bytes ≡ token_bytes t
  known : is_unknown w ≡ false
  gone : is_trivia w ≡ is_trivia_token t
  word : is_word w ≡ is_run_token t

record PlainToken (t : LineToken) : Type 0 where
  token : WrittenToken
  is : IsPlain t token

trivia_plain : (s : List ℕ) → PlainToken (trivia s)
trivia_plain s = record { token = written_as Trivia s []; is = record { written = λ at b. refl; bytes = refl; known = refl; gone = refl; word = refl } }

other_plain : (s : List ℕ) → PlainToken (other s)
other_plain s = record { token = written_as Other s []; is = record { written = λ at b. refl; bytes = refl; known = refl; gone = refl; word = refl } }

run_plain : (s : List ℕ) → has_dollar s ≡ false → PlainToken (run_token s)
run_plain s h = subst (λ (t : LineToken). PlainToken t) (sym (ap (λ b. cond b (broken s) (run s)) (all_terminated false s h)))
    (record {
      token = written_as Word s s;
      is = record {
        written = λ at b. run_is_word at b s (no_dollar s h) (no_reference s h);
        bytes = refl;
        known = refl;
        gone = refl;
        word = refl;
      };
    })

quoted_plain : (n quote : ℕ) (s : List ℕ) → has_dollar s ≡ false → PlainToken (quoted_token n quote s)
quoted_plain n quote s h =
    subst (λ (t : LineToken). PlainToken t)
    (sym (ap (λ b. cond b (broken (quote ∷ s)) (cond (nat_lt n (length s)) (quoted quote (take n s)) (other (quote ∷ s))))
    (all_terminated true (take n s) (take_plain n s h))))
    (by_test (nat_lt n (length s)))
  where
    inside : IsKept quote 0 (take n s)
    inside = kept quote 0 (take n s) (take_plain n s h)

    by_test : (b : Bool) → PlainToken (cond b (quoted quote (take n s)) (other (quote ∷ s)))
    by_test false = other_plain (quote ∷ s)
    by_test true = record {
      token = token_of_quoted_text quote (quoted_text_of (take n s) inside.meaning);
      is = record {
        written = λ at b. ap (λ p. p >>= λ body. returns (token_of_quoted_text quote body)) (inside.written at b);
        bytes = refl;
        known = refl;
        gone = refl;
        word = refl;
      };
    }

first_plain_token : (c : ℕ) (s : List ℕ) → has_dollar (c ∷ s) ≡ false → PlainToken (first_token c s)
first_plain_token c s h = by_tests (is_white_byte c) (c == 35) (is_run_byte c) (c == 34 || (c == 39))
  where
    run_len : ℕ
    run_len = extent false (λ d. not (is_run_byte d)) 0 (c ∷ s)

    by_tests : (x y z u : Bool)
        → PlainToken (cond x (trivia (c ∷ [])) (cond y (trivia (c ∷ s)) (cond z (run_token (take run_len (c ∷ s)))
        (cond u (quoted_token (extent true (λ d. d == c) 0 s) c s) (other (c ∷ []))))))
    by_tests true y z u = trivia_plain (c ∷ [])
    by_tests false true z u = trivia_plain (c ∷ s)
    by_tests false false true u = run_plain (take run_len (c ∷ s)) (take_plain run_len (c ∷ s) h)
    by_tests false false false true = quoted_plain (extent true (λ d. d == c) 0 s) c s (rest_plain c s h)
    by_tests false false false false = other_plain (c ∷ [])

-- tokens that are written as they are
data ArePlain : List LineToken → List WrittenToken → Type 0 where
  no_tokens : ArePlain [] []
  next_plain : {t : LineToken} {w : WrittenToken} {ts : List LineToken} {ws : List WrittenToken} → IsPlain t w → ArePlain ts ws → ArePlain (t ∷ ts) (w ∷ ws)

record PlainLine (ts : List LineToken) : Type 0 where
  written : List WrittenToken
  are : ArePlain ts written

plain_line : (skip : ℕ) (s : List ℕ) → has_dollar s ≡ false → PlainLine (line_tokens skip s)
plain_line zero [] h = record { written = []; are = no_tokens }
plain_line (suc k) [] h = record { written = []; are = no_tokens }
plain_line (suc k) (c ∷ s) h = plain_line k s (rest_plain c s h)
plain_line zero (c ∷ s) h =
    let t = first_plain_token c s h in
    let rest = plain_line (pred (length (token_bytes (first_token c s)))) s (rest_plain c s h) in
    record { written = t.token ∷ rest.written; are = next_plain t.is rest.are }

bytes_kept : {ts : List LineToken} {ws : List WrittenToken} → ArePlain ts ws → line_bytes ws ≡ bytes_of_tokens ts
bytes_kept no_tokens = refl
bytes_kept (next_plain {t = t} {ws = ws} p r) = ap (λ x. x ++ line_bytes ws) p.bytes ∙ ap (λ x. token_bytes t ++ x) (bytes_kept r)

-- a token with nothing to expand is no name of an assignment
unassigned : (t : LineToken) (ts : List LineToken) → HasNothingToExpand (t ∷ ts) → assignment_to t ts ≡ None
unassigned (trivia s) ts q = refl
unassigned (run s) ts q = q.unassigned
unassigned (quoted quote s) ts q = refl
unassigned (other s) ts q = refl
unassigned (broken s) ts q = refl

nothing_after_trivia : (t : LineToken) (ts : List LineToken) → is_trivia_token t ≡ true → HasNothingToExpand (t ∷ ts) → HasNothingToExpand ts
nothing_after_trivia (trivia s) ts e q = q
nothing_after_trivia (run s) ts e q = absurd (let z : ⊥ = cc in z)
nothing_after_trivia (quoted quote s) ts e q = absurd (let z : ⊥ = cc in z)
nothing_after_trivia (other s) ts e q = absurd (let z : ⊥ = cc in z)
nothing_after_trivia (broken s) ts e q = absurd (let z : ⊥ = cc in z)

module _ (at : Place) (b : Bindings) where
  abbrev with_first : WrittenToken → Program LineContent → Program LineContent
  with_first w p = p >>= λ rest. returns (with_token w rest)

  abbrev after_written : Bool → List LineToken → WrittenToken → Program LineContent
  after_written may ts w = elim (is_open_front may w ts) [ true ↦ stops | false ↦ with_first w (line_content at b (may && is_trivia w) ts) ]

  abbrev content_by : Bool → LineToken → List LineToken → Option AssignedText → Program LineContent
  content_by may t ts o =
      elim o [
        | Some a ↦ run_value at b (token_bytes t) >>= assignment_or (with_first (token_of_text []) (line_content at b true ts)) a
        | None ↦ written_token at b t >>= after_written may ts
      ]

  step : (may : Bool) (t : LineToken) (ts : List LineToken) (w : WrittenToken) (ws : List WrittenToken) → assignment_at may t ts ≡ None → IsPlain t w
      → line_content at b (may && is_trivia w) ts ≡ returns (tokens ws)
      → line_content at b may (t ∷ ts) ≡ returns (tokens (w ∷ ws))
  step may t ts w ws e p rest =
      ap (content_by may t ts) e ∙ ap (λ x. x >>= after_written may ts) (p.written at b)
      ∙ ap (λ o. elim o as (λ x. Program LineContent) [ true ↦ stops | false ↦ with_first w (line_content at b (may && is_trivia w) ts) ]) (closed may)
      ∙ ap (with_first w) rest
    where
      closed : (m : Bool) → is_open_front m w ts ≡ false
      closed true = ap (λ u. u && list_any (λ t. not (is_trivia_token t)) ts) p.known
      closed false = refl

  -- after a name can't come any more
  content_late : {ts : List LineToken} {ws : List WrittenToken} → ArePlain ts ws → line_content at b false ts ≡ returns (tokens ws)
  content_late no_tokens = refl
  content_late (next_plain {t = t} {w = w} {ts = ts} {ws = ws} p r) = step false t ts w ws refl p (content_late r)

  content_copied : {ts : List LineToken} {ws : List WrittenToken} → ArePlain ts ws → HasNothingToExpand ts → line_content at b true ts ≡ returns (tokens ws)
  content_copied no_tokens q = refl
  content_copied (next_plain {t = t} {w = w} {ts = ts} {ws = ws} p r) q =
      step true t ts w ws (unassigned t ts q) p (by_trivia (λ e. content_copied r (nothing_after_trivia t ts (sym p.gone ∙ e) q)) (is_trivia w) refl)
    where
      by_trivia : (is_trivia w ≡ true → line_content at b true ts ≡ returns (tokens ws)) → (g : Bool) → is_trivia w ≡ g → line_content at b g ts ≡ returns (tokens ws)
      by_trivia ih true e = ih e
      by_trivia ih false e = content_late r

-- tokens of no form, after which no help text begins
record IsStill (ws : List WrittenToken) : Type 0 where
  form : form_of ws ≡ plain
  help : is_help_line ws ≡ false
  decided : is_undecided ws ≡ false

no_word : (w : WrittenToken) (ws : List WrittenToken) → is_word w ≡ false → IsStill (w ∷ ws)
no_word w [] e = record {
  form = refl;
  help = ap (λ b. b && is_in_list w.bytes help_words) e;
  decided =
      ap (λ b. b && (is_in_list w.bytes source_words || is_in_list w.bytes help_words) && false) e;
}
no_word w (u ∷ us) e = record {
  form = ap (λ b. cond b (form_of_first_word w.bytes u us) plain) e;
  help = refl;
  decided = ap (λ b. b && (is_in_list w.bytes source_words || is_in_list w.bytes help_words) && list_any is_unknown (u ∷ us)) e;
}

-- what a word that nothing acts on is not
record IsInert (word : List ℕ) : Type 0 where
  source : is_in_list word source_words ≡ false
  help : is_in_list word help_words ≡ false
  choice : bytes_eq word (codes "choice") ≡ false
  option : bytes_eq word (codes "option") ≡ false

inert : (word : List ℕ) → is_acting_word word ≡ false → IsInert word
inert word h =
    let a = either_false (is_in_list word source_words || is_in_list word help_words || bytes_eq word (codes "choice")) (bytes_eq word (codes "option")) h in
    let b = either_false (is_in_list word source_words || is_in_list word help_words) (bytes_eq word (codes "choice")) a.0 in
    let c = either_false (is_in_list word source_words) (is_in_list word help_words) b.0 in
    record { source = c.0; help = c.1; choice = b.1; option = a.1 }

module _ (word : List ℕ) (i : IsInert word) where
  pair_plain : (u : WrittenToken) → form_of_two_words word u ≡ plain
  pair_plain u =
      ap (λ b. cond (b && is_path u) (sources (sort_of_source word) u.meaning)
      (cond (bytes_eq word (codes "choice") && is_word u) (named_choice u.bytes) (by_option (bytes_eq word (codes "option"))))) i.source
      ∙ ap (λ b. cond (b && is_word u) (named_choice u.bytes) (by_option (bytes_eq word (codes "option")))) i.choice
      ∙ ap by_option i.option
    where
      by_option : Bool → LineForm
      by_option b = cond (b && bytes_eq u.bytes (codes "defconfig_list")) (replaced_by (codes "depends on n"))
          (cond (b && bytes_eq u.bytes (codes "allnoconfig_y")) (replaced_by []) plain)

  word_plain : (u : WrittenToken) (us : List WrittenToken) → (is_in_list word prompt_words ≡ true → is_word u ≡ false) → form_of_first_word word u us ≡ plain
  word_plain u us h = by_test (is_in_list word prompt_words) h us
    where
      by_test : (b : Bool) → (b ≡ true → is_word u ≡ false) → (us : List WrittenToken)
          → cond (b && is_bare_prompt u) (bare_prompt u.bytes) (elim us as (λ x. LineForm) [ [] ↦ form_of_two_words word u | v ∷ vs ↦ plain ]) ≡ plain
      by_test true k [] = ap (λ b. cond (b && not (is_in_list u.bytes (codes "if" ∷ codes "on" ∷ []))) (bare_prompt u.bytes) (form_of_two_words word u)) (k refl)
          ∙ pair_plain u
      by_test true k (v ∷ vs) = ap (λ b. cond (b && not (is_in_list u.bytes (codes "if" ∷ codes "on" ∷ []))) (bare_prompt u.bytes) plain) (k refl)
      by_test false k [] = pair_plain u
      by_test false k (v ∷ vs) = refl

-- the first token is no word
abbrev NextNoWord : List WrittenToken → Type 0
NextNoWord [] = Unit {0}
NextNoWord (u ∷ us) = is_word u ≡ false

undecided_not : (w : WrittenToken) (us : List WrittenToken) → IsInert w.bytes → is_undecided (w ∷ us) ≡ false
undecided_not w us i =
    ap (λ b. is_word w && (b || is_in_list w.bytes help_words) && list_any is_unknown us) i.source
    ∙ ap (λ b. is_word w && (false || b) && list_any is_unknown us) i.help ∙ by_test (is_word w)
  where
    by_test : (b : Bool) → (b && (false || false) && list_any is_unknown us) ≡ false
    by_test true = refl
    by_test false = refl

word_still : (w : WrittenToken) (us : List WrittenToken) → IsInert w.bytes → (is_in_list w.bytes prompt_words ≡ true → NextNoWord us) → IsStill (w ∷ us)
word_still w [] i h = record { form = refl; help = ap (λ b. is_word w && b) i.help ∙ by_test (is_word w); decided = undecided_not w [] i }
  where
    by_test : (b : Bool) → (b && false) ≡ false
    by_test true = refl
    by_test false = refl
word_still w (u ∷ us) i h = record {
  form = ap (λ f. cond (is_word w) f plain) (word_plain w.bytes i u us h) ∙ by_test (is_word w);
  help = refl;
  decided = undecided_not w (u ∷ us) i;
}
  where
    by_test : (b : Bool) → cond b plain plain ≡ plain
    by_test true = refl
    by_test false = refl

-- trivia aside
abbrev real : WrittenToken → List WrittenToken → List WrittenToken
real w ws = without_trivia (w ∷ ws)

kept_first : (w : WrittenToken) (ws : List WrittenToken) → is_trivia w ≡ false → real w ws ≡ w ∷ without_trivia ws
kept_first w ws e = ap (λ b. cond (not b) (w ∷ without_trivia ws) (without_trivia ws)) e

gone_first : (w : WrittenToken) (ws : List WrittenToken) → is_trivia w ≡ true → real w ws ≡ without_trivia ws
gone_first w ws e = ap (λ b. cond (not b) (w ∷ without_trivia ws) (without_trivia ws)) e

no_word_first : (t : LineToken) (w : WrittenToken) (ts : List LineToken) (ws : List WrittenToken) → IsPlain t w
    → (HasNoWordNext ts → NextNoWord (without_trivia ws)) → HasNoWordNext (t ∷ ts) → NextNoWord (real w ws)
no_word_first (trivia s) w ts ws p ih h = subst NextNoWord (sym (gone_first w ws p.gone)) (ih h)
no_word_first (run s) w ts ws p ih h = absurd h
no_word_first (quoted quote s) w ts ws p ih h = subst NextNoWord (sym (kept_first w ws p.gone)) p.word
no_word_first (other s) w ts ws p ih h = subst NextNoWord (sym (kept_first w ws p.gone)) p.word
no_word_first (broken s) w ts ws p ih h = subst NextNoWord (sym (kept_first w ws p.gone)) p.word

no_word_next : {ts : List LineToken} {ws : List WrittenToken} → ArePlain ts ws → HasNoWordNext ts → NextNoWord (without_trivia ws)
no_word_next no_tokens h = tt
no_word_next (next_plain {t = t} {w = w} {ts = ts} {ws = ws} p r) h = no_word_first t w ts ws p (no_word_next r) h

still_first : (t : LineToken) (w : WrittenToken) (ts : List LineToken) (ws : List WrittenToken) → IsPlain t w → ArePlain ts ws
    → (HasNothingToExpand ts → IsStill (without_trivia ws)) → HasNothingToExpand (t ∷ ts) → IsStill (real w ws)
still_first (trivia s) w ts ws p r ih q = subst IsStill (sym (gone_first w ws p.gone)) (ih q)
still_first (run s) w ts ws p r ih q =
    subst IsStill (sym (kept_first w ws p.gone))
    (word_still w (without_trivia ws) (subst IsInert (sym p.bytes) (inert s q.acting))
    (λ h. no_word_next r (q.prompt (ap (λ x. is_in_list x prompt_words) (sym p.bytes) ∙ h))))
still_first (quoted quote s) w ts ws p r ih q = subst IsStill (sym (kept_first w ws p.gone)) (no_word w (without_trivia ws) p.word)
still_first (other s) w ts ws p r ih q = subst IsStill (sym (kept_first w ws p.gone)) (no_word w (without_trivia ws) p.word)
still_first (broken s) w ts ws p r ih q = subst IsStill (sym (kept_first w ws p.gone)) (no_word w (without_trivia ws) p.word)

still : {ts : List LineToken} {ws : List WrittenToken} → ArePlain ts ws → HasNothingToExpand ts → IsStill (without_trivia ws)
still no_tokens q = record { form = refl; help = refl; decided = refl }
still (next_plain {t = t} {w = w} {ts = ts} {ws = ws} p r) q = still_first t w ts ws p r (still r) q

-- a line with nothing to expand asks nothing
nothing_asked : (ts : List LineToken) → HasNothingToExpand ts → asked_by (solid_tokens ts) ≡ None
nothing_asked [] q = refl
nothing_asked (trivia s ∷ ts) q = nothing_asked ts q
nothing_asked (run s ∷ ts) q = ap (λ b. cond b (asked_after_option (solid_tokens ts)) None) (inert s q.acting).option
nothing_asked (quoted quote s ∷ ts) q = refl
nothing_asked (other s ∷ ts) q = refl
nothing_asked (broken s ∷ ts) q = refl

module _ (text : List ℕ) (short : length text ≤ MAX_TEXT_BYTES) (utf8 : is_utf8 text ≡ true) (plain_text : has_dollar text ≡ false)
    (nothing : HasNothingToExpand (line_tokens 0 text)) (sub : SourceReader) (at : Place) (continued : Bool) (s : ReadingState) where
  abbrev line : PlainLine (line_tokens 0 text)
  line = plain_line 0 text plain_text

  same_bytes : line_bytes line.written ≡ text
  same_bytes = bytes_kept line.are ∙ row_of_tokens 0 text

  within : nat_lt MAX_TEXT_BYTES (length text) ≡ false
  within = le-ltb MAX_TEXT_BYTES (length text) short

  readable : (nat_lt MAX_TEXT_BYTES (length text) || not (is_utf8 text)) ≡ false
  readable = ap (λ b. b || not (is_utf8 text)) within ∙ ap not utf8

  abbrev left : List WrittenToken
  left = without_trivia line.written

  copied_tokens : tokens_written sub at s line.written left ≡ returns (written_line text false s)
  copied_tokens =
      let i = still line.are nothing in
      ap (λ b. elim b as (λ x. Program WrittenLine) [
        | true ↦ stops
        | false ↦ form_written sub at line.written (form_of left) s >>= short_line at
            (is_help_line left)
      ]) i.decided
      ∙ ap (λ f. form_written sub at line.written f s >>= short_line at (is_help_line left)) i.form
      ∙ ap (λ b. short_line at b (progress (line_bytes line.written) s)) i.help
      ∙ ap (λ x. short_line at false (progress x s)) same_bytes
      ∙ ap (λ b. elim b as (λ x. Program WrittenLine) [ true ↦ fault at LineTooLong [] | false ↦ returns (written_line text false s) ]) within

  copied_line : line_written sub at continued text s ≡ returns (written_line text false s)
  copied_line =
      ap (λ b. elim b as (λ x. Program WrittenLine) [
        | true ↦ returns (written_line text (begins_help text) s)
        | false ↦ line_content at s.bindings true (line_tokens 0 (meant_line text)) >>= content_written sub at continued s
      ]) readable
      ∙ ap (λ x. line_content at s.bindings true (line_tokens 0 x) >>= content_written sub at continued s)
      (meant_same text (ap is_none (nothing_asked (line_tokens 0 text) nothing)))
      ∙ ap (λ p. p >>= content_written sub at continued s) (content_copied at s.bindings line.are nothing)
      ∙ copied_tokens

pub copied : (text : List ℕ) → length text ≤ MAX_TEXT_BYTES → is_utf8 text ≡ true → has_dollar text ≡ false → HasNothingToExpand (line_tokens 0 text) → IsCopied text
copied text short utf8 plain_text nothing = record { written = copied_line text short utf8 plain_text nothing }

white_first : (c : ℕ) (s : List ℕ) → is_white_byte c ≡ true → line_tokens 0 (c ∷ s) ≡ trivia (c ∷ []) ∷ line_tokens 0 s
white_first c s e =
    ap (λ b. let t = cond b (trivia (c ∷ [])) (after_white c s) in t ∷ line_tokens (pred (length (token_bytes t))) s) e
  where
    after_white : ℕ → List ℕ → LineToken
    after_white c s = cond (c == 35) (trivia (c ∷ s)) (cond (is_run_byte c) (run_token (take (extent false (λ d. not (is_run_byte d)) 0 (c ∷ s)) (c ∷ s)))
        (cond (c == 34 || (c == 39)) (quoted_token (extent true (λ d. d == c) 0 s) c s) (other (c ∷ []))))

-- a byte at the front that passes a test is dropped, and one that doesn't pass stays
pub passed_dropped : (p : ℕ → Bool) (c : ℕ) (s : List ℕ) → p c ≡ true → without_front p (c ∷ s) ≡ without_front p s
passed_dropped p c s e = ap (λ b. drop (cond b (1 + prefix_len p s) 0) (c ∷ s)) e ∙ ap (λ n. drop n (c ∷ s))
    (let n : 1 + prefix_len p s ≡ suc (prefix_len p s) = omega arith in n)

pub failed_stays : (p : ℕ → Bool) (c : ℕ) (s : List ℕ) → p c ≡ false → without_front p (c ∷ s) ≡ c ∷ s
failed_stays p c s e = ap (λ b. drop (cond b (1 + prefix_len p s) 0) (c ∷ s)) e

-- a line has nothing to expand, as `HasNothingToExpand` defines, if it has nothing without the white bytes at its front
pub nothing_after_white : (text : List ℕ) → HasNothingToExpand (line_tokens 0 (without_front is_white_byte text)) → HasNothingToExpand (line_tokens 0 text)
nothing_after_white [] q = q
nothing_after_white (c ∷ s) q = by_test (λ k. nothing_after_white s k) (is_white_byte c) refl
  where
    by_test : (HasNothingToExpand (line_tokens 0 (without_front is_white_byte s)) → HasNothingToExpand (line_tokens 0 s)) → (b : Bool) → is_white_byte c ≡ b
        → HasNothingToExpand (line_tokens 0 (c ∷ s))
    by_test ih true e = subst HasNothingToExpand (sym (white_first c s e)) (ih (subst (λ x. HasNothingToExpand (line_tokens 0 x)) (passed_dropped is_white_byte c s e) q))
    by_test ih false e = subst (λ x. HasNothingToExpand (line_tokens 0 x)) (failed_stays is_white_byte c s e) q

-- a line whose tokens, without the white bytes at its front, are these ones has nothing to expand if they have nothing
pub nothing_by_tokens : (text rest : List ℕ) (t : LineToken) (ts : List LineToken) → rest ≡ without_front is_white_byte text → line_tokens 0 rest ≡ t ∷ ts
    → HasNothingToExpand (t ∷ ts) → HasNothingToExpand (line_tokens 0 text)
nothing_by_tokens text rest t ts e f q = nothing_after_white text (subst (λ x. HasNothingToExpand (line_tokens 0 x)) e (subst HasNothingToExpand (sym f) q))

-- a byte that begins no run begins no word
ink_first : (c : ℕ) (s : List ℕ) → is_white_byte c ≡ false → is_run_byte c ≡ false → HasNoWordNext (line_tokens 0 (c ∷ s))
ink_first c s e f =
    subst (λ t. HasNoWordNext (t ∷ line_tokens (pred (length (token_bytes t))) s))
    (sym (ap (λ b. cond b (trivia (c ∷ [])) (by_run (is_run_byte c))) e ∙ ap by_run f)) (by_tests (c == 35) (c == 34 || (c == 39)))
  where
    by_run : Bool → LineToken
    by_run z = cond (c == 35) (trivia (c ∷ s)) (cond z (run_token (take (extent false (λ d. not (is_run_byte d)) 0 (c ∷ s)) (c ∷ s)))
        (cond (c == 34 || (c == 39)) (quoted_token (extent true (λ d. d == c) 0 s) c s) (other (c ∷ []))))

    next : LineToken → Type 0
    next t = HasNoWordNext (t ∷ line_tokens (pred (length (token_bytes t))) s)

    quoted_next : (n : ℕ) (b d : Bool) → next (cond b (broken (c ∷ s)) (cond d (quoted c (take n s)) (other (c ∷ s))))
    quoted_next n true d = tt
    quoted_next n false true = tt
    quoted_next n false false = tt

    by_tests : (y u : Bool) → next (cond y (trivia (c ∷ s)) (cond u (quoted_token (extent true (λ d. d == c) 0 s) c s) (other (c ∷ []))))
    by_tests true u = subst HasNoWordNext (sym (tokens_skip (length s) s ∙ ap (line_tokens 0) (drop_all (length s) s (omega arith)))) tt
    by_tests false true = let n = extent true (λ d. d == c) 0 s in quoted_next n (list_any is_unterminated (items true 0 (take n s))) (nat_lt n (length s))
    by_tests false false = tt

front_word : (text : List ℕ) → is_run_byte (get_or (without_front is_white_byte text) 0 0) ≡ false → HasNoWordNext (line_tokens 0 text)
front_word [] h = tt
front_word (c ∷ s) h = by_test (λ k. front_word s k) (is_white_byte c) refl
  where
    by_test : (is_run_byte (get_or (without_front is_white_byte s) 0 0) ≡ false → HasNoWordNext (line_tokens 0 s)) → (b : Bool) → is_white_byte c ≡ b
        → HasNoWordNext (line_tokens 0 (c ∷ s))
    by_test ih true e = subst HasNoWordNext (sym (white_first c s e)) (ih (ap (λ x. is_run_byte (get_or x 0 0)) (sym (passed_dropped is_white_byte c s e)) ∙ h))
    by_test ih false e = ink_first c s e (ap (λ x. is_run_byte (get_or x 0 0)) (sym (failed_stays is_white_byte c s e)) ∙ h)

pub no_word_after : (text rest : List ℕ) → rest ≡ without_front is_white_byte text → is_run_byte (get_or rest 0 0) ≡ false → HasNoWordNext (line_tokens 0 text)
no_word_after text rest e h = front_word text (ap (λ x. is_run_byte (get_or x 0 0)) (sym e) ∙ h)

pub nothing_after : (text rest : List ℕ) → rest ≡ without_front is_white_byte text → length rest ≡ 0 → HasNoWordNext (line_tokens 0 text)
nothing_after text [] e h = front_word text (ap (λ x. is_run_byte (get_or x 0 0)) (sym e))
nothing_after text (c ∷ r) e h = absurd (omega arith)

pub none_found : {A B : Type 0} (f : A → B) (o : Option A) (x : Option B) (b : Bool) → option_map f o ≡ x → b ≡ is_some o → b ≡ false → x ≡ None
none_found f None x b e h k = sym e
none_found f (Some y) x b e h k = absurd (let z : true ≡ false = sym h ∙ k in let w : ⊥ = cc in w)

pub not_so : (b : Bool) → not b ≡ true → b ≡ false
not_so true e = absurd (let z : ⊥ = cc in z)
not_so false e = refl
