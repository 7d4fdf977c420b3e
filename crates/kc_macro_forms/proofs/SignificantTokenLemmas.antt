-- The tokens of a line without trivia, and lines with other bytes in place of one of them.
use Rattle.std.proofs.Common.{◌≡◌, ℕ, suc, ◌+◌, ◌-◌, ◌<◌, ◌≤◌, Bool, true, false, ◌&&◌, ◌||◌, cond, List, [], ◌∷◌, ◌++◌, length, take, drop, get_or, refl, sym, ap, ◌∙◌, append_assoc, arith, length-drop}
use Rattle.std.specs.Prelude.{not, bytes_eq, codes}
use Rattle.std.specs.List.{list_any}
use Rattle.std.proofs.lemmas.List.{append-nil, take_all}
use Rattle.kc_macros_model.specs.Variables.{Value}
use Rattle.kc_macros_model.specs.declared.token_sort.TokenSort.{TokenSort}
use Rattle.kc_macros_model.specs.declared.token_sort.TokenSort.TheVariants.{Trivia, Word, Quoted, Other, Unknown}
use Rattle.kc_macros_model.specs.WrittenTokens.{WrittenToken, written_as}
use Rattle.kc_macros_model.specs.Assignments.{is_trivia, is_unknown}
use Rattle.kc_macros_model.specs.LineForms.{is_word, form_of, form_of_first_word, plain, is_help_line, help_words, is_undecided, with_nth_token, line_bytes, with_replacement, quoted_text_token}
use Rattle.kc_macros_model.specs.TreeExpansion.{source_line}
use Rattle.kc_tree_model.specs.Limits.{is_in_list}
use Rattle.kc_macro_forms.specs.declared.written_tokens.WrittenToken.{WrittenToken as CodeToken}
use Rattle.kc_macro_forms.specs.between.WrittenTokens.{token_of, tokens_of}
use Rattle.kc_macro_forms.specs.checker.SignificantTokens.{trivia_count, significant_tokens, is_empty_line, is_decisive_word, form_of_words}

-- the last `length xs - n` elements of a list are all but its first `n`
pub slice_rest : {A : Type 0} (xs : List A) (n : ℕ) → take (length xs - n) (drop n xs) ≡ drop n xs
slice_rest xs n = take_all (length xs - n) (drop n xs) (omega (arith, length-drop n xs))

-- a line of trivia alone has no other tokens
pub significant_none : (ts : List CodeToken) → length ts ≤ trivia_count ts → significant_tokens ts ≡ []
significant_none [] h = refl
significant_none (t ∷ ts) h = by_test (λ k. significant_none ts k) (is_trivia (token_of t)) h
  where
    by_test : (length ts ≤ trivia_count ts → significant_tokens ts ≡ []) → (b : Bool) → suc (length ts) ≤ cond b (suc (trivia_count ts)) 0
        → cond (not b) (token_of t ∷ significant_tokens ts) (significant_tokens ts) ≡ []
    by_test ih true k = ih (omega (arith, k))
    by_test ih false k = absurd (omega arith)

significant_from : (ts : List CodeToken) (d : CodeToken) → trivia_count ts < length ts → significant_tokens ts ≡ token_of (get_or ts (trivia_count ts) d) ∷ significant_tokens
    (drop (suc (trivia_count ts)) ts)
significant_from [] d h = absurd (omega arith)
significant_from (t ∷ ts) d h = by_test (λ k. significant_from ts d k) (is_trivia (token_of t)) h
  where
    by_test : (trivia_count ts < length ts → significant_tokens ts ≡ token_of (get_or ts (trivia_count ts) d) ∷ significant_tokens (drop (suc (trivia_count ts)) ts)) → (b : Bool)
        → cond b (suc (trivia_count ts)) 0 < suc (length ts)
        → cond (not b) (token_of t ∷ significant_tokens ts) (significant_tokens ts) ≡ token_of (get_or (t ∷ ts) (cond b (suc (trivia_count ts)) 0) d) ∷ significant_tokens
        (drop (suc (cond b (suc (trivia_count ts)) 0)) (t ∷ ts))
    by_test ih true k = ih (omega (arith, k))
    by_test ih false k = refl

pub significant_some : (ts : List CodeToken) (n : ℕ) (t : CodeToken) → n ≡ trivia_count ts → n < length ts → t ≡ get_or ts n t
    → significant_tokens ts ≡ token_of t ∷ significant_tokens (take (length ts - (n + 1)) (drop (n + 1) ts))
significant_some ts n t e h i =
    significant_from ts t (omega (arith, e, h))
    ∙ ap (λ k. token_of (get_or ts k t) ∷ significant_tokens (drop (suc k) ts)) (sym e)
    ∙ ap (λ (x : CodeToken). token_of x ∷ significant_tokens (drop (suc n) ts)) (sym i)
    ∙ ap (λ k. token_of t ∷ significant_tokens (drop k ts)) (let m : suc n ≡ n + 1 = omega arith in m)
    ∙ ap (λ xs. token_of t ∷ significant_tokens xs) (sym (slice_rest ts (n + 1)))

-- the form of a line whose first token is a word is the one by this word, the second token, and whether no third one follows
pub form_is : (ts : List WrittenToken) (t u : WrittenToken) (more rest : List WrittenToken) → ts ≡ t ∷ more → more ≡ u ∷ rest → is_word t ≡ true
    → form_of_words t.bytes u (is_empty_line rest) ≡ form_of ts
form_is ts t u more rest h k w = by_rest rest ∙ sym (ap form_of (h ∙ ap (λ xs. t ∷ xs) k) ∙ ap (λ b. cond b (form_of_first_word t.bytes u rest) plain) w)
  where
    by_rest : (xs : List WrittenToken) → form_of_words t.bytes u (is_empty_line xs) ≡ form_of_first_word t.bytes u xs
    by_rest [] = refl
    by_rest (x ∷ xs) = refl

-- a help text follows a line of one token if this is a help word
pub help_alone : (ts : List WrittenToken) (t : WrittenToken) (more : List WrittenToken) (b : Bool) → ts ≡ t ∷ more → b ≡ is_empty_line more → b ≡ true
    → (is_word t && is_in_list t.bytes help_words) ≡ is_help_line ts
help_alone ts t [] b h e k = sym (ap is_help_line h)
help_alone ts t (u ∷ us) b h e k = absurd (let z : true ≡ false = sym k ∙ e in let y : ⊥ = cc in y)

pub help_not : (ts : List WrittenToken) (t : WrittenToken) (more : List WrittenToken) (b : Bool) → ts ≡ t ∷ more → b ≡ is_empty_line more → b ≡ false
    → false ≡ is_help_line ts
help_not ts t [] b h e k = absurd (let z : false ≡ true = sym k ∙ e in let y : ⊥ = cc in y)
help_not ts t (u ∷ us) b h e k = sym (ap is_help_line h)

-- a line is undecided if its first token begins a `source` line or a help text and one after it is unknown
pub undecided_is : (ts : List WrittenToken) (t : WrittenToken) (more : List WrittenToken) (d u : Bool) → ts ≡ t ∷ more
    → d ≡ (is_word t && is_decisive_word t.bytes) → u ≡ list_any is_unknown more → cond d u false ≡ is_undecided ts
undecided_is ts t more d u h e f =
    ap (λ x. cond x u false) e ∙ by_tests (is_word t) (is_decisive_word t.bytes) u ∙ ap (λ x. is_word t && is_decisive_word t.bytes && x) f
    ∙ sym (ap is_undecided h)
  where
    by_tests : (a b u : Bool) → cond (a && b) u false ≡ (a && b && u)
    by_tests true true u = refl
    by_tests true false u = refl
    by_tests false b u = refl

unknown_first : (t : WrittenToken) (ts : List WrittenToken) → (is_unknown t || list_any is_unknown ts) ≡ list_any is_unknown (cond (not (is_trivia t)) (t ∷ ts) ts)
unknown_first t ts = by_sort t.sort t.bytes t.meaning
  where
    by_sort : (s : TokenSort) (bytes : List ℕ) (meaning : Value) → (let t : WrittenToken = record { sort = s; bytes = bytes; meaning = meaning } in
        (is_unknown t || list_any is_unknown ts) ≡ list_any is_unknown (cond (not (is_trivia t)) (t ∷ ts) ts))
    by_sort Trivia bytes meaning = refl
    by_sort Word bytes meaning = refl
    by_sort Quoted bytes meaning = refl
    by_sort Other bytes meaning = refl
    by_sort Unknown bytes meaning = refl

-- a line has a token that depends on a question if one of its tokens that are no trivia does
pub unknown_significant : (ts : List CodeToken) → list_any (λ (t : CodeToken). is_unknown (token_of t)) ts ≡ list_any is_unknown (significant_tokens ts)
unknown_significant [] = refl
unknown_significant (t ∷ ts) = ap (λ b. is_unknown (token_of t) || b) (unknown_significant ts) ∙ unknown_first (token_of t) (significant_tokens ts)

-- the bytes of the code's written tokens, one token after the other
abbrev pub bytes_of : List CodeToken → List ℕ
bytes_of ts = line_bytes (tokens_of ts)

-- the bytes of a line with another token in place of its first one, trivia aside
abbrev pub with_first : WrittenToken → List CodeToken → List ℕ
with_first new ts = line_bytes (with_nth_token 0 new (tokens_of ts))

abbrev pub with_next : WrittenToken → List CodeToken → List ℕ
with_next new ts = line_bytes (with_nth_token 1 new (tokens_of ts))

first_none : (new : WrittenToken) (ts : List CodeToken) → length ts ≤ trivia_count ts → with_first new ts ≡ bytes_of ts
first_none new [] h = refl
first_none new (t ∷ ts) h = by_test (λ k. first_none new ts k) (is_trivia (token_of t)) h
  where
    by_test : (length ts ≤ trivia_count ts → with_first new ts ≡ bytes_of ts) → (b : Bool) → suc (length ts) ≤ cond b (suc (trivia_count ts)) 0
        → line_bytes (cond b (token_of t ∷ with_nth_token 0 new (tokens_of ts)) (new ∷ tokens_of ts)) ≡ t.bytes ++ bytes_of ts
    by_test ih true k = ap (λ x. t.bytes ++ x) (ih (omega (arith, k)))
    by_test ih false k = absurd (omega arith)

next_none : (new : WrittenToken) (ts : List CodeToken) → length ts ≤ trivia_count ts → with_next new ts ≡ bytes_of ts
next_none new [] h = refl
next_none new (t ∷ ts) h = by_test (λ k. next_none new ts k) (is_trivia (token_of t)) h
  where
    by_test : (length ts ≤ trivia_count ts → with_next new ts ≡ bytes_of ts) → (b : Bool) → suc (length ts) ≤ cond b (suc (trivia_count ts)) 0
        → line_bytes (cond b (token_of t ∷ with_nth_token 1 new (tokens_of ts)) (token_of t ∷ with_nth_token 0 new (tokens_of ts))) ≡ t.bytes ++ bytes_of ts
    by_test ih true k = ap (λ x. t.bytes ++ x) (ih (omega (arith, k)))
    by_test ih false k = absurd (omega arith)

first_some : (new : WrittenToken) (ts : List CodeToken) → trivia_count ts < length ts → with_first new ts
    ≡ bytes_of (take (trivia_count ts) ts) ++ (new.bytes ++ bytes_of (drop (suc (trivia_count ts)) ts))
first_some new [] h = absurd (omega arith)
first_some new (t ∷ ts) h = by_test (λ k. first_some new ts k) (is_trivia (token_of t)) h
  where
    by_test : (trivia_count ts < length ts → with_first new ts ≡ bytes_of (take (trivia_count ts) ts) ++ (new.bytes ++ bytes_of (drop (suc (trivia_count ts)) ts)))
        → (b : Bool) → cond b (suc (trivia_count ts)) 0 < suc (length ts)
        → line_bytes (cond b (token_of t ∷ with_nth_token 0 new (tokens_of ts)) (new ∷ tokens_of ts))
        ≡ bytes_of (take (cond b (suc (trivia_count ts)) 0) (t ∷ ts)) ++ (new.bytes ++ bytes_of (drop (suc (cond b (suc (trivia_count ts)) 0)) (t ∷ ts)))
    by_test ih true k = ap (λ x. t.bytes ++ x) (ih (omega (arith, k)))
        ∙ sym (append_assoc t.bytes (bytes_of (take (trivia_count ts) ts)) (new.bytes ++ bytes_of (drop (suc (trivia_count ts)) ts)))
    by_test ih false k = refl

next_some : (new : WrittenToken) (ts : List CodeToken) → trivia_count ts < length ts → with_next new ts
    ≡ bytes_of (take (suc (trivia_count ts)) ts) ++ with_first new (drop (suc (trivia_count ts)) ts)
next_some new [] h = absurd (omega arith)
next_some new (t ∷ ts) h = by_test (λ k. next_some new ts k) (is_trivia (token_of t)) h
  where
    by_test : (trivia_count ts < length ts → with_next new ts ≡ bytes_of (take (suc (trivia_count ts)) ts) ++ with_first new (drop (suc (trivia_count ts)) ts))
        → (b : Bool) → cond b (suc (trivia_count ts)) 0 < suc (length ts)
        → line_bytes (cond b (token_of t ∷ with_nth_token 1 new (tokens_of ts)) (token_of t ∷ with_nth_token 0 new (tokens_of ts)))
        ≡ bytes_of (take (suc (cond b (suc (trivia_count ts)) 0)) (t ∷ ts)) ++ with_first new (drop (suc (cond b (suc (trivia_count ts)) 0)) (t ∷ ts))
    by_test ih true k = ap (λ x. t.bytes ++ x) (ih (omega (arith, k)))
        ∙ sym (append_assoc t.bytes (bytes_of (take (suc (trivia_count ts)) ts)) (with_first new (drop (suc (trivia_count ts)) ts)))
    by_test ih false k = ap (λ x. x ++ with_first new ts) (sym (append-nil t.bytes))

-- the bytes of a line with other tokens in place of its first and its second one, trivia aside
abbrev pub with_both : (first second : WrittenToken) → List CodeToken → List ℕ
with_both first second ts = line_bytes (with_nth_token 1 second (with_nth_token 0 first (tokens_of ts)))

module _ (first second : WrittenToken) (word : is_trivia first ≡ false) where
  both_none : (ts : List CodeToken) → length ts ≤ trivia_count ts → with_both first second ts ≡ bytes_of ts
  both_none [] h = refl
  both_none (t ∷ ts) h = by_test (λ k. both_none ts k) (is_trivia (token_of t)) refl h
    where
      by_test : (length ts ≤ trivia_count ts → with_both first second ts ≡ bytes_of ts) → (b : Bool) → is_trivia (token_of t) ≡ b
          → suc (length ts) ≤ cond b (suc (trivia_count ts)) 0
          → line_bytes (with_nth_token 1 second (cond b (token_of t ∷ with_nth_token 0 first (tokens_of ts)) (first ∷ tokens_of ts))) ≡ t.bytes ++ bytes_of ts
      by_test ih true g k =
          ap (λ b. line_bytes (cond b (token_of t ∷ with_nth_token 1 second (with_nth_token 0 first (tokens_of ts)))
          (token_of t ∷ with_nth_token 0 second (with_nth_token 0 first (tokens_of ts))))) g
          ∙ ap (λ x. t.bytes ++ x) (ih (omega (arith, k)))
      by_test ih false g k = absurd (omega arith)

  both_some : (ts : List CodeToken) → trivia_count ts < length ts → with_both first second ts ≡ bytes_of (take (trivia_count ts) ts)
      ++ (first.bytes ++ with_first second (drop (suc (trivia_count ts)) ts))
  both_some [] h = absurd (omega arith)
  both_some (t ∷ ts) h = by_test (λ k. both_some ts k) (is_trivia (token_of t)) refl h
    where
      by_test : (trivia_count ts < length ts → with_both first second ts ≡ bytes_of (take (trivia_count ts) ts)
          ++ (first.bytes ++ with_first second (drop (suc (trivia_count ts)) ts))) → (b : Bool) → is_trivia (token_of t) ≡ b
          → cond b (suc (trivia_count ts)) 0 < suc (length ts)
          → line_bytes (with_nth_token 1 second (cond b (token_of t ∷ with_nth_token 0 first (tokens_of ts)) (first ∷ tokens_of ts)))
          ≡ bytes_of (take (cond b (suc (trivia_count ts)) 0) (t ∷ ts)) ++ (first.bytes ++ with_first second (drop (suc (cond b (suc (trivia_count ts)) 0)) (t ∷ ts)))
      by_test ih true g k =
          ap (λ b. line_bytes (cond b (token_of t ∷ with_nth_token 1 second (with_nth_token 0 first (tokens_of ts)))
          (token_of t ∷ with_nth_token 0 second (with_nth_token 0 first (tokens_of ts))))) g
          ∙ ap (λ x. t.bytes ++ x) (ih (omega (arith, k)))
          ∙ sym (append_assoc t.bytes (bytes_of (take (trivia_count ts) ts)) (first.bytes ++ with_first second (drop (suc (trivia_count ts)) ts)))
      by_test ih false g k = ap (λ b. line_bytes (cond b (first ∷ with_nth_token 1 second (tokens_of ts))
          (first ∷ with_nth_token 0 second (tokens_of ts)))) word

replaced : (new : List ℕ) (ts : List CodeToken) → with_replacement new (tokens_of ts) ≡ bytes_of (take (trivia_count ts) ts) ++ new
replaced new [] = refl
replaced new (t ∷ ts) = by_test (replaced new ts) (is_trivia (token_of t))
  where
    by_test : with_replacement new (tokens_of ts) ≡ bytes_of (take (trivia_count ts) ts) ++ new → (b : Bool)
        → cond b (t.bytes ++ with_replacement new (tokens_of ts)) new ≡ bytes_of (take (cond b (suc (trivia_count ts)) 0) (t ∷ ts)) ++ new
    by_test ih true = ap (λ x. t.bytes ++ x) ih ∙ sym (append_assoc t.bytes (bytes_of (take (trivia_count ts) ts)) new)
    by_test ih false = refl

module _ (ts : List CodeToken) (n : ℕ) (e : n ≡ trivia_count ts) (out one : List ℕ) where
  -- the tokens after the first that is no trivia
  abbrev later : List CodeToken
  later = take (length ts - (n + 1)) (drop (n + 1) ts)

  later_is : drop (suc (trivia_count ts)) ts ≡ later
  later_is = ap (λ k. drop (suc k) ts) (sym e) ∙ ap (λ k. drop k ts) (let m : suc n ≡ n + 1 = omega arith in m) ∙ sym (slice_rest ts (n + 1))

  -- a line's trivia, a new token in place of its first other one, and the tokens after that, appended one by one, are the line with
  -- the new token; `one`, `two` and `three` are the bytes after each step
  pub first_pushed : (new : WrittenToken) (text two three : List ℕ) → new.bytes ≡ text → n < length ts → one ≡ out ++ bytes_of (take n ts) → two ≡ one ++ text
      → three ≡ two ++ bytes_of later → three ≡ out ++ with_first new ts
  first_pushed new text two three b h f g k =
      k ∙ ap (λ x. x ++ bytes_of later) (g ∙ ap (λ x. x ++ text) f)
      ∙ append_assoc (out ++ bytes_of (take n ts)) text (bytes_of later) ∙ append_assoc out (bytes_of (take n ts)) (text ++ bytes_of later)
      ∙ ap (λ x. out ++ x)
      (ap (λ k. bytes_of (take k ts) ++ (text ++ bytes_of later)) e ∙ ap (λ x. bytes_of (take (trivia_count ts) ts) ++ (x ++ bytes_of later)) (sym b)
      ∙ ap (λ xs. bytes_of (take (trivia_count ts) ts) ++ (new.bytes ++ bytes_of xs)) (sym later_is) ∙ sym (first_some new ts (omega (arith, e, h))))

  trivia_pushed : length ts ≤ n → one ≡ out ++ bytes_of (take n ts) → one ≡ out ++ bytes_of ts
  trivia_pushed h f = f ∙ ap (λ xs. out ++ bytes_of xs) (take_all n ts h)

  pub first_missing : (new : WrittenToken) → length ts ≤ n → one ≡ out ++ bytes_of (take n ts) → one ≡ out ++ with_first new ts
  first_missing new h f = trivia_pushed h f ∙ ap (λ x. out ++ x) (sym (first_none new ts (omega (arith, e, h))))

  pub both_pushed : (first second : WrittenToken) → is_trivia first ≡ false → (text two three : List ℕ) → first.bytes ≡ text → n < length ts
      → one ≡ out ++ bytes_of (take n ts) → two ≡ one ++ text → three ≡ two ++ with_first second later
      → three ≡ out ++ with_both first second ts
  both_pushed first second word text two three b h f g k =
      k ∙ ap (λ x. x ++ with_first second later) (g ∙ ap (λ x. x ++ text) f)
      ∙ append_assoc (out ++ bytes_of (take n ts)) text (with_first second later) ∙ append_assoc out (bytes_of (take n ts)) (text ++ with_first second later)
      ∙ ap (λ x. out ++ x)
      (ap (λ k. bytes_of (take k ts) ++ (text ++ with_first second later)) e
      ∙ ap (λ x. bytes_of (take (trivia_count ts) ts) ++ (x ++ with_first second later)) (sym b)
      ∙ ap (λ xs. bytes_of (take (trivia_count ts) ts) ++ (first.bytes ++ with_first second xs)) (sym later_is)
      ∙ sym (both_some first second word ts (omega (arith, e, h))))

  pub both_missing : (first second : WrittenToken) → is_trivia first ≡ false → length ts ≤ n → one ≡ out ++ bytes_of (take n ts)
      → one ≡ out ++ with_both first second ts
  both_missing first second word h f = trivia_pushed h f ∙ ap (λ x. out ++ x) (sym (both_none first second word ts (omega (arith, e, h))))

  pub next_pushed : (new : WrittenToken) (two : List ℕ) → out ≡ [] → n < length ts → one ≡ out ++ bytes_of (take (n + 1) ts) → two ≡ one ++ with_first new later
      → two ≡ with_next new ts
  next_pushed new two none h f k =
      k ∙ ap (λ x. x ++ with_first new later) (f ∙ ap (λ x. x ++ bytes_of (take (n + 1) ts)) none)
      ∙ ap (λ j. bytes_of (take j ts) ++ with_first new later) (let m : n + 1 ≡ suc (trivia_count ts) = omega (arith, e) in m)
      ∙ ap (λ xs. bytes_of (take (suc (trivia_count ts)) ts) ++ with_first new xs) (sym later_is) ∙ sym (next_some new ts (omega (arith, e, h)))

  pub next_missing : (new : WrittenToken) → out ≡ [] → length ts ≤ n → one ≡ out ++ bytes_of ts → one ≡ with_next new ts
  next_missing new none h f = f ∙ ap (λ x. x ++ bytes_of ts) none ∙ sym (next_none new ts (omega (arith, e, h)))

  pub replaced_so : (new two : List ℕ) → out ≡ [] → one ≡ out ++ bytes_of (take n ts) → two ≡ one ++ new → two ≡ with_replacement new (tokens_of ts)
  replaced_so new two none f k =
      k ∙ ap (λ x. x ++ new) (f ∙ ap (λ x. x ++ bytes_of (take n ts)) none) ∙ ap (λ j. bytes_of (take j ts) ++ new) e ∙ sym (replaced new ts)

-- a double quote, a text and a double quote, appended one by one, are the prompt in quotes
pub prompt_is : (text none quote words whole : List ℕ) → none ≡ [] → quote ≡ none ++ 34 ∷ [] → words ≡ quote ++ text → whole ≡ words ++ 34 ∷ []
    → whole ≡ 34 ∷ (text ++ 34 ∷ [])
prompt_is text none quote words whole a b d e = e ∙ ap (λ x. x ++ 34 ∷ []) (d ∙ ap (λ x. x ++ text) (b ∙ ap (λ x. x ++ 34 ∷ []) a))

-- a `source` line by whether its path is the key
module _ (ts : List CodeToken) (given key none one : List ℕ) (empty : none ≡ []) where
  abbrev keyword : WrittenToken
  keyword = written_as Word (codes "source") []

  pub source_same : bytes_eq key given ≡ true → one ≡ none ++ with_first keyword ts → one ≡ source_line (tokens_of ts) given key
  source_same h e =
      e ∙ ap (λ x. x ++ with_first keyword ts) empty
      ∙ sym (ap (λ b. line_bytes (cond b (with_nth_token 0 keyword (tokens_of ts))
      (with_nth_token 1 (quoted_text_token key) (with_nth_token 0 keyword (tokens_of ts))))) h)

  pub source_other : bytes_eq key given ≡ false → one ≡ none ++ with_both keyword (quoted_text_token key) ts → one ≡ source_line (tokens_of ts) given key
  source_other h e =
      e ∙ ap (λ x. x ++ with_both keyword (quoted_text_token key) ts) empty
      ∙ sym (ap (λ b. line_bytes (cond b (with_nth_token 0 keyword (tokens_of ts))
      (with_nth_token 1 (quoted_text_token key) (with_nth_token 0 keyword (tokens_of ts))))) h)
