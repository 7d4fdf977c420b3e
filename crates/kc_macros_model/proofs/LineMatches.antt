-- The tokens and the content of a line in one world, compared with those in a world that may have more answers.
use Rattle.kc_macros_model.proofs.Common.{◌≡◌, ℕ, Bool, true, false, ◌&&◌, cond, List, [], ◌∷◌, ◌++◌, Option, Some, None, refl, sym, ap, ◌∙◌, subst, not, bytes_eq, ◌==◌, list_any, list_all, Place, Program, returns, stops, ◌>>=◌, Item, byte, escaped, reference, unterminated, item_bytes, items}
use Rattle.kc_macros_model.proofs.Common.{is_reference, is_plain_dollar, Value, value_length, joined_values, Variable, Bindings, LineToken, trivia, run, quoted, other, broken, token_bytes, Trivia, Word, Quoted, WrittenToken, written_as, token_of_text, token_of_value, WrittenQuotedText, quoted_text_of_value}
use Rattle.kc_macros_model.proofs.Common.{written_item, written_items, token_of_quoted_text, run_value, written_token, is_bare_byte, in_quotes_of, is_keyword, SetsNow, Appends, Sets, AssignedText, assignment_at, LineContent, assigns, tokens, with_token, is_trivia, is_unknown, is_open_front, assignment_or}
use Rattle.kc_macros_model.proofs.Common.{line_content, stored, without_trivia}
use Rattle.kc_macros_model.specs.Variables.{with_variable}
use Rattle.kc_macros_model.specs.Expansion.{text_value}
use Rattle.kc_macros_model.specs.declared.operator.Operator.{Operator}
use Rattle.kc_macros_model.specs.Assignments.{is_trivia_token, stored_recursive, variable_assigned}
use Rattle.kc_macros_model.proofs.CleanTexts.{IsClean, clean, clean_none, clean_cons, clean_first, clean_rest, clean_append, clean_left, IsCleanValue, unknown_clean, text_clean}
use Rattle.kc_macros_model.proofs.CleanLines.{IsCleanItem, AreCleanItems, items_clean, AreCleanTokens, no_tokens, next_token, IsCleanToken, AreCleanWritten, none_written, next_written, escaped_clean, token_of_text_clean, token_of_value_clean, IsCleanAssigned, an_assignment, assignment_clean}
use Rattle.kc_macros_model.proofs.ProgramMatches.{Fits, NoLess, unknown, same, joined_no_less, Comparison, Related, match_then, match_return, match_fault, match_stop, match_spend, match_test, match_unless_long}
use Rattle.kc_macros_model.proofs.TextMatches.{VariableNoLess, not_set, simple_both, recursive_both, BindingsNoLess, byte_fits, escaped_fits, inside_fits, item_fits, items_fit, text_matches}

-- of two written tokens the second is the same, or has the same quotes and no less known a meaning, or the first is unknown
pub data TokenNoLess (lacking newlines : Bool) : WrittenToken → WrittenToken → Type 0 where
  same_token : {t : WrittenToken} → is_unknown t ≡ false → NoLess lacking newlines t.meaning t.meaning → TokenNoLess lacking newlines t t
  quoted_tokens : (quote : ℕ) (x y : WrittenQuotedText) → NoLess lacking newlines x.meaning y.meaning
      → TokenNoLess lacking newlines (token_of_quoted_text quote x) (token_of_quoted_text quote y)
  unknown_token : lacking ≡ true → (v : Value) → TokenNoLess lacking newlines (token_of_value None) (token_of_value v)

-- of two lists of written tokens of one length, each token of the second is no less known than that of the first
pub data RestNoLess (lacking newlines : Bool) : List WrittenToken → List WrittenToken → Type 0 where
  no_more : RestNoLess lacking newlines [] []
  one_more : {t u : WrittenToken} {ts us : List WrittenToken} → TokenNoLess lacking newlines t u → RestNoLess lacking newlines ts us
      → RestNoLess lacking newlines (t ∷ ts) (u ∷ us)

-- of the written tokens of two lines the second are no less known than the first; an unknown first token has only trivia after it
pub data LineNoLess (lacking newlines : Bool) : List WrittenToken → List WrittenToken → Type 0 where
  empty_line : LineNoLess lacking newlines [] []
  trivia_first : {t : WrittenToken} {ts us : List WrittenToken} → is_trivia t ≡ true → LineNoLess lacking newlines ts us
      → LineNoLess lacking newlines (t ∷ ts) (t ∷ us)
  known_first : {t u : WrittenToken} {ts us : List WrittenToken} → TokenNoLess lacking newlines t u → is_trivia t ≡ false → is_trivia u ≡ false → is_unknown t ≡ false
      → RestNoLess lacking newlines ts us → LineNoLess lacking newlines (t ∷ ts) (u ∷ us)
  unknown_alone : lacking ≡ true → (v : Value) {ts : List WrittenToken} → without_trivia ts ≡ []
      → LineNoLess lacking newlines (token_of_value None ∷ ts) (token_of_value v ∷ ts)

pub data RestContent (lacking newlines : Bool) : LineContent → LineContent → Type 0 where
  rest_tokens : {ts us : List WrittenToken} → RestNoLess lacking newlines ts us → (newlines ≡ false → AreCleanWritten ts)
      → RestContent lacking newlines (tokens ts) (tokens us)

pub data ContentNoLess (lacking newlines : Bool) : LineContent → LineContent → Type 0 where
  same_assignment : {name : List ℕ} {a : AssignedText} → Fits newlines a.text → ContentNoLess lacking newlines (assigns name a) (assigns name a)
  line_tokens : {ts us : List WrittenToken} → LineNoLess lacking newlines ts us → (newlines ≡ false → AreCleanWritten ts)
      → ContentNoLess lacking newlines (tokens ts) (tokens us)

-- the value of a known text as a token
text_token : {lacking newlines : Bool} (s : List ℕ) → Fits newlines s → TokenNoLess lacking newlines (token_of_text s) (token_of_text s)
text_token [] f = same_token refl (same f)
text_token {lacking = lacking} {newlines = newlines} (c ∷ s) f = by_test (list_all is_bare_byte (c ∷ s) && not (is_keyword (c ∷ s)))
  where
    token : Bool → WrittenToken
    token b = cond b (written_as Word (c ∷ s) (c ∷ s)) (written_as Quoted (in_quotes_of 34 (c ∷ s)) (c ∷ s))

    by_test : (b : Bool) → TokenNoLess lacking newlines (token b) (token b)
    by_test true = same_token refl (same f)
    by_test false = same_token refl (same f)

-- the trivia of a line of trivia alone
trivia_of : List LineToken → List WrittenToken
trivia_of [] = []
trivia_of (t ∷ ts) = written_as Trivia (token_bytes t) [] ∷ trivia_of ts

trivia_are_trivia : (ts : List LineToken) → without_trivia (trivia_of ts) ≡ []
unfolding trivia_of
trivia_are_trivia [] = refl
trivia_are_trivia (t ∷ ts) = trivia_are_trivia ts

trivia_clean : {ts : List LineToken} → AreCleanTokens ts → AreCleanWritten (trivia_of ts)
unfolding trivia_of
trivia_clean no_tokens = none_written
trivia_clean (next_token h r) = next_written (record { bytes = h; meaning = text_clean clean_none }) (trivia_clean r)

module _ (at : Place) (b : Bindings) where
  trivia_content : (may_assign : Bool) (s : List ℕ) (ts : List LineToken) (rest : Program LineContent) → line_content at b may_assign ts ≡ rest
      → line_content at b may_assign (trivia s ∷ ts) ≡ (rest >>= λ x. returns (with_token (written_as Trivia s []) x))
  trivia_content true s ts rest e = ap (λ (p : Program LineContent). p >>= λ x. returns (with_token (written_as Trivia s []) x)) e
  trivia_content false s ts rest e = ap (λ (p : Program LineContent). p >>= λ x. returns (with_token (written_as Trivia s []) x)) e

  -- a line of trivia alone
  trivia_contents : (may_assign : Bool) (ts : List LineToken) → list_any (λ t. not (is_trivia_token t)) ts ≡ false
      → line_content at b may_assign ts ≡ returns (tokens (trivia_of ts))
  unfolding trivia_of
  trivia_contents may_assign [] e = refl
  trivia_contents may_assign (trivia s ∷ ts) e = trivia_content may_assign s ts (returns (tokens (trivia_of ts))) (trivia_contents may_assign ts e)
  trivia_contents may_assign x e = absurd (let z : ⊥ = cc in z)

-- the bytes of a first token, and the tokens after it
token_fits : {t : LineToken} {ts : List LineToken} → AreCleanTokens (t ∷ ts) → IsClean (token_bytes t)
token_fits (next_token h r) = h

tokens_fit : {t : LineToken} {ts : List LineToken} → AreCleanTokens (t ∷ ts) → AreCleanTokens ts
tokens_fit (next_token h r) = r

assigned_fits : {a : AssignedText} → IsCleanAssigned (Some a) → IsClean a.text
assigned_fits (an_assignment h) = h

module _ (c : Comparison) (at : Place) (file : Fits c.newlines at.file) (b d : Bindings) (bindings : BindingsNoLess c.lacking c.newlines b d) where
  abbrev V : Value → Value → Type 0
  V v u = NoLess c.lacking c.newlines v u

  -- bodies with no less a meaning
  record QuotedTextNoLess (x y : WrittenQuotedText) : Type 0 where
    meaning : V x.meaning y.meaning
    bytes : Fits c.newlines x.bytes

  record Tokens (t u : WrittenToken) : Type 0 where
    both : TokenNoLess c.lacking c.newlines t u
    first : c.newlines ≡ false → IsCleanToken t

  abbrev Rest : LineContent → LineContent → Type 0
  Rest x y = RestContent c.lacking c.newlines x y

  abbrev Content : LineContent → LineContent → Type 0
  Content x y = ContentNoLess c.lacking c.newlines x y

  value_matches : (s : List ℕ) → Fits c.newlines s → Related c V (text_value at b s) (text_value at d s)
  value_matches s f = text_matches c at file b d bindings s f

  value_clean : {v u : Value} → V v u → c.newlines ≡ false → IsCleanValue v
  value_clean (unknown l) e = unknown_clean
  value_clean (same f) e = text_clean (f e)

  value_body : (quote : ℕ) {v u : Value} → V v u → QuotedTextNoLess (quoted_text_of_value quote v) (quoted_text_of_value quote u)
  value_body quote (unknown l) = record { meaning = unknown l; bytes = λ e. clean_none }
  value_body quote (same {s = s} f) = record { meaning = same f; bytes = λ e. escaped_clean quote s (f e) }

  item_matches : (quote : ℕ) (i : Item) → (c.newlines ≡ false → IsCleanItem i) → Related c QuotedTextNoLess (written_item at b quote i) (written_item at d quote i)
  item_matches quote (byte x) f = match_return (record { meaning = same (λ e. byte_fits (f e)); bytes = λ e. by_test (x == 36) (byte_fits (f e)) })
    where
      by_test : (z : Bool) → IsClean (x ∷ []) → IsClean (cond z (92 ∷ x ∷ []) (x ∷ []))
      by_test true h = clean_cons refl h
      by_test false h = h
  item_matches quote (escaped x) f = match_return (record { meaning = same (λ e. escaped_fits (f e)); bytes = λ e. clean_cons refl (escaped_fits (f e)) })
  item_matches quote (reference inside) f =
      match_then (value_matches (item_bytes (reference inside)) (λ e. clean_cons refl (clean_cons refl (clean_append inside (41 ∷ []) (inside_fits (f e))
      (clean refl)))))
      (λ v u n. match_return (value_body quote n))
  item_matches quote (unterminated rest) f = match_fault

  items_match : (quote : ℕ) (is : List Item) → (c.newlines ≡ false → AreCleanItems is)
      → Related c QuotedTextNoLess (written_items at b quote is) (written_items at d quote is)
  items_match quote [] f = match_return (record { meaning = same (λ e. clean_none); bytes = λ e. clean_none })
  items_match quote (i ∷ is) f =
      match_then (item_matches quote i (λ e. item_fits (f e))) (λ x y r. match_then (items_match quote is (λ e. items_fit (f e)))
      (λ u v s. match_return (record {
        meaning = joined_no_less r.meaning s.meaning;
        bytes = λ e. clean_append x.bytes u.bytes (r.bytes e) (s.bytes e);
      })))

  -- a token that is as it was read
  same_tokens : {t : WrittenToken} → is_unknown t ≡ false → Fits c.newlines t.bytes → V t.meaning t.meaning → Related c Tokens (returns t) (returns t)
  same_tokens k f m = match_return (record { both = same_token k m; first = λ e. record { bytes = f e; meaning = value_clean m e } })

  value_token : {v u : Value} → V v u → Tokens (token_of_value v) (token_of_value u)
  value_token (unknown {v = v} l) = record { both = unknown_token l v; first = λ e. token_of_value_clean unknown_clean }
  value_token (same {s = s} f) = record { both = text_token s f; first = λ e. token_of_text_clean s (f e) }

  token_matches : (t : LineToken) → Fits c.newlines (token_bytes t) → Related c Tokens (written_token at b t) (written_token at d t)
  token_matches (trivia s) f = same_tokens refl f (same (λ e. clean_none))
  token_matches (other s) f = same_tokens refl f (same (λ e. clean_none))
  token_matches (broken s) f = match_fault
  token_matches (run s) f =
      match_test (list_any is_plain_dollar (items false 0 s)) (same_tokens refl f (same (λ e. clean_none)))
      (match_test (list_any is_reference (items false 0 s)) (match_then (value_matches s f) (λ v u n. match_return (value_token n)))
      (same_tokens refl f (same f)))
  token_matches (quoted quote s) f =
      match_then (items_match quote (items true 0 s) (λ e. items_clean true 0 s (clean_left s (quote ∷ []) (clean_rest (f e)))))
      (λ x y r. match_return (record {
        both = quoted_tokens quote x y r.meaning;
        first = λ e. record {
          bytes = clean_cons (clean_first (f e)) (clean_append x.bytes (quote ∷ []) (r.bytes e) (clean_cons (clean_first (f e)) clean_none));
          meaning = value_clean r.meaning e;
        };
      }))

  with_rest : {t u : WrittenToken} → Tokens t u → {l m : LineContent} → Rest l m → Rest (with_token t l) (with_token u m)
  with_rest r (rest_tokens s f) = rest_tokens (one_more r.both s) (λ e. next_written (r.first e) (f e))

  -- after the first token that isn't empty
  rest_matches : (ts : List LineToken) → (c.newlines ≡ false → AreCleanTokens ts) → Related c Rest (line_content at b false ts) (line_content at d false ts)
  rest_matches [] f = match_return (rest_tokens no_more (λ e. none_written))
  rest_matches (t ∷ ts) f =
      match_then (token_matches t (λ e. token_fits (f e))) (λ x y r. match_then (rest_matches ts (λ e. tokens_fit (f e))) (λ l m s. match_return
      (with_rest r s)))

  run_value_matches : (s : List ℕ) → Fits c.newlines s → Related c V (run_value at b s) (run_value at d s)
  run_value_matches s f = match_test (list_any (λ x. x == 36) s) (value_matches s f) (match_return (same f))

  with_trivia : {l m : LineContent} (t : WrittenToken) → is_trivia t ≡ true → (c.newlines ≡ false → IsCleanToken t) → Content l m
      → Content (with_token t l) (with_token t m)
  with_trivia t g f (same_assignment h) = same_assignment h
  with_trivia t g f (line_tokens r h) = line_tokens (trivia_first g r) (λ e. next_written (f e) (h e))

  trivia_then : {t : WrittenToken} → is_trivia t ≡ true → (c.newlines ≡ false → IsCleanToken t) → {p m : Program LineContent} → Related c Content p m
      → Related c Content (p >>= λ rest. returns (with_token t rest)) (m >>= λ rest. returns (with_token t rest))
  trivia_then {t = t} g f h = match_then h (λ x y r. match_return (with_trivia t g f r))

  or_assignment : {p m : Program LineContent} (a : AssignedText) → Fits c.newlines a.text → {v u : Value} → V v u → Related c Content p m
      → Related c Content (assignment_or p a v) (assignment_or m a u)
  or_assignment a f (unknown l) h = match_stop l
  or_assignment a f (same {s = []} g) h = h
  or_assignment a f (same {s = x ∷ name} g) h = match_return (same_assignment f)

  with_known : {t u : WrittenToken} → Tokens t u → is_trivia t ≡ false → is_trivia u ≡ false → is_unknown t ≡ false → {l m : LineContent} → Rest l m
      → Content (with_token t l) (with_token u m)
  with_known r g h k (rest_tokens s f) = line_tokens (known_first r.both g h k s) (λ e. next_written (r.first e) (f e))

  module _ (ts : List LineToken) (fit : c.newlines ≡ false → AreCleanTokens ts) where
    known_then : {t u : WrittenToken} → Tokens t u → is_trivia t ≡ false → is_trivia u ≡ false → is_unknown t ≡ false
        → Related c Content (line_content at b false ts >>= λ rest. returns (with_token t rest))
        (line_content at d false ts >>= λ rest. returns (with_token u rest))
    known_then r g h k = match_then (rest_matches ts fit) (λ x y s. match_return (with_known r g h k s))

    -- the line after a first token
    abbrev after_token : Bindings → WrittenToken → Program LineContent
    after_token z x = elim (is_open_front true x ts) [ true ↦ stops | false ↦ line_content at z (true && is_trivia x) ts >>= λ rest. returns (with_token x rest) ]

    by_trivia : (t : WrittenToken) → is_unknown t ≡ false → V t.meaning t.meaning → (c.newlines ≡ false → IsCleanToken t)
        → Related c Content (line_content at b true ts) (line_content at d true ts) → (g : Bool) → is_trivia t ≡ g
        → Related c Content (line_content at b g ts >>= λ rest. returns (with_token t rest)) (line_content at d g ts >>= λ rest. returns (with_token t rest))
    by_trivia t k m f ih true g = trivia_then g f ih
    by_trivia t k m f ih false g = known_then (record { both = same_token k m; first = f }) g g k

    unknown_then : c.lacking ≡ true → (v : Value) → (more_tokens : Bool) → list_any (λ t. not (is_trivia_token t)) ts ≡ more_tokens
        → Related c Content (elim more_tokens [ true ↦ stops | false ↦ line_content at b false ts >>= λ rest. returns (with_token (token_of_value None) rest) ])
        (after_token d (token_of_value v))
    unknown_then l v true n = match_stop l
    unknown_then l v false n =
        subst (λ p. Related c Content (p >>= λ rest. returns (with_token (token_of_value None) rest)) (after_token d (token_of_value v)))
        (sym (trivia_contents at b false ts n))
        (subst (λ p. Related c Content (returns (tokens (token_of_value None ∷ trivia_of ts))) p)
        (sym (closed (is_unknown (token_of_value v)) (is_trivia (token_of_value v))))
        (match_return (line_tokens (unknown_alone l v (trivia_are_trivia ts)) (λ e. next_written (token_of_value_clean unknown_clean) (trivia_clean (fit e))))))
      where
        closed : (x g : Bool) → (elim (x && list_any (λ t. not (is_trivia_token t)) ts) as (λ z. Program LineContent)
            [ true ↦ stops | false ↦ line_content at d g ts >>= λ rest. returns (with_token (token_of_value v) rest) ])
            ≡ returns (tokens (token_of_value v ∷ trivia_of ts))
        closed true g = ap (λ z. elim z as (λ z. Program LineContent) [
          | true ↦ stops
          | false ↦ line_content at d g ts >>= λ rest. returns
              (with_token (token_of_value v) rest)
        ]) n ∙ ap (λ (p : Program LineContent). p >>= λ rest. returns (with_token (token_of_value v) rest))
            (trivia_contents at d g ts n)
        closed false g = ap (λ (p : Program LineContent). p >>= λ rest. returns (with_token (token_of_value v) rest)) (trivia_contents at d g ts n)

    token_then : Related c Content (line_content at b true ts) (line_content at d true ts) → {t u : WrittenToken} → TokenNoLess c.lacking c.newlines t u
        → (c.newlines ≡ false → IsCleanToken t) → Related c Content (after_token b t) (after_token d u)
    token_then ih (same_token {t = t} k m) f =
        subst (λ x. Related c Content (elim (x && list_any (λ t. not (is_trivia_token t)) ts) as (λ z. Program LineContent)
        [ true ↦ stops | false ↦ line_content at b (is_trivia t) ts >>= λ rest. returns (with_token t rest) ])
        (elim (x && list_any (λ t. not (is_trivia_token t)) ts) as (λ z. Program LineContent)
        [ true ↦ stops | false ↦ line_content at d (is_trivia t) ts >>= λ rest. returns (with_token t rest) ])) (sym k) (by_trivia t k m f ih (is_trivia t) refl)
    token_then ih (quoted_tokens quote x y r) f = known_then (record { both = quoted_tokens quote x y r; first = f }) refl refl refl
    token_then ih (unknown_token l v) f = unknown_then l v (list_any (λ t. not (is_trivia_token t)) ts) refl

    by_assignment : (t : LineToken) → Fits c.newlines (token_bytes t) → Related c Content (line_content at b true ts) (line_content at d true ts)
        → (a : Option AssignedText) → (c.newlines ≡ false → IsCleanAssigned a)
        → Related c Content (elim a [
          | Some a ↦ run_value at b (token_bytes t) >>= assignment_or (line_content at b true ts >>= λ rest. returns (with_token (token_of_text []) rest)) a
          | None ↦ written_token at b t >>= λ x. after_token b x
        ]) (elim a [
          | Some a ↦ run_value at d (token_bytes t) >>= assignment_or (line_content at d true ts >>= λ rest. returns (with_token (token_of_text []) rest)) a
          | None ↦ written_token at d t >>= λ x. after_token d x
        ])
    by_assignment t f ih (Some a) g =
        match_then (run_value_matches (token_bytes t) f)
        (λ v u n. or_assignment a (λ e. assigned_fits (g e)) n (trivia_then refl (λ e. token_of_text_clean [] clean_none) ih))
    by_assignment t f ih None g = match_then (token_matches t f) (λ x y r. token_then ih r.both r.first)

  -- the content of a line is no less known in the second world
  pub content_matches : (ts : List LineToken) → (c.newlines ≡ false → AreCleanTokens ts)
      → Related c Content (line_content at b true ts) (line_content at d true ts)
  content_matches [] f = match_return (line_tokens empty_line (λ e. none_written))
  content_matches (t ∷ ts) f =
      by_assignment ts (λ e. tokens_fit (f e)) t (λ e. token_fits (f e)) (content_matches ts (λ e. tokens_fit (f e))) (assignment_at true t ts)
      (λ e. assignment_clean true t (tokens_fit (f e)))

  -- of two variables the second is of the same sort as the first and has a value that is no less known
  abbrev pub VariablesNoLess : Variable → Variable → Type 0
  VariablesNoLess x y = VariableNoLess c.lacking c.newlines (Some x) (Some y)

  stored_match : (v u : Value) {x y : Variable} → VariablesNoLess x y → Related c VariablesNoLess (stored at v x) (stored at u y)
  stored_match v u r = match_unless_long at (value_length v) (value_length u) (match_spend (match_return r))

  text_stored : (s : List ℕ) → Fits c.newlines s → Related c VariablesNoLess (stored_recursive at s) (stored_recursive at s)
  text_stored s f = stored_match (Some s) (Some s) (recursive_both f)

  pub variable_matches : (operator : Operator) (s : List ℕ) → Fits c.newlines s → {x y : Option Variable} → VariableNoLess c.lacking c.newlines x y
      → Related c VariablesNoLess (variable_assigned at b operator s x) (variable_assigned at d operator s y)
  variable_matches SetsNow s f r = match_then (value_matches s f) (λ v u n. stored_match v u (simple_both n))
  variable_matches Sets s f r = text_stored s f
  variable_matches Appends s f not_set = text_stored s f
  variable_matches Appends s f (recursive_both {s = t} g) = text_stored (t ++ 32 ∷ s) (λ e. clean_append t (32 ∷ s) (g e) (clean_cons refl (f e)))
  variable_matches Appends s f (simple_both {v = v} {u = u} n) =
      match_then (value_matches s f) (λ x y m. stored_match (joined_values v (joined_values (Some (32 ∷ [])) x)) (joined_values u (joined_values (Some
      (32 ∷ [])) y))
      (simple_both (joined_no_less n (joined_no_less (same {s = 32 ∷ []} (λ e. clean refl)) m))))

pub with_variable_no_less : {l k : Bool} (name : List ℕ) {x y : Variable} {b d : Bindings} → VariableNoLess l k (Some x) (Some y) → BindingsNoLess l k b d
    → BindingsNoLess l k (with_variable name x b) (with_variable name y d)
with_variable_no_less {l = l} {k = k} name {x = x} {y = y} {b = b} {d = d} r bindings = record { each = λ key. by_test key (bytes_eq key name) }
  where
    by_test : (key : List ℕ) (e : Bool) → VariableNoLess l k (cond e (Some x) (b key)) (cond e (Some y) (d key))
    by_test key true = r
    by_test key false = bindings.each key
