-- Texts without their first bytes, and the assignments that they make.
use Rattle.kc_macro_lines.proofs.Common.{◌≡◌, ℕ, zero, suc, ◌+◌, ◌-◌, ◌<◌, ◌≤◌, Bool, true, false, ◌&&◌, cond, List, [], ◌∷◌, length, take, drop, get_or, Option, None, refl, sym, ap, ◌∙◌, arith, length-drop, ◌==◌, not, option_map, eqb-true, list_any, prefix_len, is_white_byte, LineToken, run}
use Rattle.kc_macro_lines.proofs.Common.{token_bytes, line_tokens, bytes_of_tokens, WrittenToken, AssignedText, assigned, without_front, operator_at, assignment_to, is_trivia_token, is_unknown, is_open_front, first_token_of, has_token, rest_is}
use Rattle.kc_macros_model.specs.WrittenTokens.{is_keyword}
use Rattle.kc_macros_model.specs.Assignments.{is_blank_byte}
use Rattle.kc_macro_lines.proofs.LineTokenLemmas.{row_of_tokens, tokens_first, token_fits, any_token}

-- an assignment without the blanks before its text
abbrev pub without_blanks : AssignedText → AssignedText
without_blanks a = assigned a.operator (without_front is_blank_byte a.text)

module _ (name after : List ℕ) where
  pub keyword_assigns_not : is_keyword name ≡ true → None ≡ assignment_to (run name) (line_tokens 0 after)
  keyword_assigns_not e = sym (ap
      (λ b. cond b None (option_map without_blanks (operator_at (without_front is_white_byte (bytes_of_tokens (line_tokens 0 after)))))) e)

  pub assigns_by : is_keyword name ≡ false → (o : Option AssignedText) → o ≡ operator_at (without_front is_white_byte after)
      → option_map without_blanks o ≡ assignment_to (run name) (line_tokens 0 after)
  assigns_by e o h =
      sym (ap (λ b. cond b None (option_map without_blanks (operator_at (without_front is_white_byte (bytes_of_tokens (line_tokens 0 after)))))) e
      ∙ ap (λ t. option_map without_blanks (operator_at (without_front is_white_byte t))) (row_of_tokens 0 after) ∙ ap (option_map without_blanks) (sym h))

  -- a name without an operator after it, white aside, isn't the name of an assignment
  pub assigns_nothing : None ≡ operator_at (without_front is_white_byte after) → None ≡ assignment_to (run name) (line_tokens 0 after)
  assigns_nothing h = by_test (is_keyword name) refl
    where
      by_test : (b : Bool) → is_keyword name ≡ b → None ≡ assignment_to (run name) (line_tokens 0 after)
      by_test true e = keyword_assigns_not e
      by_test false e = assigns_by e None h

-- a line has a token that is no trivia if its first byte that isn't white, if there is one, isn't `#`
pub token_by_front : (s : List ℕ) → has_token s ≡ not (get_or (without_front is_white_byte s) 0 35 == 35)
token_by_front [] = refl
token_by_front (c ∷ s) = by_test (token_by_front s) (is_white_byte c)
  where
    by_test : has_token s ≡ not (get_or (without_front is_white_byte s) 0 35 == 35) → (b : Bool)
        → cond b (has_token s) (not (c == 35)) ≡ not (get_or (drop (cond b (1 + prefix_len is_white_byte s) 0) (c ∷ s)) 0 35 == 35)
    by_test ih true = ih ∙ ap (λ n. not (get_or (drop n (c ∷ s)) 0 35 == 35)) (let n : suc (prefix_len is_white_byte s) ≡ 1 + prefix_len is_white_byte s =
        omega arith in n)
    by_test ih false = refl

module _ (s rest : List ℕ) (e : rest ≡ without_front is_white_byte s) where
  by_byte : (d : ℕ) → get_or rest 0 35 ≡ d → not (d == 35) ≡ has_token s
  by_byte d h = sym (token_by_front s ∙ ap (λ r. not (get_or r 0 35 == 35)) (sym e) ∙ ap (λ x. not (x == 35)) h)

  pub token_here : 0 < length rest → not (get_or rest 0 0 == 35) ≡ has_token s
  token_here h = by_byte (get_or rest 0 0) (same_byte rest h)
    where
      same_byte : (r : List ℕ) → 0 < length r → get_or r 0 35 ≡ get_or r 0 0
      same_byte [] k = absurd (omega arith)
      same_byte (c ∷ r) k = refl

  pub token_absent : length rest ≡ 0 → false ≡ has_token s
  token_absent h = by_byte 35 (no_byte rest h)
    where
      no_byte : (r : List ℕ) → length r ≡ 0 → get_or r 0 35 ≡ 35
      no_byte [] k = refl
      no_byte (c ∷ r) k = absurd (omega arith)

-- if a line may assign and its first token is unknown, it is undecided whether it assigns if a token that is no trivia follows
pub open_so : (may : Bool) (w : WrittenToken) (after : List ℕ) (r : Bool) → may ≡ true → is_unknown w ≡ true → r ≡ has_token after
    → r ≡ is_open_front may w (line_tokens 0 after)
open_so may w after r h k e =
    e ∙ sym (any_token after) ∙ sym (ap (λ m. m && is_unknown w && list_any (λ t. not (is_trivia_token t)) (line_tokens 0 after)) h
    ∙ ap (λ u. u && list_any (λ t. not (is_trivia_token t)) (line_tokens 0 after)) k)

pub none_of : (n : ℕ) (b : Bool) → b ≡ (n == 0) → b ≡ true → n ≡ 0
none_of n b e h = eqb-true n 0 (sym e ∙ h)

pub some_of : (n : ℕ) (b : Bool) → b ≡ (n == 0) → b ≡ false → 0 < n
some_of zero b e h = absurd (let z : true ≡ false = sym e ∙ h in let y : ⊥ = cc in y)
some_of (suc n) b e h = omega arith

-- the token at the front of a text, and the bytes after it
module _ (text : List ℕ) (t : LineToken) (n : ℕ) (some : 0 < length text) (first : t ≡ first_token_of text) (len : n ≡ length (token_bytes t)) where
  front_length : n ≡ length (token_bytes (first_token_of text))
  front_length = len ∙ ap (λ x. length (token_bytes x)) first

  pub front_fits : n ≤ length text
  front_fits = let f = token_fits text some in omega (arith, front_length, f.1)

  pub front_tokens : (after : List ℕ) → after ≡ drop n text → line_tokens 0 text ≡ t ∷ line_tokens 0 after
  front_tokens after e =
      tokens_first text n some front_length ∙ ap (λ x. x ∷ line_tokens 0 (take (length text - n) (drop n text))) (sym first)
      ∙ ap (λ x. t ∷ line_tokens 0 x) (rest_is text n ∙ sym e)

  pub front_shorter : (after : List ℕ) → after ≡ drop n text → length after < length text
  front_shorter after e = let f = token_fits text some in omega (arith, front_length, f.0, f.1, ap length e, length-drop n text)
