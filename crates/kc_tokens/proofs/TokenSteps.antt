-- Steps of reading a line.
use Rattle.std.proofs.Common.{sub-one, add-suc, add-one, get_or-drop, drop-drop}
use Rattle.std.proofs.Math.ListN.{drop_of_length-le}
use Rattle.kc_tokens.proofs.Common.{◌≡◌, ℕ, suc, zero, ◌+◌, ◌≤◌, ◌<◌, Bool, true, false, List, [], ◌∷◌, ◌++◌, length, drop, take, refl, ap, sym, ◌∙◌, arith, cond, Result, Ok, Err, get_or, ◌-◌, append_assoc, length-drop, drop_more, IsCharBoundary-after_ascii, take-length, take_while-cons, take_while}
use Rattle.kc_tokens.proofs.Common.{IsCharBoundary, Language, lexemes_from, Lexeme, is_word_byte, lexemes_of, White, Comment, Token, Fault, TokenKind, ExprKind, nat_tests, with_front, ExprFault}
use Rattle.std.specs.Prelude.{IsUtf8}
use Rattle.kc_tokens.specs.Token.{next_token, lexeme_of}
use Rattle.kc_tokens.specs.declared.token.Token.{Token as CodeToken}
use Rattle.std.proofs.lemmas.List.{map-append}

pub word_byte_ascii : (c : ℕ) → is_word_byte c ≡ true → c < 128
word_byte_ascii c h = grind (arith, nat_tests)

-- bytes that begin with a word byte have a front of at least one word byte
pub word_run : (bs : List ℕ) → 0 < length bs → is_word_byte (get_or bs 0 0) ≡ true → 0 < length (take_while is_word_byte bs)
word_run [] h e = absurd (omega arith)
word_run (b ∷ bs) h e = rw (take_while-cons is_word_byte b bs, e) (omega arith)

last_of : (b : ℕ) (bs : List ℕ) (n : ℕ) → b < 128 → (0 < n → get_or bs (n - 1) 0 < 128) → get_or (b ∷ bs) n 0 < 128
last_of b bs zero h k = h
last_of b bs (suc n) h k = rw sub-one at (k (omega arith))

word_ends_by : (t : Bool) (b : ℕ) (bs : List ℕ) → is_word_byte b ≡ t → (0 < length (take_while is_word_byte bs)
    → get_or bs (length (take_while is_word_byte bs) - 1) 0 < 128) → 0 < length (cond t (b ∷ take_while is_word_byte bs) [])
    → get_or (b ∷ bs) (length (cond t (b ∷ take_while is_word_byte bs) []) - 1) 0 < 128
word_ends_by false b bs e ih h = absurd (omega arith)
word_ends_by true b bs e ih h = let r = last_of b bs (length (take_while is_word_byte bs)) (word_byte_ascii b e) ih in rw sub-one r

pub word_ends : (bs : List ℕ) → 0 < length (take_while is_word_byte bs) → get_or bs (length (take_while is_word_byte bs) - 1) 0 < 128
word_ends [] h = absurd (omega arith)
word_ends (b ∷ bs) h = rw take_while-cons (word_ends_by (is_word_byte b) b bs refl (word_ends bs) (rw take_while-cons at h))

-- the remaining bytes of a token that began before are skipped when a line is read
pub lexemes_skip : (language : Language) (k at : ℕ) (bs : List ℕ) → lexemes_from language k at bs ≡ lexemes_from language 0 (at + k) (drop k bs)
lexemes_skip language zero at [] = refl
lexemes_skip language (suc k) at [] = refl
lexemes_skip language zero at (b ∷ bs) = ap (λ n. lexemes_from language 0 n (b ∷ bs)) (omega arith)
lexemes_skip language (suc k) at (b ∷ bs) = lexemes_skip language k (at + 1) bs ∙ ap (λ n. lexemes_from language 0 n (drop k bs)) (omega arith)

pub lexemes_white : (language : Language) (at b : ℕ) (bs : List ℕ) → next_token language (b ∷ bs) ≡ White
    → lexemes_from language 0 at (b ∷ bs) ≡ lexemes_from language 0 (at + 1) bs
lexemes_white language at b bs e = rw (e, lexemes_from) refl

pub lexemes_comment : (language : Language) (at b : ℕ) (bs : List ℕ) → next_token language (b ∷ bs) ≡ Comment → lexemes_from language 0 at (b ∷ bs) ≡ Ok []
lexemes_comment language at b bs e = rw (e, lexemes_from) refl

pub lexemes_fault : (language : Language) (at b : ℕ) (bs : List ℕ) (kind : ExprKind) (ahead : ℕ) → next_token language (b ∷ bs) ≡ Fault kind ahead
    → lexemes_from language 0 at (b ∷ bs) ≡ Err (record { offset = at + ahead; kind = kind })
lexemes_fault language at b bs kind ahead e = rw (e, lexemes_from) refl

pub lexemes_token : (language : Language) (at b : ℕ) (bs : List ℕ) (kind : TokenKind) (len : ℕ) → next_token language (b ∷ bs) ≡ Token kind (suc len)
    → lexemes_from language 0 at (b ∷ bs) ≡ with_front (record { kind = kind; start = at; stop = at + suc len; text = take (suc len) (b ∷ bs) } ∷ [])
    (lexemes_from language 0 (at + suc len) (drop len bs))
lexemes_token language at b bs kind len e =
    rw (e, lexemes_from) (ap (λ r. with_front (record { kind = kind; start = at; stop = at + suc len; text = take (suc len) (b ∷ bs) } ∷ []) r)
    (lexemes_skip language len (at + 1) bs ∙ ap (λ n. lexemes_from language 0 n (drop len bs)) (omega arith)))

pub with_front_more : {E : Type 0} (xs ys : List Lexeme) (r : Result (List Lexeme) E) → with_front xs (with_front ys r) ≡ with_front (xs ++ ys) r
with_front_more xs ys (Ok zs) = ap Ok (sym (append_assoc xs ys zs))
with_front_more xs ys (Err e) = refl

-- one step of reading a line, at a place and after the pieces found so far
module _ (language : Language) (line : List ℕ) (at : ℕ) (found : List Lexeme) (all : Result (List Lexeme) ExprFault) (here : at < length line)
    (so_far : with_front found (lexemes_from language 0 at (drop at line)) ≡ all) where
  pub step_white : next_token language (drop at line) ≡ White → with_front found (lexemes_from language 0 (at + 1) (drop (at + 1) line)) ≡ all
  step_white e =
      let d = drop_more line at 0 here in
      let inv = rw d at so_far in
      let lead = rw d at e in
      ap (with_front found) (sym (lexemes_white language at (get_or line at 0) (drop (at + 1) line) lead)) ∙ inv

  pub step_token : (kind : TokenKind) (n : ℕ) → next_token language (drop at line) ≡ Token kind (suc n)
      → with_front (found ++ record { kind = kind; start = at; stop = at + suc n; text = take (suc n) (drop at line) } ∷ [])
      (lexemes_from language 0 (at + suc n) (drop (at + suc n) line)) ≡ all
  step_token kind n e =
      let d = drop_more line at 0 here in
      let inv = rw d at so_far in
      let lead = rw d at e in
      let t = lexemes_token language at (get_or line at 0) (drop (at + 1) line) kind n lead in
      let there : drop (at + suc n) line ≡ drop n (drop (at + 1) line) = rw drop-drop (ap (λ k. drop k line) (omega arith)) in
      rw (there, d) (sym (with_front_more found (record {
        kind = kind;
        start = at;
        stop = at + suc n;
        text = take (suc n) (get_or line at 0 ∷ drop (at + 1) line);
      } ∷ []) (lexemes_from language 0 (at + suc n) (drop n (drop (at + 1) line))))
      ∙ ap (with_front found) (sym t) ∙ inv)

  pub step_token_of : (kind : TokenKind) (len : ℕ) → 0 < len → next_token language (drop at line) ≡ Token kind len
      → with_front (found ++ record { kind = kind; start = at; stop = at + len; text = take len (drop at line) } ∷ [])
      (lexemes_from language 0 (at + len) (drop (at + len) line)) ≡ all
  step_token_of kind zero h e = absurd (omega arith)
  step_token_of kind (suc n) h e = step_token kind n e

pub cut_after : (line : List ℕ) (at n : ℕ) → IsUtf8 line → at + suc n ≤ length line → get_or (drop at line) n 0 < 128 → IsCharBoundary line (at + suc n)
cut_after line at n u h a = rw add-suc (rw (← add-one (at + n)) (IsCharBoundary-after_ascii line (at + n) u (omega arith) (rw get_or-drop at a)))

pub cut_after_token : (line : List ℕ) (at len : ℕ) → IsUtf8 line → 0 < len → len ≤ length (drop at line) → at < length line
    → get_or (drop at line) (len - 1) 0 < 128 → IsCharBoundary line (at + len)
cut_after_token line at zero u p h l a = absurd (omega arith)
cut_after_token line at (suc n) u p h l a = cut_after line at n u (omega (arith, length-drop at line)) (rw sub-one at a)

-- the slice `&bytes[at..]` of the bytes of a line is the line from that place on
pub rest_is : (bs line : List ℕ) (at : ℕ) → bs ≡ line → take (length bs - at) (drop at bs) ≡ drop at line
rest_is bs line at e = rw e (rw (← length-drop at line) (take-length (drop at line)))

pub with_front_none : {X E : Type 0} (r : Result (List X) E) → with_front [] r ≡ r
with_front_none (Ok xs) = refl
with_front_none (Err e) = refl

-- the tokens that the definitions see of a list with a token appended are those of the list and that of the token
pub lexemes_more : (ts : List CodeToken) (t : CodeToken) → lexemes_of (ts ++ t ∷ []) ≡ lexemes_of ts ++ lexeme_of t ∷ []
lexemes_more ts t = map-append lexeme_of ts (t ∷ [])

pub text_is : (line : List ℕ) (at len : ℕ) (text : List ℕ) → text ≡ take ((at + len) - at) (drop at line) → text ≡ take len (drop at line)
text_is line at len text e = e ∙ ap (λ n. take n (drop at line)) (omega arith)

pub run_stops : (bs : List ℕ) (i : ℕ) → i < length bs → is_word_byte (get_or bs i 0) ≡ false → length (take_while is_word_byte (drop i bs)) ≡ 0
run_stops bs i h e = rw (drop_more bs i 0 h, take_while-cons is_word_byte (get_or bs i 0) (drop (i + 1) bs), e) refl

pub run_ends : (bs : List ℕ) (i : ℕ) → length bs ≤ i → length (take_while is_word_byte (drop i bs)) ≡ 0
run_ends bs i h = rw (drop_of_length-le bs h) refl
