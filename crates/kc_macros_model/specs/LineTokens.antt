-- The tokens of a logical line, as the expansion sees them.
use Rattle.std.specs.Prelude.{ℕ, zero, suc, pred, Bool, true, false, not, ◌||◌, ◌==◌, nat_lt, List, [], ◌∷◌, ◌++◌, length, take, flat_map, if◌then◌else◌}
use Rattle.std.specs.List.{list_any}
use Rattle.kc_tokens.specs.Token.{is_white_byte, is_word_byte}
use Rattle.kc_macros_model.specs.References.{item_bytes, first_item, items, is_unterminated}

-- a token of a logical line: white or a comment; a run of word bytes, macro references and `$`; bytes between two quotes; other
-- bytes; the rest of a line that has a `$(` without its `)`
pub data LineToken : Type 0 where
  trivia : List ℕ → LineToken
  run : List ℕ → LineToken
  quoted : (quote : ℕ) → List ℕ → LineToken
  other : List ℕ → LineToken
  broken : List ℕ → LineToken

-- the bytes of a token of a logical line, its quotes among them
abbrev pub token_bytes : LineToken → List ℕ
token_bytes (trivia s) = s
token_bytes (run s) = s
token_bytes (quoted quote s) = quote ∷ (s ++ quote ∷ [])
token_bytes (other s) = s
token_bytes (broken s) = s

-- how many bytes come before the first item whose first byte passes `ends`; the first `skip` bytes belong to an earlier item
abbrev pub extent : (in_quotes : Bool) (ends : ℕ → Bool) (skip : ℕ) → List ℕ → ℕ
extent q ends skip [] = 0
extent q ends (suc skip) (c ∷ s) = suc (extent q ends skip s)
extent q ends zero (c ∷ s) = if ends c then 0 else suc (extent q ends (pred (length (item_bytes (first_item q c s)))) s)

-- whether a byte may be in a run outside its macro references: a byte of a word, or `$`
abbrev pub is_run_byte : ℕ → Bool
is_run_byte c = is_word_byte c || (c == 36)

-- a run of word bytes, macro references and `$` as a token; it is `broken` if it has a `$(` without its `)`
abbrev pub run_token : List ℕ → LineToken
run_token s = if list_any is_unterminated (items false 0 s) then broken s else run s

-- the token of an opening quote, given how many of the bytes after it precede the closing quote; other bytes if none closes it
abbrev pub quoted_token : ℕ → ℕ → List ℕ → LineToken
quoted_token n quote s =
    if list_any is_unterminated (items true 0 (take n s)) then broken (quote ∷ s)
    else if nat_lt n (length s) then quoted quote (take n s)
    else other (quote ∷ s)

-- the first token of the rest of a line, given its first byte and the bytes after that
abbrev pub first_token : ℕ → List ℕ → LineToken
first_token c s =
    if is_white_byte c then trivia (c ∷ [])
    else if c == 35 then trivia (c ∷ s)
    else if is_run_byte c then run_token (take (extent false (λ d. not (is_run_byte d)) 0 (c ∷ s)) (c ∷ s))
    else if c == 34 || (c == 39) then quoted_token (extent true (λ d. d == c) 0 s) c s
    else other (c ∷ [])

-- the tokens of a logical line; the first `skip` bytes belong to an earlier token
abbrev pub line_tokens : (skip : ℕ) → List ℕ → List LineToken
line_tokens skip [] = []
line_tokens (suc skip) (c ∷ s) = line_tokens skip s
line_tokens zero (c ∷ s) = let t = first_token c s in t ∷ line_tokens (pred (length (token_bytes t))) s

-- the bytes of the tokens of a logical line, one after the other
abbrev pub bytes_of_tokens : List LineToken → List ℕ
bytes_of_tokens ts = flat_map token_bytes ts
