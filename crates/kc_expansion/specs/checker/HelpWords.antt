-- The end of a line after its first word.
use Rattle.std.specs.Prelude.{ℕ, Bool, true, ◌==◌, List, [], ◌∷◌, length, drop, take_while}
use Rattle.kc_tokens.specs.Token.{is_white_byte}

-- whether a text is empty or begins a comment
abbrev pub is_comment_or_none : List ℕ → Bool
is_comment_or_none [] = true
is_comment_or_none (c ∷ s) = c == 35

-- whether a text has nothing but white bytes and perhaps a comment after them
abbrev pub is_end : List ℕ → Bool
is_end text = is_comment_or_none (drop (length (take_while is_white_byte text)) text)
