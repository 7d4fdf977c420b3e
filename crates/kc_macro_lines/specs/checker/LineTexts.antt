-- Items and tokens at the front of a text, as `kc_macros_model` defines them.
use Rattle.std.specs.Prelude.{ℕ, Bool, false, not, ◌==◌, List, [], ◌∷◌, Option, Some, None, if◌then◌else◌}
use Rattle.std.specs.List.{list_any}
use Rattle.kc_tokens.specs.Token.{is_white_byte}
use Rattle.kc_macros_model.specs.References.{Item, byte, first_item}
use Rattle.kc_macros_model.specs.LineTokens.{LineToken, trivia, run, quoted, other, broken, is_run_byte, first_token}
use Rattle.kc_macro_lines.specs.declared.line_tokens.LineToken.{LineToken as CodeToken}
use Rattle.kc_macro_lines.specs.declared.line_tokens.LineToken.TheVariants as kinds

-- the item (a reference, an escaped byte or a byte) at the front of a text that isn't empty
abbrev pub first_item_of : (in_quotes : Bool) → List ℕ → Item
first_item_of q [] = byte 0
first_item_of q (c ∷ s) = first_item q c s

-- the token at the front of the text of a line that isn't empty
abbrev pub first_token_of : List ℕ → LineToken
first_token_of [] = trivia []
first_token_of (c ∷ s) = first_token c s

-- a token of a line of the code as one of `kc_macros_model`
abbrev pub token_view : CodeToken → LineToken
token_view (kinds.Trivia s) = trivia s.now
token_view (kinds.Word s) = run s.now
token_view (kinds.Quoted quote s) = quoted quote s.now
token_view (kinds.Other s) = other s.now
token_view (kinds.Broken s) = broken s.now

-- whether a byte ends a token: without quotes (`None`) each byte that fails `is_run_byte` does, in quotes (`Some`) the quote
abbrev pub ends_extent : Option ℕ → ℕ → Bool
ends_extent None c = not (is_run_byte c)
ends_extent (Some quote) c = c == quote

-- whether a text has a `=`
abbrev pub has_equals_sign : List ℕ → Bool
has_equals_sign text = list_any (λ c. c == 61) text

-- whether a line has a token that is neither white nor a comment
abbrev pub has_token : List ℕ → Bool
has_token [] = false
has_token (c ∷ s) = if is_white_byte c then has_token s else not (c == 35)
