-- The tokens of a line.
use Rattle.std.specs.Prelude.{ℕ, zero, suc, pred, ◌+◌, Bool, true, false, ◌&&◌, ◌||◌, ◌==◌, nat_le, List, [], ◌∷◌, ◌++◌, length, take, drop, map, take_while, position, Option, Some, None, option_map, Result, Ok, Err, slice_index, if◌then◌else◌}
use Rattle.kc_value.specs.QuotedTexts.{closing}
use Rattle.kc_tokens.specs.declared.fault.ExprFault.{ExprFault}
use Rattle.kc_tokens.specs.declared.fault.ExprKind.TheVariants.{BadToken, UnclosedQuote, LeftOut}
use Rattle.kc_tokens.specs.declared.language.Language.{Language}
use Rattle.kc_tokens.specs.declared.language.Language.TheVariants.{Strict, Linux}
use Rattle.kc_tokens.specs.declared.token.Relop.TheVariants.{Equal, NotEqual, Less, Greater, LessEqual, GreaterEqual}
use Rattle.kc_tokens.specs.declared.token.TokenKind.{TokenKind}
use Rattle.kc_tokens.specs.declared.token.TokenKind.TheVariants.{Word, Quoted, Relation, Not, And, Or, Open, Close}
use Rattle.kc_tokens.specs.declared.token.Token.{Token as CodeToken}
use Rattle.kc_tokens.specs.declared.token.NextToken.{NextToken}
use Rattle.kc_tokens.specs.declared.token.NextToken.TheVariants.{White, Comment, Token, Fault}

-- a token of a line: its kind, the places of its first byte and of the byte after it, counted from 0, and its bytes
pub record Lexeme : Type 0 where
  pub kind : TokenKind
  pub start : ℕ
  pub stop : ℕ
  pub text : List ℕ

-- whether a byte is a quote, `"` or `'`
abbrev pub is_quote : ℕ → Bool
is_quote c = c == 34 || (c == 39)

-- whether a byte is white space within a line
abbrev pub is_white_byte : ℕ → Bool
is_white_byte c = c == 9 || (c == 11) || (c == 12) || (c == 13) || (c == 32)

-- whether a byte is one of words: a letter, a digit, `_`, `-`, `.` or `/`
abbrev pub is_word_byte : ℕ → Bool
is_word_byte c = (nat_le 65 c && nat_le c 90) || (nat_le 97 c && nat_le c 122) || (nat_le 48 c && nat_le c 57) || (c == 95) || (c == 45) || (c == 46) || (c == 47)

-- whether a byte is a letter, a digit or `_`
abbrev pub is_name_byte : ℕ → Bool
is_name_byte b = (nat_le 97 b && nat_le b 122) || (nat_le 65 b && nat_le b 90) || (nat_le 48 b && nat_le b 57)
    || (b == 95)

-- a token of the code as the definitions see it
abbrev pub lexeme_of : CodeToken → Lexeme
lexeme_of t = record { kind = t.kind; start = t.start; stop = t.end; text = t.text.now }

-- tokens of the code as the definitions see them
abbrev pub lexemes_of : List CodeToken → List Lexeme
lexemes_of ts = map lexeme_of ts

-- The definitions from here on compute what the grammar of TokenGrammar says of a line, by the laws `tokens_are_the_language` and
-- `token_faults_are_first_faults`.

-- the place of the first `$` that isn't in a pair of a backslash and a character; the flag says that a backslash is before the
-- first byte
abbrev pub bare_dollar : Bool → List ℕ → Option ℕ
bare_dollar escaped [] = None
bare_dollar true (c ∷ cs) = option_map suc (bare_dollar false cs)
bare_dollar false (c ∷ cs) = if c == 36 then Some 0 else option_map suc (bare_dollar (c == 92) cs)

-- the place of the first `$` of a quoted text that its language leaves out: the strict one any, that of Linux one that isn't in a
-- pair of a backslash and a character
abbrev pub dollar_left_out : Language → List ℕ → Option ℕ
dollar_left_out Strict text = position (λ c. c == 36) text
dollar_left_out (Linux version) text = bare_dollar false text

-- the quoted token of a length, or the fault `LeftOut` at the place of a `$` in it that the language forbids, if one is given
abbrev pub quoted_or_left_out : ℕ → Option ℕ → NextToken
quoted_or_left_out len None = Token Quoted len
quoted_or_left_out len (Some k) = Fault LeftOut k

-- the quoted token at the front of bytes, by the place of its closing quote after the opening one, or its fault
abbrev pub quoted_up_to : Language → List ℕ → Option ℕ → NextToken
quoted_up_to language bytes None = Fault UnclosedQuote 0
quoted_up_to language bytes (Some n) = quoted_or_left_out (n + 1) (dollar_left_out language (take (n + 1) bytes))

-- the quoted token at the front of bytes that begin with a quote, or its fault
abbrev pub next_quoted : Language → List ℕ → NextToken
next_quoted language bytes = quoted_up_to language bytes (closing (slice_index bytes 0) false (drop 1 bytes))

-- the longest operator at the front of bytes, by the first two bytes, or a fault if there is none
abbrev pub next_operator : ℕ → ℕ → NextToken
next_operator a b =
    if a == 33 then (if b == 61 then Token (Relation NotEqual) 2 else Token Not 1)
    else if a == 60 then (if b == 61 then Token (Relation LessEqual) 2 else Token (Relation Less) 1)
    else if a == 62 then (if b == 61 then Token (Relation GreaterEqual) 2 else Token (Relation Greater) 1)
    else if a == 38 then (if b == 38 then Token And 2 else Fault BadToken 0)
    else if a == 124 then (if b == 124 then Token Or 2 else Fault BadToken 0)
    else if a == 61 then Token (Relation Equal) 1
    else if a == 40 then Token Open 1
    else if a == 41 then Token Close 1
    else if a == 36 then Fault LeftOut 0
    else Fault BadToken 0

-- what bytes begin with: white space, a comment, a token, or a fault
unfoldable pub next_token : Language → List ℕ → NextToken
next_token language bytes =
    let a = slice_index bytes 0 in
    if is_white_byte a then White
    else if a == 35 then Comment
    else if is_word_byte a then Token Word (length (take_while is_word_byte bytes))
    else if a == 34 || (a == 39) then next_quoted language bytes
    else next_operator a (slice_index bytes 1)

-- a result whose list has another list put in front; a fault is kept
abbrev pub with_front : {X E : Type 0} → List X → Result (List X) E → Result (List X) E
with_front front (Ok xs) = Ok (front ++ xs)
with_front front (Err e) = Err e

-- the tokens of a line from a byte on, or its first fault; `skip` counts the remaining bytes of the token before
abbrev pub lexemes_from : Language → (skip at : ℕ) → List ℕ → Result (List Lexeme) ExprFault
lexemes_from language skip at [] = Ok []
lexemes_from language (suc skip) at (b ∷ bs) = lexemes_from language skip (at + 1) bs
lexemes_from language zero at (b ∷ bs) = elim (next_token language (b ∷ bs)) [
  | White ↦ lexemes_from language 0 (at + 1) bs
  | Comment ↦ Ok []
  | Token kind len ↦ with_front (record { kind = kind; start = at; stop = at + len; text = take len (b ∷ bs) } ∷ []) (lexemes_from language (pred len) (at + 1) bs)
  | Fault kind ahead ↦ Err (record { offset = at + ahead; kind = kind })
]
