-- The token language, apart from how a line is scanned ("Menu dependencies").
use Rattle.std.specs.Prelude.{◌≡◌, ℕ, ◌+◌, ◌<◌, ◌≤◌, true, false, ◌==◌, List, [], ◌∷◌, ◌++◌, length, codes}
use Rattle.std.specs.List.{list_all, list_any}
use Rattle.kc_value.specs.QuotedTexts.{IsBetweenQuotes}
use Rattle.kc_tokens.specs.declared.fault.ExprFault.{ExprFault}
use Rattle.kc_tokens.specs.declared.fault.ExprKind.TheVariants.{BadToken, UnclosedQuote, LeftOut}
use Rattle.kc_tokens.specs.declared.language.Language.{Language}
use Rattle.kc_tokens.specs.declared.language.Language.TheVariants.{Strict, Linux}
use Rattle.kc_tokens.specs.declared.token.Relop.{Relop}
use Rattle.kc_tokens.specs.declared.token.Relop.TheVariants.{Equal, NotEqual, Less, Greater, LessEqual, GreaterEqual}
use Rattle.kc_tokens.specs.declared.token.TokenKind.{TokenKind}
use Rattle.kc_tokens.specs.declared.token.TokenKind.TheVariants.{Word, Quoted, Relation, Not, And, Or, Open, Close}
use Rattle.kc_tokens.specs.Token.{is_quote, Lexeme, is_white_byte, is_word_byte}

-- the spelling of a relation's operator ("Menu dependencies")
abbrev pub relation_text : Relop → List ℕ
relation_text op = elim op [ Equal ↦ codes "=" | NotEqual ↦ codes "!=" | Less ↦ codes "<" | Greater ↦ codes ">" | LessEqual ↦ codes "<=" | GreaterEqual ↦ codes ">=" ]

-- in bytes between quotes each `$` is in a pair of a backslash and a character
pub data HasDollarsInPairs : List ℕ → Type 0 where
  empty : HasDollarsInPairs []
  other : {c : ℕ} {bs : List ℕ} → (c == 36) ≡ false → (c == 92) ≡ false → HasDollarsInPairs bs → HasDollarsInPairs (c ∷ bs)
  paired : {c : ℕ} {bs : List ℕ} → HasDollarsInPairs bs → HasDollarsInPairs (92 ∷ c ∷ bs)

-- bytes between quotes have only `$` that their language allows: in the strict one none, in that of Linux those in pairs of a
-- backslash and a character
abbrev pub HasDollarsOf : Language → List ℕ → Type 0
HasDollarsOf Strict body = list_any (λ c. c == 36) body ≡ false
HasDollarsOf (Linux version) body = HasDollarsInPairs body

-- a text is a quoted token: bytes between two quotes of one sort, with no `$` that the language leaves out
pub record IsQuotedToken (language : Language) (text : List ℕ) : Type 0 where
  pub quote : ℕ
  pub body : List ℕ
  pub means : List ℕ
  pub sort : is_quote quote ≡ true
  pub parts : text ≡ quote ∷ (body ++ quote ∷ [])
  pub is_between_quotes : IsBetweenQuotes quote body means
  pub dollars : HasDollarsOf language body

-- a text is a token of a kind
abbrev pub IsToken : Language → TokenKind → List ℕ → Type 0
IsToken language Word text = (0 < length text) × (list_all is_word_byte text ≡ true)
IsToken language Quoted text = IsQuotedToken language text
IsToken language (Relation op) text = text ≡ relation_text op
IsToken language Not text = text ≡ codes "!"
IsToken language And text = text ≡ codes "&&"
IsToken language Or text = text ≡ codes "||"
IsToken language Open text = text ≡ codes "("
IsToken language Close text = text ≡ codes ")"

-- each token that bytes begin with is at most as long as a text
abbrev pub IsLongest : Language → List ℕ → List ℕ → Type 0
IsLongest language text bytes = (kind : TokenKind) (front rest : List ℕ) → bytes ≡ front ++ rest → IsToken language kind front → length front ≤ length text

-- a line from a place on is cut into tokens: up to a comment or its end it consists of white bytes and these tokens, each the
-- longest that fits
pub data IsCut (language : Language) : ℕ → List ℕ → List Lexeme → Type 0 where
  ends : {at : ℕ} → IsCut language at [] []
  comment : {at : ℕ} {bytes : List ℕ} → IsCut language at (35 ∷ bytes) []
  white : {at c : ℕ} {bytes : List ℕ} {ps : List Lexeme} → is_white_byte c ≡ true → IsCut language (at + 1) bytes ps → IsCut language at (c ∷ bytes) ps
  token : {at : ℕ} {bytes : List ℕ} {ps : List Lexeme} (p : Lexeme) (rest : List ℕ) → bytes ≡ p.text ++ rest → IsToken language p.kind p.text → IsLongest language p.text bytes → p.start ≡ at → p.stop ≡ at + length p.text → IsCut language p.stop rest ps → IsCut language at bytes (p ∷ ps)

-- neither white space nor a comment nor a token begins with this byte, where these bytes follow it
abbrev pub NothingBegins : Language → ℕ → List ℕ → Type 0
NothingBegins language c bytes = (is_white_byte c ≡ false) × ((c == 35) ≡ false) × ((kind : TokenKind) (text rest : List ℕ) → c ∷ bytes ≡ text ++ rest → IsToken language kind text → ⊥)

-- a byte of a line, at which nothing begins, has a fault: LeftOut of a `$`, UnclosedQuote of a quote that is never closed,
-- LeftOut of the first `$` between quotes that is left out, BadToken of any other byte
pub data IsFaultAt (language : Language) (at : ℕ) : List ℕ → ExprFault → Type 0 where
  dollar : {bytes : List ℕ} → IsFaultAt language at (36 ∷ bytes) (record { offset = at; kind = LeftOut })
  unclosed : {quote : ℕ} {bytes : List ℕ} → is_quote quote ≡ true → ((body means rest : List ℕ) → IsBetweenQuotes quote body means → bytes ≡ body ++ quote ∷ rest → ⊥) → IsFaultAt language at (quote ∷ bytes) (record { offset = at; kind = UnclosedQuote })
  dollar_between : {quote : ℕ} (front back means rest : List ℕ) → is_quote quote ≡ true → IsBetweenQuotes quote (front ++ 36 ∷ back) means → HasDollarsOf language front → IsFaultAt language at (quote ∷ ((front ++ 36 ∷ back) ++ quote ∷ rest)) (record { offset = at + 1 + length front; kind = LeftOut })
  other_byte : {c : ℕ} {bytes : List ℕ} → (c == 36) ≡ false → is_quote c ≡ false → IsFaultAt language at (c ∷ bytes) (record { offset = at; kind = BadToken })

-- a fault is the first of a line from a place on: the line is white bytes and tokens, each the longest that fits, up to a byte at
-- which nothing begins, which has this fault
pub data IsFirstTokenFault (language : Language) : ℕ → List ℕ → ExprFault → Type 0 where
  here : {at c : ℕ} {bytes : List ℕ} {fault : ExprFault} → NothingBegins language c bytes → IsFaultAt language at (c ∷ bytes) fault → IsFirstTokenFault language at (c ∷ bytes) fault
  after_white : {at c : ℕ} {bytes : List ℕ} {fault : ExprFault} → is_white_byte c ≡ true → IsFirstTokenFault language (at + 1) bytes fault → IsFirstTokenFault language at (c ∷ bytes) fault
  after_token : {at : ℕ} {fault : ExprFault} (kind : TokenKind) (text rest : List ℕ) → IsToken language kind text → IsLongest language text (text ++ rest) → IsFirstTokenFault language (at + length text) rest fault → IsFirstTokenFault language at (text ++ rest) fault
