-- The quoted spelling of a text, and texts between quotes ("Menu dependencies", constant symbols).
use Rattle.std.specs.Prelude.{◌≡◌, ℕ, suc, List, [], ◌∷◌, ◌++◌, Bool, true, false, ◌||◌, ◌==◌, Option, Some, None, option_map, if◌then◌else◌}
use Rattle.std.specs.List.{flat_map}

-- the bytes that spell a byte between quotes: a `"` or a backslash with a backslash in front, any other byte alone
abbrev pub escaped_byte : ℕ → List ℕ
escaped_byte c = if c == 34 || (c == 92) then 92 ∷ c ∷ [] else c ∷ []

-- the quoted spelling of a text: between two `"`, with a backslash before each `"` and each backslash
abbrev pub quoted : List ℕ → List ℕ
quoted text = 34 ∷ (flat_map escaped_byte text ++ 34 ∷ [])

-- bytes stand between two quotes, and represent a text: a pair of a backslash and a character represents that character,
-- any other character than the quote represents itself
pub data IsBetweenQuotes (quote : ℕ) : List ℕ → List ℕ → Type 0 where
  none : IsBetweenQuotes quote [] []
  plain : {c : ℕ} {bs cs : List ℕ} → (c == quote) ≡ false → (c == 92) ≡ false → IsBetweenQuotes quote bs cs → IsBetweenQuotes quote (c ∷ bs) (c ∷ cs)
  pair : {c : ℕ} {bs cs : List ℕ} → IsBetweenQuotes quote bs cs → IsBetweenQuotes quote (92 ∷ c ∷ bs) (c ∷ cs)

-- a text is a quoted text that represents another text: bytes between two `"`, which represent the latter
abbrev pub IsQuoted : List ℕ → List ℕ → Type 0
IsQuoted text means = (body : List ℕ) × (text ≡ 34 ∷ (body ++ 34 ∷ [])) × IsBetweenQuotes 34 body means

-- the count of bytes after an opening quote up to and including the closing one; a byte after a backslash closes nothing, nor
-- does the first byte if the flag is true
abbrev pub closing : ℕ → Bool → List ℕ → Option ℕ
closing quote escaped [] = None
closing quote true (c ∷ cs) = option_map suc (closing quote false cs)
closing quote false (c ∷ cs) = if c == quote then Some 1 else option_map suc (closing quote (c == 92) cs)

-- the text that bytes between quotes represent: a pair of a backslash and a character represents that character; the flag says
-- that a backslash is before the first character
abbrev pub unescaped : Bool → List ℕ → List ℕ
unescaped escaped [] = []
unescaped true (c ∷ cs) = c ∷ unescaped false cs
unescaped false (c ∷ cs) = if c == 92 then unescaped true cs else c ∷ unescaped false cs
