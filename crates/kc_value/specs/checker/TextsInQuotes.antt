-- A text in quotes, by the bytes between them.
use Rattle.std.specs.Prelude.{◌≡◌, ℕ, List, [], ◌∷◌, ◌++◌, false}
use Rattle.kc_value.specs.QuotedTexts.{IsBetweenQuotes, unescaped}

-- a text is bytes between two `"`, and they represent the text that `unescaped` gives of them
pub record HasQuotes (text body : List ℕ) : Type 0 where
  pub parts : text ≡ 34 ∷ (body ++ 34 ∷ [])
  pub is_between_quotes : IsBetweenQuotes 34 body (unescaped false body)
