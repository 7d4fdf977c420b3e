-- The tokens of texts and of members.
use Rattle.std.specs.Prelude.{ℕ, List, ◌∷◌, map, flat_map}
use Rattle.std.specs.Str.Lossy.{utf8_lossy}
use Rattle.json.specs.Json.{Json}
use Rattle.json.specs.Token.{Token, string, key}
use Rattle.json.specs.Tree.{json_tokens}

-- the tokens of texts, with U+FFFD in place of what isn't UTF-8
abbrev pub text_tokens : List (List ℕ) → List Token
text_tokens texts = map (λ text. string (utf8_lossy text)) texts

-- the tokens of a member: a name with its value
abbrev pub member_tokens : List ℕ × Json → List Token
member_tokens m = key m.0 ∷ json_tokens m.1

-- the tokens of members
abbrev pub list_tokens : List (List ℕ × Json) → List Token
list_tokens ms = flat_map member_tokens ms
