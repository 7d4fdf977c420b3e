-- One quoted text.
use Rattle.std.specs.Prelude.{Bool, false, List, [], ◌∷◌}
use Rattle.kc_tokens.specs.Token.{Lexeme}
use Rattle.kc_tree_model.specs.Keywords.{is_quoted_kind}

-- whether a list of tokens is one quoted text and nothing else
abbrev pub is_one_quoted : List Lexeme → Bool
is_one_quoted [] = false
is_one_quoted (t ∷ []) = is_quoted_kind t.kind
is_one_quoted (t ∷ u ∷ ts) = false
