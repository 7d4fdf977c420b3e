-- The paths of `source` lines.
use Rattle.std.specs.Prelude.{ℕ, Bool, ◌||◌, ◌==◌, List, ◌∷◌, Option, Some, None, Result, Ok, Err, if◌then◌else◌}
use Rattle.std.specs.List.{list_any}
use Rattle.kc_tokens.specs.Token.{Lexeme}
use Rattle.kc_tokens.specs.QuotedTexts.{quoted_text}
use Rattle.kc_tokens.specs.declared.fault.ExprFault.{ExprFault}
use Rattle.kc_tree_model.specs.Keywords.{is_quoted_kind}
use Rattle.kc_tree_model.specs.Limits.{is_in_list}
use Rattle.kc_macros_model.specs.LineForms.{source_words, sort_of_source}
use Rattle.kc_macros_model.specs.TreeExpansion.{path_meant}

-- whether a path is a pattern, or has a macro: it has a `*`, `?`, `[` or `$`
abbrev pub is_open : (path : List ℕ) → Bool
is_open path = list_any (λ b. b == 42 || (b == 63) || (b == 91) || (b == 36)) path

-- the text of a path: a word as it stands, a quoted text without its quotes
abbrev pub path_text : Lexeme → List ℕ
path_text t = if is_quoted_kind t.kind then quoted_text t.text else t.text

-- the path that a line of a file sources, by the first two of its tokens: by `source`, `rsource`, `osource` or `orsource`
abbrev pub path_of_tokens : (file : List ℕ) → List Lexeme → Option (List ℕ)
path_of_tokens file (word ∷ path ∷ others) =
    if is_in_list word.text source_words then Some (path_meant (sort_of_source word.text) file (path_text path)) else None
path_of_tokens file tokens = None

-- the path, below the folder of a tree, that a line of its file `file` sources, by its tokens; None on another line, and on a line
-- with a fault of its tokens, as a macro
abbrev pub sourced_path : (file : List ℕ) → Result (List Lexeme) ExprFault → Option (List ℕ)
sourced_path file (Err fault) = None
sourced_path file (Ok tokens) = path_of_tokens file tokens
