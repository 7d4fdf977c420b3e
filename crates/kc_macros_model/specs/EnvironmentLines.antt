-- Lines `option env="X"`: each asks the environment variable X as a reference to it does.
use Rattle.std.specs.Prelude.{ℕ, Bool, false, not, List, [], ◌∷◌, ◌++◌, filter, Option, Some, None, bytes_eq, codes, if◌then◌else◌}
use Rattle.kc_macros_model.specs.Variables.{is_environment_name}
use Rattle.kc_macros_model.specs.LineTokens.{LineToken, run, quoted, other, line_tokens}
use Rattle.kc_macros_model.specs.Assignments.{is_trivia_token}

-- the tokens of a logical line without white and comments
abbrev pub solid_tokens : List LineToken → List LineToken
solid_tokens ts = filter (λ t. not (is_trivia_token t)) ts

-- whether a token is this run
abbrev pub is_run : List ℕ → LineToken → Bool
is_run word (run s) = bytes_eq s word
is_run word t = false

-- whether a token is `=`
abbrev pub is_equals_sign : LineToken → Bool
is_equals_sign (other s) = bytes_eq s (codes "=")
is_equals_sign t = false

-- the name between the quotes of a token, if it may be that of an environment variable
abbrev pub quoted_name : LineToken → Option (List ℕ)
quoted_name (quoted quote s) = if is_environment_name s then Some s else None
quoted_name t = None

-- the variable that `option env="X"` asks, by the tokens after `=`, which are a quoted name
abbrev pub asked_after_sign : List LineToken → Option (List ℕ)
asked_after_sign [] = None
asked_after_sign (t ∷ []) = quoted_name t
asked_after_sign (t ∷ u ∷ ts) = None

-- the variable that `option env="X"` asks, by the tokens after `env`
abbrev pub asked_after_env : List LineToken → Option (List ℕ)
asked_after_env [] = None
asked_after_env (t ∷ ts) = if is_equals_sign t then asked_after_sign ts else None

-- the variable that `option env="X"` asks, by the tokens after `option`
abbrev pub asked_after_option : List LineToken → Option (List ℕ)
asked_after_option [] = None
asked_after_option (t ∷ ts) = if is_run (codes "env") t then asked_after_env ts else None

-- the variable that a line asks if it is `option env="X"`, by its tokens without white and comments
abbrev pub asked_by : List LineToken → Option (List ℕ)
asked_by [] = None
asked_by (t ∷ ts) = if is_run (codes "option") t then asked_after_option ts else None

-- the environment variable X that a line `option env="X"` asks; `None` for any other line
abbrev pub environment_asked : List ℕ → Option (List ℕ)
environment_asked text = asked_by (solid_tokens (line_tokens 0 text))

-- the line `option env` with a reference to a variable in quotes
abbrev pub environment_line : List ℕ → List ℕ
environment_line name = codes "option env \"$(" ++ (name ++ codes ")\"")

-- a logical line as the expansion reads it: `option env="X"` as `option env "$(X)"`, any other as it is
abbrev pub meant_line : List ℕ → List ℕ
meant_line text = elim (environment_asked text) [ None ↦ text | Some name ↦ environment_line name ]
