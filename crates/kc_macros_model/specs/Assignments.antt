-- Assignments of macro variables, and a line as an assignment or as written tokens.
use Rattle.std.specs.Prelude.{ℕ, Bool, true, false, not, ◌&&◌, ◌||◌, ◌==◌, List, [], ◌∷◌, ◌++◌, drop, Option, Some, None, option_map, if◌then◌else◌}
use Rattle.std.specs.List.{list_any, prefix_len}
use Rattle.kc_tokens.specs.Token.{is_white_byte}
use Rattle.kc_macros_model.specs.declared.operator.Operator.{Operator}
use Rattle.kc_macros_model.specs.declared.operator.Operator.TheVariants.{SetsNow, Appends, Sets}
use Rattle.kc_macros_model.specs.Programs.{Place, Program, returns, stops, ◌>>=◌}
use Rattle.kc_macros_model.specs.Variables.{Value, value_length, joined_values, Variable, simple, recursive, Bindings}
use Rattle.kc_macros_model.specs.Expansion.{spends, unless_too_long, text_value}
use Rattle.kc_macros_model.specs.LineTokens.{LineToken, trivia, run, token_bytes, bytes_of_tokens}
use Rattle.kc_macros_model.specs.WrittenTokens.{is_trivia_sort, is_unknown_sort, is_keyword, WrittenToken, token_of_text, run_value, written_token}

-- the operator of a macro assignment and the text after it
pub record AssignedText : Type 0 where
  pub operator : Operator
  pub text : List ℕ

-- a macro assignment's operator with the text after it
abbrev pub assigned : Operator → List ℕ → AssignedText
assigned operator text = record { operator = operator; text = text }

-- a text without the bytes at its front that pass a test
abbrev pub without_front : (ℕ → Bool) → List ℕ → List ℕ
without_front p s = drop (prefix_len p s) s

-- whether a byte is a space or a tab
abbrev pub is_blank_byte : ℕ → Bool
is_blank_byte c = c == 32 || (c == 9)

-- the assignment operator at the front of a text, and the bytes after it; `None` if the text begins with no operator
abbrev pub operator_at : List ℕ → Option AssignedText
operator_at [] = None
operator_at (c ∷ []) = if c == 61 then Some (assigned Sets []) else None
operator_at (c ∷ d ∷ s) =
    if c == 61 then Some (assigned Sets (d ∷ s))
    else if c == 58 && (d == 61) then Some (assigned SetsNow s)
    else if c == 43 && (d == 61) then Some (assigned Appends s)
    else None

-- the assignment that has this token as its name, if any: the token is a run but no keyword, and the tokens after it begin with
-- an operator; blanks after the operator are dropped
abbrev pub assignment_to : LineToken → List LineToken → Option AssignedText
assignment_to (run s) ts = if is_keyword s then None else option_map (λ (a : AssignedText). assigned a.operator (without_front is_blank_byte a.text)) (operator_at (without_front is_white_byte (bytes_of_tokens ts)))
assignment_to t ts = None

-- the assignment that has this token as its name, if any; `may_assign` if only white, comments and empty tokens precede it
abbrev pub assignment_at : (may_assign : Bool) → LineToken → List LineToken → Option AssignedText
assignment_at true t ts = assignment_to t ts
assignment_at false t ts = None

-- the content of a logical line: an assignment of a text to a name, or written tokens
pub data LineContent : Type 0 where
  assigns : (name : List ℕ) → AssignedText → LineContent
  tokens : List WrittenToken → LineContent

-- the content of a line with one more token before its written tokens; an assignment stays as it is
abbrev pub with_token : WrittenToken → LineContent → LineContent
with_token t (tokens ts) = tokens (t ∷ ts)
with_token t (assigns name a) = assigns name a

-- whether a written token is trivia: white, a comment, or a token whose value is empty
abbrev pub is_trivia : WrittenToken → Bool
is_trivia t = is_trivia_sort t.sort

-- whether a written token depends on a question without an answer
abbrev pub is_unknown : WrittenToken → Bool
is_unknown t = is_unknown_sort t.sort

-- whether a token of a logical line is white or a comment
abbrev pub is_trivia_token : LineToken → Bool
is_trivia_token (trivia s) = true
is_trivia_token t = false

-- whether a token is unknown, with only trivia before it and other tokens after it: the line may turn out to be an assignment
abbrev pub is_open_front : (may_assign : Bool) → WrittenToken → List LineToken → Bool
is_open_front may_assign w ts = may_assign && is_unknown w && list_any (λ t. not (is_trivia_token t)) ts

-- a line's content by the value of an assignment's name: for an empty name the given content; an unknown name stops the reading
abbrev pub assignment_or : Program LineContent → AssignedText → Value → Program LineContent
assignment_or rest a None = stops
assignment_or rest a (Some []) = rest
assignment_or rest a (Some (c ∷ name)) = returns (assigns (c ∷ name) a)

-- the content of a line, given its tokens; the reading stops where it isn't known whether the line is an assignment
abbrev pub line_content : Place → Bindings → (may_assign : Bool) → List LineToken → Program LineContent
line_content at b may_assign [] = returns (tokens [])
line_content at b may_assign (t ∷ ts) =
    elim (assignment_at may_assign t ts) [
      | Some a ↦ run_value at b (token_bytes t) >>= assignment_or (line_content at b true ts >>= λ rest. returns (with_token (token_of_text []) rest)) a
      | None ↦ written_token at b t >>= λ w.
          elim (is_open_front may_assign w ts) [ true ↦ stops | false ↦ line_content at b (may_assign && is_trivia w) ts >>= λ rest. returns (with_token w rest) ]
    ]

-- stores a variable whose value or unexpanded text is `value`: a fault if it is too long, else each of its bytes counts as work
abbrev pub stored : Place → Value → Variable → Program Variable
stored at value v = unless_too_long at (value_length value) (spends at (value_length value) (returns v))

-- stores a value as a simple variable
abbrev pub stored_simple : Place → Value → Program Variable
stored_simple at value = stored at value (simple value)

-- stores a text as a recursive variable
abbrev pub stored_recursive : Place → List ℕ → Program Variable
stored_recursive at text = stored at (Some text) (recursive text)

-- the variable of a name after an assignment, given its earlier variable, if any; `+=` keeps a variable simple or recursive
abbrev pub variable_assigned : Place → Bindings → Operator → List ℕ → Option Variable → Program Variable
variable_assigned at b SetsNow text before = text_value at b text >>= stored_simple at
variable_assigned at b Appends text (Some (simple value)) = text_value at b text >>= λ more. stored_simple at (joined_values value (joined_values (Some (32 ∷ [])) more))
variable_assigned at b Appends text (Some (recursive before)) = stored_recursive at (before ++ 32 ∷ text)
variable_assigned at b Appends text None = stored_recursive at text
variable_assigned at b Sets text before = stored_recursive at text
