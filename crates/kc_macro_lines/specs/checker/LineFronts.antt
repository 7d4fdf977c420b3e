-- The first tokens of a line, and the tokens that follow.
use Rattle.std.specs.Prelude.{ℕ, ◌<◌, Bool, List, ◌++◌, length}
use Rattle.kc_macros_model.specs.Programs.{Place, Program, returns, ◌>>=◌}
use Rattle.kc_macros_model.specs.Variables.{Bindings}
use Rattle.kc_macros_model.specs.LineTokens.{LineToken, run, line_tokens}
use Rattle.kc_macros_model.specs.WrittenTokens.{WrittenToken}
use Rattle.kc_macros_model.specs.Assignments.{AssignedText, assigned, LineContent, assigns, tokens, line_content}
use Rattle.kc_macro_lines.specs.declared.assignment_syntax.FoundAssignment.{FoundAssignment}
use Rattle.kc_macro_lines.specs.declared.line_content.LineFront.{LineFront}
use Rattle.kc_macro_lines.specs.declared.line_content.ContentStep.{ContentStep}
use Rattle.kc_macro_lines.specs.declared.line_content.ContentStep.TheVariants as steps
use Rattle.kc_macro_forms.specs.between.WrittenTokens.{tokens_of}

-- the token `run` with this text, which may be the name of an assignment
abbrev pub name_token : List ℕ → LineToken
name_token s = run s

-- the operator and the text of an assignment that the code found in a line
abbrev pub assigned_of : FoundAssignment → AssignedText
assigned_of f = assigned f.operator f.text.now

-- the content of a line with more written tokens before its own; an assignment gets none
abbrev pub with_tokens : List WrittenToken → LineContent → LineContent
with_tokens before (tokens ts) = tokens (before ++ ts)
with_tokens before (assigns name a) = assigns name a

-- the program that gives the content of a line, by its first tokens, already written, and the tokens that follow
abbrev pub content_left : Place → Bindings → List WrittenToken → (may_assign : Bool) → List LineToken → Program LineContent
content_left at b before may_assign ts = line_content at b may_assign ts >>= λ rest. returns (with_tokens before rest)

-- the program that gives the content of a line, by the code's `LineFront` of its first tokens and the tokens that follow
abbrev pub front_left : Place → Bindings → LineFront → List LineToken → Program LineContent
front_left at b front ts = content_left at b (tokens_of front.tokens.items) front.may_assign ts

-- the program that gives the content of a line after a step of the code along the line
abbrev pub step_left : Place → Bindings → LineFront → ContentStep → Program LineContent
step_left at b front (steps.Rest after) = front_left at b front (line_tokens 0 after.now)
step_left at b front (steps.Assigns a) = returns (assigns a.name (assigned a.operator a.text))

-- after a step of the code along a line, fewer bytes than this number are left to read, or the line is an assignment
abbrev pub IsShorter : ContentStep → ℕ → Type 0
IsShorter (steps.Rest after) n = length after.now < n
IsShorter (steps.Assigns a) n = Unit {0}
