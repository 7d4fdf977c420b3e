-- Laws of the second expansion of a line: nothing is left to expand, and the line stays.
use Rattle.std.specs.Prelude.{◌≡◌, ℕ, Bool, true, false, List, None}
use Rattle.std.specs.List.{list_all, list_any}
use Rattle.kc_macros_model.specs.Programs.{Place, returns}
use Rattle.kc_macros_model.specs.Variables.{Bindings}
use Rattle.kc_macros_model.specs.LineTokens.{line_tokens}
use Rattle.kc_macros_model.specs.declared.token_sort.TokenSort.TheVariants.{Other}
use Rattle.kc_macros_model.specs.WrittenTokens.{WrittenToken}
use Rattle.kc_macros_model.specs.Assignments.{tokens, is_unknown, line_content}
use Rattle.kc_macros_model.specs.EnvironmentLines.{environment_asked}
use Rattle.kc_macros_model.specs.LineForms.{form_of, line_bytes}
use Rattle.kc_macros_model.specs.ReadingStates.{ReadingState, written_line}
use Rattle.kc_macros_model.specs.TreeExpansion.{SourceReader, line_written}
use Rattle.kc_macros_model.specs.Worlds.{World, returned}
use Rattle.kc_macros_model.specs.ExpansionRules.{ending_in}
use Rattle.kc_macros_model.specs.PlainLines.{has_dollar, is_kept_token, is_assignment, is_plain_form, tokens_as_they_are, is_before_help}

-- whether a written token has a `$` that is neither in quotes nor in a comment, which the reader refuses
abbrev pub is_left_with_dollar : WrittenToken → Bool
is_left_with_dollar t = elim t.sort [ Other ↦ has_dollar t.bytes | _ ↦ false ]

-- the written tokens of an expanded line, read again, have nothing to expand, unless one is unknown or has a `$` outside quotes
abbrev pub NothingIsLeftToExpand : Type 0
NothingIsLeftToExpand = (w : World) (at : Place) (b : Bindings) (text : List ℕ) (ts : List WrittenToken)
    → ending_in w (line_content at b true (line_tokens 0 text)) ≡ returned (tokens ts)
    → list_any is_unknown ts ≡ false → list_any is_left_with_dollar ts ≡ false → list_all is_kept_token (line_tokens 0 (line_bytes ts)) ≡ true

-- an expanded line without unknown tokens or a bare `$` stays when expanded again, unless it is an assignment, is rewritten, or
-- asks a variable as `option env="X"` does
abbrev pub WrittenLinesStay : Type 0
WrittenLinesStay = (w : World) (at : Place) (b : Bindings) (text : List ℕ) (ts : List WrittenToken)
    → ending_in w (line_content at b true (line_tokens 0 text)) ≡ returned (tokens ts)
    → list_any is_unknown ts ≡ false → list_any is_left_with_dollar ts ≡ false
    → environment_asked (line_bytes ts) ≡ None → is_assignment (line_tokens 0 (line_bytes ts)) ≡ false → is_plain_form (form_of (tokens_as_they_are (line_bytes ts))) ≡ true
    → (sub : SourceReader) (again : Place) (continued : Bool) (s : ReadingState)
    → line_written sub again continued (line_bytes ts) s ≡ returns (written_line (line_bytes ts) (is_before_help (line_bytes ts)) s)
