-- The lines of a file, by the places where they begin.
use Rattle.std.specs.Prelude.{◌≡◌, ℕ, ◌+◌, ◌≤◌, Bool, false, List, [], ◌∷◌, length, drop}
use Rattle.kc_tree_model.specs.LogicalLines.{PhysicalLine, is_continued, split_at_newlines}
use Rattle.kc_macros_model.specs.TreeExpansion.{help_after}
use Rattle.kc_expansion.specs.declared.line_places.LineStart.{LineStart}

-- whether the first of some physical lines is continued on the next one; false without a line
abbrev pub is_first_continued : List PhysicalLine → Bool
is_first_continued [] = false
is_first_continued (l ∷ ls) = is_continued l

-- `past` is the beginning of the line after the help text that begins at `after`, or the same place as `after` where none begins
pub record IsHelpPassed (bytes : List ℕ) (after : LineStart) (begins_help : Bool) (past : LineStart) : Type 0 where
  pub whole : split_at_newlines (drop past.at bytes) ≡ drop (help_after begins_help (split_at_newlines (drop after.at bytes))) (split_at_newlines (drop after.at bytes))
  pub number : past.number ≡ after.number + help_after begins_help (split_at_newlines (drop after.at bytes))
  pub from : after.at ≤ past.at
  pub within : past.at ≤ length bytes
  pub few : past.number + after.at ≤ after.number + past.at
