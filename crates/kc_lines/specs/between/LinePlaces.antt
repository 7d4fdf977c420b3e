-- Physical lines, logical lines and help texts, by places in the bytes of a file.
use Rattle.std.specs.Prelude.{◌≡◌, ℕ, suc, ◌+◌, ◌-◌, ◌<◌, ◌≤◌, ◌++◌, Bool, ◌||◌, nat_le, List, ◌∷◌, length, drop, slice_range, take_while, if◌then◌else◌}
use Rattle.std.specs.declared.borrow.CowSlice.{CowSlice}
use Rattle.std.specs.declared.borrow.CowSlice.TheVariants as slice
use Rattle.kc_tree_model.specs.LogicalLines.{PhysicalLine as LineView, split_at_newlines, physical_lines, is_blank, indentation, joined_bytes, continuation_count, help_line_count}
use Rattle.kc_lines.specs.declared.lines.PhysicalLine.{PhysicalLine}

-- the physical line of a file that begins at a place, without the newline and a carriage return before it
abbrev pub line_of : List ℕ → ℕ → PhysicalLine → LineView
line_of bytes at p = record { text = slice_range bytes at p.end; ended = p.ended }

-- the physical line of a file that begins at a place, without the newline but with a carriage return before it
abbrev pub whole_line : List ℕ → ℕ → PhysicalLine → LineView
whole_line bytes at p = record { text = slice_range bytes at (if p.ended then p.next - 1 else p.next); ended = p.ended }

-- the physical line that begins at `at` in the file is `p`, and the lines of the file after it are those from `p.next` on
pub record IsLineAt (bytes : List ℕ) (at : ℕ) (p : PhysicalLine) : Type 0 where
  pub whole : split_at_newlines (drop at bytes) ≡ whole_line bytes at p ∷ split_at_newlines (drop p.next bytes)
  pub lines : physical_lines (drop at bytes) ≡ line_of bytes at p ∷ physical_lines (drop p.next bytes)
  pub start : at ≤ p.end
  pub end : p.end ≤ p.next
  pub forward : at < p.next
  pub within : p.next ≤ length bytes

-- whether a line is part of a help text of a given indentation: it is indented at least as far, or blank
abbrev pub is_of_help : ℕ → LineView → Bool
is_of_help n l = is_blank l || nat_le n (indentation l)

-- the logical line that begins at `at` has the bytes `text`, takes `lines` physical lines, and ends just before `next`
pub record IsLogicalAt (bytes : List ℕ) (at : ℕ) (text : List ℕ) (next lines : ℕ) : Type 0 where
  pub text_is : text ≡ joined_bytes (physical_lines (drop at bytes))
  pub lines_are : lines ≡ suc (continuation_count (physical_lines (drop at bytes)))
  pub rest : physical_lines (drop next bytes) ≡ drop lines (physical_lines (drop at bytes))
  pub whole : split_at_newlines (drop next bytes) ≡ drop lines (split_at_newlines (drop at bytes))
  pub forward : at < next
  pub within : next ≤ length bytes
  pub few : lines ≤ next - at

-- a text that is a part of a file's bytes begins at `at` there; one of its own may be any
abbrev pub BeginsAt : {Z : Type 0} → (bytes : List ℕ) (at : ℕ) → CowSlice ℕ Z → Type 0
BeginsAt bytes at (slice.Borrowed text) = (at + length text.now ≤ length bytes) × (text.now ≡ slice_range bytes at (at + length text.now))
BeginsAt bytes at (slice.Owned text) = Unit {0}

-- the logical line that begins at `at` goes on at `begin`: it has `lines` physical lines before `begin`, each joined with the
-- next line by a backslash, and `text` is what they give
pub record AreJoined (bytes : List ℕ) (at begin : ℕ) (text : List ℕ) (lines : ℕ) : Type 0 where
  pub text_is : text ++ joined_bytes (physical_lines (drop begin bytes)) ≡ joined_bytes (physical_lines (drop at bytes))
  pub lines_are : begin < length bytes → lines + continuation_count (physical_lines (drop begin bytes)) ≡ continuation_count (physical_lines (drop at bytes))
  pub at_end : begin ≡ length bytes → lines ≡ suc (continuation_count (physical_lines (drop at bytes)))
  pub rest : physical_lines (drop begin bytes) ≡ drop lines (physical_lines (drop at bytes))
  pub whole : split_at_newlines (drop begin bytes) ≡ drop lines (split_at_newlines (drop at bytes))
  pub within : begin ≤ length bytes
  pub few : at + lines ≤ begin

-- the `lines` physical lines from `at` up to `next` are all blank or indented by `columns` or more, and no such line follows them
pub record AreIndented (columns : ℕ) (bytes : List ℕ) (at next lines : ℕ) : Type 0 where
  pub count : lines ≡ length (take_while (is_of_help columns) (physical_lines (drop at bytes)))
  pub whole : split_at_newlines (drop next bytes) ≡ drop lines (split_at_newlines (drop at bytes))
  pub from : at ≤ next
  pub within : next ≤ length bytes
  pub few : at + lines ≤ next

-- the `lines` physical lines from `at` up to `begin` are all blank or indented by `columns` or more
pub record AreIndentedSoFar (columns : ℕ) (bytes : List ℕ) (at begin lines : ℕ) : Type 0 where
  pub count : lines + length (take_while (is_of_help columns) (physical_lines (drop begin bytes))) ≡ length (take_while (is_of_help columns) (physical_lines (drop at bytes)))
  pub whole : split_at_newlines (drop begin bytes) ≡ drop lines (split_at_newlines (drop at bytes))
  pub within : begin ≤ length bytes
  pub few : at + lines ≤ begin

-- the help text that begins at `at` has `lines` physical lines and ends just before `next`
pub record IsHelpAt (bytes : List ℕ) (at next lines : ℕ) : Type 0 where
  pub count : lines ≡ help_line_count (physical_lines (drop at bytes))
  pub whole : split_at_newlines (drop next bytes) ≡ drop lines (split_at_newlines (drop at bytes))
  pub from : at ≤ next
  pub within : next ≤ length bytes
  pub few : at + lines ≤ next
