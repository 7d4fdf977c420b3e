-- Lines of a file, by their numbers, and the texts of messages for them.
use Rattle.std.specs.Prelude.{ℕ, ◌-◌, ◌==◌, List, [], Option, Some, None, slice_get, if◌then◌else◌}
use Rattle.std.specs.Str.{is_utf8}
use Rattle.kc_value.specs.Lines.{pieces}
use Rattle.kc_dotconfig_model.specs.declared.fault.LoadKind.{LoadKind}
use Rattle.kmin_details.specs.LineTexts.{file_line_text}

-- the line of a file with this number, counted from 1, without its newline; None if there is none
abbrev pub line_at : (bytes : List ℕ) (number : ℕ) → Option (List ℕ)
line_at bytes number = if number == 0 then None else slice_get (pieces 10 bytes) (number - 1)

-- the text for a fault at a line of a configuration file, by its kind; empty if there is no such line
abbrev pub file_fault_text : LoadKind → (bytes : List ℕ) (number : ℕ) → List ℕ
file_fault_text kind bytes number = elim (line_at bytes number) [ None ↦ [] | Some line ↦ file_line_text kind line ]

-- a line, if it is UTF-8
abbrev pub utf8_line : Option (List ℕ) → Option (List ℕ)
utf8_line None = None
utf8_line (Some line) = if is_utf8 line then Some line else None
