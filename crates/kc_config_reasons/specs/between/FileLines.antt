-- The last lines of a configuration file that say something of a symbol, as the code has them.
use Rattle.std.specs.Prelude.{◌≡◌, ℕ, nat_lt, List, Option, Some, None, option_map, if◌then◌else◌}
use Rattle.std.specs.Map.{lookup}
use Rattle.std.specs.BTreeMap.{is_at}
use Rattle.std.specs.Ordering.{nat_cmp}
use Rattle.kc_tree_model.specs.Trees.{Tree}
use Rattle.kc_tree_model.specs.TreeLookup.{unit_of}
use Rattle.kc_dotconfig_model.specs.ConfigLines.{LineMeaning}
use Rattle.kc_reasons_model.specs.AssigningLines.{AssigningLine, assigning_line}
use Rattle.kc_config_reasons.specs.declared.file_lines.AskingLine.{AskingLine}
use Rattle.kc_config_reasons.specs.declared.file_lines.FileLines.{FileLines}

-- a line that assigns, as the definitions have it
abbrev pub line_view : AskingLine → AssigningLine
line_view l = record { number = l.number; user = l.user }

-- the line that is kept under a number, or none
abbrev pub line_at : List (ℕ × AskingLine) → ℕ → Option AskingLine
line_at kept n = lookup (is_at (nat_cmp n)) kept

-- of two lines, if there are any, the one that comes later
abbrev pub later_line : Option AskingLine → Option AskingLine → Option AskingLine
later_line None b = b
later_line (Some a) None = Some a
later_line (Some a) (Some b) = if nat_lt a.number b.number then Some b else Some a

-- the line that is kept for symbol s of unit u, or none
abbrev pub line_kept : FileLines → (u s : ℕ) → Option AskingLine
line_kept f u s = later_line (line_at f.units.entries u) (line_at f.members.entries s)

-- of each symbol of a tree the last line with something of it is kept, from lines with these meanings
abbrev pub KeepsLines : Tree → List LineMeaning → FileLines → Type 0
KeepsLines tree meanings f = (s : ℕ) → option_map line_view (line_kept f (unit_of tree s) s) ≡ assigning_line (unit_of tree s) s 1 meanings
