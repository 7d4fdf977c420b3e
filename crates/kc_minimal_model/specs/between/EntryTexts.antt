-- The full file as it is written entry by entry.
use Rattle.std.specs.Prelude.{ℕ, Bool, true, false, not, ◌&&◌, List, [], ◌∷◌, ◌++◌, nat_eq, if◌then◌else◌}
use Rattle.std.specs.List.{list_any}
use Rattle.kc_tree_model.specs.Trees.{Tree, Entry, definition, choice_begins, menu_begins, menu_ends, comment}
use Rattle.kc_rules_model.specs.declared.values.UnitValue.{UnitValue}
use Rattle.kc_rules_model.specs.Reports.{is_written}
use Rattle.kc_dotconfig_model.specs.Formats.{FileFormat}
use Rattle.kc_minimal_model.specs.SymbolLine.{ended_line}
use Rattle.kc_minimal_model.specs.FullFile.{heading, end_line, applies}

-- The text that entries add to the full file. `seen` has the symbols that earlier entries define; `gap` is whether
-- the last text before is a menu's end. A symbol is written at its first definition.
abbrev pub entry_texts : FileFormat → Tree → List UnitValue → List ℕ → Bool → List Entry → List ℕ
entry_texts format tree values seen gap [] = []
entry_texts format tree values seen gap (definition s ∷ entries) =
    if is_written tree values s && not (list_any (nat_eq s) seen)
    then (if gap then 10 ∷ ended_line format tree values s else ended_line format tree values s)
    ++ entry_texts format tree values (s ∷ seen) false entries
    else entry_texts format tree values (s ∷ seen) gap entries
entry_texts format tree values seen gap (choice_begins c ∷ entries) = entry_texts format tree values seen gap entries
entry_texts format tree values seen gap (menu_begins title dependency visible ∷ entries) =
    if applies tree values dependency && applies tree values visible
    then heading format.prefix title ++ entry_texts format tree values seen false entries
    else entry_texts format tree values seen gap entries
entry_texts format tree values seen gap (menu_ends title dependency visible ∷ entries) =
    if applies tree values dependency && applies tree values visible
    then end_line title ++ entry_texts format tree values seen true entries
    else entry_texts format tree values seen gap entries
entry_texts format tree values seen gap (comment title dependency ∷ entries) =
    if applies tree values dependency
    then heading format.prefix title ++ entry_texts format tree values seen false entries
    else entry_texts format tree values seen gap entries
