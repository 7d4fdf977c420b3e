-- The full file of a valuation: the texts of its entries, in their order.
use Rattle.std.specs.Prelude.{ℕ, Bool, true, false, not, ◌&&◌, List, [], ◌∷◌, ◌++◌, nat_eq, codes, if◌then◌else◌}
use Rattle.std.specs.List.{list_any, starts_with}
use Rattle.kc_expr.specs.Expr.{Expr}
use Rattle.kc_tree_model.specs.Trees.{Tree, Entry, definition, choice_begins, menu_begins, menu_ends, comment}
use Rattle.kc_rules_model.specs.declared.values.UnitValue.{UnitValue}
use Rattle.kc_value.specs.Tri.{is_n}
use Rattle.kc_rules_model.specs.SymbolValues.{condition}
use Rattle.kc_rules_model.specs.Reports.{is_written}
use Rattle.kc_tree_model.specs.LogicalLines.{without_white_end}
use Rattle.kc_dotconfig_model.specs.Formats.{FileFormat}
use Rattle.kc_dotconfig_model.specs.ConfigLines.{is_unset_text}
use Rattle.kc_minimal_model.specs.SymbolLine.{ended_line}

-- whether a title comes after a second space in its heading, so that the heading is never read as an unset line: where names have
-- a prefix, if it begins with the prefix; where they have none, if `# ` and the title are an unset line
abbrev pub has_second_space : List ℕ → List ℕ → Bool
has_second_space [] title = is_unset_text (without_white_end title)
has_second_space (b ∷ prefix) title = starts_with nat_eq title (b ∷ prefix)

-- the title in a heading of the full file, after a further space if it has one
abbrev pub heading_title : List ℕ → List ℕ → List ℕ
heading_title prefix title = if has_second_space prefix title then 32 ∷ title else title

-- the heading of a menu or a comment in the full file, from the prefix and the title (Kconfiglib's `write_config`)
abbrev pub heading : List ℕ → List ℕ → List ℕ
heading prefix title = codes "\n#\n# " ++ (heading_title prefix title ++ codes "\n#\n")

-- the line at the end of a menu of this title in the full file, with its newline
abbrev pub end_line : List ℕ → List ℕ
end_line title = codes "# end of " ++ (title ++ 10 ∷ [])

-- whether a condition applies: its value isn't `n`
abbrev pub applies : Tree → List UnitValue → Expr → Bool
applies tree values e = not (is_n (condition tree values e))

-- whether an entry defines the symbol of this number
abbrev pub defines : ℕ → Entry → Bool
defines s (definition t) = nat_eq s t
defines s e = false

-- whether the full file has an entry, given those before it: the first definition of a symbol that is written, and a menu's
-- heading or end or a comment whose conditions aren't `n` (Kconfiglib's `write_config`)
abbrev pub is_entry_written : Tree → List UnitValue → (before : List Entry) → Entry → Bool
is_entry_written tree values before (definition s) = is_written tree values s && not (list_any (defines s) before)
is_entry_written tree values before (choice_begins c) = false
is_entry_written tree values before (menu_begins title dependency visible) = applies tree values dependency && applies tree values visible
is_entry_written tree values before (menu_ends title dependency visible) = applies tree values dependency && applies tree values visible
is_entry_written tree values before (comment title dependency) = applies tree values dependency

-- the text of an entry that the full file has
abbrev pub entry_text : FileFormat → Tree → List UnitValue → Entry → List ℕ
entry_text format tree values (definition s) = ended_line format tree values s
entry_text format tree values (choice_begins c) = []
entry_text format tree values (menu_begins title dependency visible) = heading format.prefix title
entry_text format tree values (menu_ends title dependency visible) = end_line title
entry_text format tree values (comment title dependency) = heading format.prefix title

-- whether an entry defines a symbol
abbrev pub is_symbol : Entry → Bool
is_symbol (definition s) = true
is_symbol e = false

-- whether an entry is the end of a menu
abbrev pub is_menu_end : Entry → Bool
is_menu_end (menu_ends title dependency visible) = true
is_menu_end e = false

-- whether a menu's end is the last of the entries, given the newest first, that the full file has
abbrev pub ends_with_menu : Tree → List UnitValue → List Entry → Bool
ends_with_menu tree values [] = false
ends_with_menu tree values (e ∷ before) = if is_entry_written tree values before e then is_menu_end e else ends_with_menu tree values before

-- the newline of an empty line before an entry of the full file, if it is a symbol that follows a menu's end; nothing otherwise
abbrev pub empty_line_before : Tree → List UnitValue → (before : List Entry) → Entry → List ℕ
empty_line_before tree values before e = if is_symbol e && ends_with_menu tree values before then 10 ∷ [] else []

-- the text that an entry adds to the full file, given the entries before it, the newest first
abbrev pub text_added : FileFormat → Tree → List UnitValue → (before : List Entry) → Entry → List ℕ
text_added format tree values before e = if is_entry_written tree values before e then empty_line_before tree values before e ++ entry_text format tree values e else []

-- the text that entries, in their order, add to the full file, given the entries before them, the newest first
abbrev pub texts_added : FileFormat → Tree → List UnitValue → (before : List Entry) → List Entry → List ℕ
texts_added format tree values before [] = []
texts_added format tree values before (e ∷ entries) = text_added format tree values before e ++ texts_added format tree values (e ∷ before) entries

-- the full file of a valuation, with its newlines (Kconfiglib's `write_config`)
abbrev pub full_file : FileFormat → Tree → List UnitValue → List ℕ
full_file format tree values = texts_added format tree values [] tree.entries
