-- The help on a kind of message.
use Rattle.std.specs.Prelude.{ℕ, List, [], ◌++◌, ◌∷◌, codes, bytes_eq, if◌then◌else◌}
use Rattle.std.specs.List.{flat_map, list_any}
use Rattle.kmin_commands.specs.declared.messages.Row.{Row}
use Rattle.kmin_commands.specs.declared.messages.Table.{Table}

-- the help lines of a row, if it explains this kind of message; empty if not
abbrev pub row_text : (kind : List ℕ) → Row → List ℕ
row_text kind row = if bytes_eq row.kind.now kind then row.lines.now ++ codes "\n" else []

-- the help lines of the rows that explain this kind of message, in order
abbrev pub rows_text : (kind : List ℕ) → List Row → List ℕ
rows_text kind rows = flat_map (row_text kind) rows

-- the help of a table on this kind of message: its heading and the rows that explain the kind; empty if none does
abbrev pub table_text : (kind : List ℕ) → Table → List ℕ
table_text kind table =
    if list_any (λ (row : Row). bytes_eq row.kind.now kind) table.rows.now
    then table.heading.now ++ (codes "\n" ++ rows_text kind table.rows.now)
    else []

-- the help of all tables on this kind of message, in order
abbrev pub kind_text : (kind : List ℕ) → List Table → List ℕ
kind_text kind tables = flat_map (table_text kind) tables

-- the help on a kind of message if the words of the command line are `help KIND`; empty if not
abbrev pub kind_asked : (words : List (List ℕ)) → List Table → List ℕ
kind_asked (first ∷ second ∷ []) tables = if bytes_eq first (codes "help") then kind_text second tables else []
kind_asked words tables = []
