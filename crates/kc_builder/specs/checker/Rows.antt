-- The stored rows of symbols, from their summaries.
use Rattle.std.specs.Prelude.{◌≡◌, ℕ, ◌<◌, List, [], ◌∷◌, length, Option, Some, None, option_map, unwrap_or, slice_get}
use Rattle.kc_expr.specs.between.Arena.{Exprs}
use Rattle.kc_tree_model.specs.Blocks.{Group}
use Rattle.kc_tree_model.specs.Contents.{Contents, kind_in_tree, type_given, first_definition, choice_of_symbol}
use Rattle.kc_parser.specs.declared.listing.Group.{Group as CodeGroup}
use Rattle.kc_parser.specs.between.SymbolTable.{text_of_name}
use Rattle.kc_tree.specs.declared.rows.SymbolRow.{SymbolRow}
use Rattle.kc_checks.specs.declared.summary.SymbolSummary.{SymbolSummary}

-- the file's number and the line of a group; two zeros for `None`
abbrev pub place_of_group : Option CodeGroup → ℕ × ℕ
place_of_group None = (0, 0)
place_of_group (Some g) = (g.file, g.line)

-- the file's number and the line of the group with this number; two zeros if there is none
abbrev pub place_of_group_number : List CodeGroup → Option ℕ → ℕ × ℕ
place_of_group_number groups None = (0, 0)
place_of_group_number groups (Some i) = place_of_group (slice_get groups i)

-- the stored row of a symbol, from its name's number and its summary
abbrev pub row_of_symbol : List CodeGroup → ℕ → SymbolSummary → SymbolRow
row_of_symbol groups name a = record { name = name; kind = kind_in_tree a.choice a.given; file = (place_of_group_number groups a.first).0; line = (place_of_group_number groups a.first).1; choice = a.choice }

-- the stored rows of symbols, from their names' numbers and their summaries
abbrev pub rows_of_symbols : List CodeGroup → List ℕ → List SymbolSummary → List SymbolRow
rows_of_symbols groups [] abouts = []
rows_of_symbols groups (n ∷ ns) [] = []
rows_of_symbols groups (n ∷ ns) (a ∷ abouts) = row_of_symbol groups n a ∷ rows_of_symbols groups ns abouts

-- a row has the name, the type, the file and line of the first definition, and the choice of the symbol of this name
pub record IsRowOf (e : Exprs) (c : Contents) (name : List ℕ) (r : SymbolRow) : Type 0 where
  pub held : r.name < length e.names
  pub name_is : text_of_name e r.name ≡ name
  pub kind_is : r.kind ≡ kind_in_tree (choice_of_symbol c name) (type_given c name)
  pub file_is : r.file ≡ unwrap_or (option_map (λ (g : Group). g.at.file) (first_definition c name)) 0
  pub line_is : r.line ≡ unwrap_or (option_map (λ (g : Group). g.at.line) (first_definition c name)) 0
  pub choice_is : r.choice ≡ choice_of_symbol c name

-- the rows represent, one by one, the symbols of a list of names
abbrev pub AreRowsOf : Exprs → Contents → List (List ℕ) → List SymbolRow → Type 0
AreRowsOf e c [] [] = Unit {0}
AreRowsOf e c (name ∷ names) (r ∷ rows) = IsRowOf e c name r × AreRowsOf e c names rows
AreRowsOf e c names rows = ⊥
