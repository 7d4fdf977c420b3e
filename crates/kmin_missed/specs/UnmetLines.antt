-- The lines of `check --long`.
use Rattle.std.specs.Prelude.{ℕ, List, [], ◌∷◌, ◌++◌, flat_map, option_map, unwrap_or, slice_get, codes}
use Rattle.kc_value.specs.Lines.{pieces}
use Rattle.kc_tree_model.specs.Trees.{Symbol}
use Rattle.kc_tree_model.specs.Blocks.{Position}
use Rattle.kc_tree_model.specs.Contents.{contents_of}
use Rattle.kc_rules_model.specs.Reports.{unmet}
use Rattle.kc_rules_model.specs.SymbolValues.{value_of_symbol}
use Rattle.kc_reasons_model.specs.PlainReasons.{PlainReasons}
use Rattle.kc_reasons_model.specs.Reasons.{value_text, name_of_symbol}
use Rattle.kc_reasons_model.specs.SymbolLines.{SymbolLines, lines_of_symbol}
use Rattle.kc_located_reasons.specs.LocatedNeeds.{dependencies_lack_at}
use Rattle.kc_explanation.specs.Located.{place_text, located_unmet}
use Rattle.kmin_explain.specs.Explanations.{SourcesModel, reasons_of}
use Rattle.kmin_missed.specs.MissedLines.{in_one_line}

-- the place of a symbol's first definition
abbrev pub first_place : Symbol → Position
first_place symbol = record { file = symbol.file; line = symbol.line }

-- `PATH:LINE: NAME: VALUE: selected by NAME (y) (PATH:LINE); unmet: PART (n) (PATH:LINE)`, by the reasons of symbol s and its lines:
-- the place of its first definition, its value, what selects it, and what is unmet
abbrev pub unmet_row_by : SourcesModel → ℕ → Symbol → PlainReasons → SymbolLines → List ℕ
unmet_row_by g s symbol r lines =
    place_text g.tree_paths (first_place symbol) ++ (codes ": " ++ (name_of_symbol g.tree s ++ (codes ": " ++ (value_text g.strings (value_of_symbol g.tree g.values s)
    ++ (in_one_line (codes ": ") (pieces 10 (located_unmet g.strings g.tree_paths g.tree g.values symbol lines.selectors r.selected_by (dependencies_lack_at g.tree g.values symbol lines)))
    ++ 10 ∷ [])))))

abbrev pub unmet_row : SourcesModel → ℕ → Symbol → List ℕ
unmet_row g s symbol = unmet_row_by g s symbol (reasons_of g s symbol) (lines_of_symbol g.tree.language (contents_of g.read) symbol.name)

-- and of the symbol with number s, if the tree has it
abbrev pub unmet_row_at : SourcesModel → ℕ → List ℕ
unmet_row_at g s = unwrap_or (option_map (unmet_row g s) (slice_get g.tree.symbols s)) []

-- the symbols that are selected against their dependencies
abbrev pub unmet_of : SourcesModel → List ℕ
unmet_of g = unmet g.tree g.values

-- the text of `check --long`, in order of first definition
abbrev pub unmet_lines : SourcesModel → List ℕ
unmet_lines g = flat_map (unmet_row_at g) (unmet_of g)
