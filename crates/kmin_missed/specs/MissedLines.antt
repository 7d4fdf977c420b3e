-- The lines of `missed --long`.
use Rattle.std.specs.Prelude.{ℕ, Bool, List, [], ◌∷◌, ◌++◌, drop, flat_map, Option, Some, None, option_map, unwrap_or, slice_get, codes, ◌==◌, if◌then◌else◌}
use Rattle.std.specs.List.{list_any}
use Rattle.kc_value.specs.declared.value.Kind.{Kind}
use Rattle.kc_value.specs.Lines.{pieces}
use Rattle.kc_tree_model.specs.Trees.{Symbol}
use Rattle.kc_tree_model.specs.Contents.{contents_of}
use Rattle.kc_rules_model.specs.SymbolValues.{value_of_symbol}
use Rattle.kc_dotconfig_model.specs.MissedAssignments.{missed}
use Rattle.kc_reasons_model.specs.AssigningLines.{AssigningPlace, assigning_place}
use Rattle.kc_reasons_model.specs.OverriddenLines.{OverriddenPlace, places_of, overridden}
use Rattle.kc_reasons_model.specs.PlainReasons.{PlainReasons}
use Rattle.kc_reasons_model.specs.Reasons.{value_text, name_of_symbol}
use Rattle.kc_reasons_model.specs.SymbolLines.{SymbolLines, lines_of_symbol}
use Rattle.kc_explanation.specs.Located.{located_details}
use Rattle.kc_explanation.specs.Asked.{line_place, asked_value, why_text}
use Rattle.kmin_explain.specs.Explanations.{SourcesModel, unit_for, path_of_file, reason_places, reasons_of, all_symbols}

-- inner lines, each without the spaces before it, in one line: the first after this text, each further one after `; `
abbrev pub in_one_line : (front : List ℕ) → (lines : List (List ℕ)) → List ℕ
in_one_line front [] = []
in_one_line front (line ∷ lines) = front ++ (drop 2 line ++ in_one_line (codes "; ") lines)

-- the symbols that don't have their assigned values
abbrev pub missed_of : SourcesModel → List ℕ
missed_of g = missed g.tree g.users g.values

-- `VALUE: WHY; DETAIL; DETAIL..`, by the reasons of symbol s and its lines: its value, why the line isn't taken, and what `explain` says
-- below that
abbrev pub cause_by : SourcesModel → ℕ → Symbol → PlainReasons → SymbolLines → List ℕ
cause_by g s symbol r lines =
    value_text g.strings (value_of_symbol g.tree g.values s) ++ (codes ": " ++ (why_text r.hindrance
    ++ in_one_line (codes "; ") (pieces 10 (located_details g.strings g.tree_paths g.tree g.values symbol lines r (reason_places g s symbol lines r.case)))))

-- that of symbol s
abbrev pub cause : SourcesModel → ℕ → Symbol → List ℕ
cause g s symbol = cause_by g s symbol (reasons_of g s symbol) (lines_of_symbol g.tree.language (contents_of g.read) symbol.name)

-- and of the symbol with number s, if the tree has it
abbrev pub cause_at : SourcesModel → ℕ → List ℕ
cause_at g s = unwrap_or (option_map (cause g s) (slice_get g.tree.symbols s)) []

-- `PATH:LINE: NAME: ASKED -> `, of a line of a configuration file
abbrev pub asking_front : SourcesModel → ℕ → Kind → AssigningPlace → List ℕ
asking_front g s kind p =
    line_place (path_of_file g p.file) p.line.number ++ (codes ": " ++ (name_of_symbol g.tree s ++ (codes ": "
    ++ (asked_value g.strings g.tree s kind p.line.user ++ codes " -> "))))

-- `PATH:LINE: NAME: ASKED -> overridden by PATH:LINE`
abbrev pub overridden_row : SourcesModel → ℕ → Kind → OverriddenPlace → List ℕ
overridden_row g s kind p =
    asking_front g s kind p.place ++ (codes "overridden by " ++ (line_place (path_of_file g p.by.file) p.by.line.number ++ 10 ∷ []))

-- `PATH:LINE: NAME: ASKED -> CAUSE`, of the line that counts, if there is one
abbrev pub missed_row : SourcesModel → ℕ → Kind → Option AssigningPlace → List ℕ
missed_row g s kind None = []
missed_row g s kind (Some p) = asking_front g s kind p ++ (cause_at g s ++ 10 ∷ [])

-- of each configuration file whose last line on symbol s a later one overrides that line, then the line that counts, if the symbol is
-- missed
abbrev pub missed_rows : SourcesModel → (is_missed : Bool) → ℕ → Symbol → List ℕ
missed_rows g is_missed s symbol =
    flat_map (overridden_row g s symbol.kind) (overridden (places_of (unit_for g s) s 0 g.meanings))
    ++ (if is_missed then missed_row g s symbol.kind (assigning_place (unit_for g s) s 0 g.meanings) else [])

-- and of the symbol with number s, if the tree has it
abbrev pub missed_rows_at : SourcesModel → ℕ → List ℕ
missed_rows_at g s = unwrap_or (option_map (missed_rows g (list_any (λ m. m == s) (missed_of g)) s) (slice_get g.tree.symbols s)) []

-- the text of `missed --long`, in order of first definition
abbrev pub missed_lines : SourcesModel → List ℕ
missed_lines g = flat_map (missed_rows_at g) (all_symbols g.tree)
