-- The text that explains a symbol's value, with the places of lines.
use Rattle.std.specs.Prelude.{ℕ, Bool, List, [], ◌∷◌, ◌++◌, flat_map, Option, Some, None, codes, decimal, option_map, unwrap_or, slice_get, slice_index_or, if◌then◌else◌}
use Rattle.kc_expr.specs.Expr.{Environment}
use Rattle.kc_tree_model.specs.Trees.{Tree, Symbol, ReverseDependency}
use Rattle.kc_tree_model.specs.Blocks.{Position}
use Rattle.kc_rules_model.specs.declared.values.UnitValue.{UnitValue}
use Rattle.kc_rules_model.specs.SymbolValues.{environment, value_of_symbol}
use Rattle.kc_dotconfig_model.specs.declared.format.Strings.{Strings}
use Rattle.kc_reasons_model.specs.declared.cases.Case.{Case}
use Rattle.kc_reasons_model.specs.Reasons.{value_text, name_of_symbol}
use Rattle.kc_located_reasons.specs.LocatedNeeds.{LocatedPart}
use Rattle.kc_reasons_model.specs.PlainReasons.{PlainReasons}
use Rattle.kc_reasons_model.specs.SymbolLines.{SymbolLines}
use Rattle.kc_explanation.specs.Explained.{in_parentheses, low_part_text, inner_line, forcing_text, is_without_prompt, chosen_text, case_text}

-- `PATH:LINE`, by the paths of the tree's files in the order of their numbers
abbrev pub place_text : List (List ℕ) → Position → List ℕ
place_text paths at = slice_index_or paths at.file [] ++ (58 ∷ decimal at.line)

-- a place, if there is one, in parentheses
abbrev pub place_in_parentheses : List (List ℕ) → Option Position → List ℕ
place_in_parentheses paths None = []
place_in_parentheses paths (Some at) = in_parentheses (place_text paths at)

-- `A (n) = B (m) as y (PATH:LINE)`
abbrev pub located_part_text : Strings → Environment → List (List ℕ) → LocatedPart → List ℕ
located_part_text strings names paths p = low_part_text strings names p.part ++ in_parentheses (place_text paths p.at)

-- parts that are all needed: `WORD`, the first part, ` and `, the next one
abbrev pub located_parts_text : Strings → Environment → List (List ℕ) → List ℕ → List LocatedPart → List ℕ
located_parts_text strings names paths word [] = []
located_parts_text strings names paths word (p ∷ ps) =
    word ++ (located_part_text strings names paths p ++ located_parts_text strings names paths (codes " and ") ps)

-- a line for each alternative: the first begins with this word, the others with `or`
abbrev pub located_alternative_lines : Strings → Environment → List (List ℕ) → List ℕ → List (List LocatedPart) → List ℕ
located_alternative_lines strings names paths word [] = []
located_alternative_lines strings names paths word (ps ∷ rest) =
    inner_line (located_parts_text strings names paths word ps) ++ located_alternative_lines strings names paths (codes "or ") rest

-- what the prompts need, if there is one
abbrev pub located_needs_lines : Strings → Environment → List (List ℕ) → (without_prompt : Bool) → List (List LocatedPart) → List ℕ
located_needs_lines strings names paths without_prompt needs = if without_prompt
    then inner_line (codes "it has no prompt")
    else located_alternative_lines strings names paths (codes "needs ") needs

-- `WORD NAME (VALUE) (PATH:LINE)` for the select or imply with a number, if there is one
abbrev pub located_forcing_line : Strings → List (List ℕ) → Tree → List UnitValue → List ℕ → Option ReverseDependency → Option Position → List ℕ
located_forcing_line strings paths tree values word None at = []
located_forcing_line strings paths tree values word (Some f) at = inner_line (word ++ (forcing_text strings tree values f ++ place_in_parentheses paths at))

abbrev pub located_forcing_lines : Strings → List (List ℕ) → Tree → List UnitValue → List ℕ → List ReverseDependency → List Position → List ℕ → List ℕ
located_forcing_lines strings paths tree values word fs places numbers =
    flat_map (λ n. located_forcing_line strings paths tree values word (slice_get fs n) (slice_get places n)) numbers

-- `NAME=VALUE: CASE (PATH:LINE)`
abbrev pub located_first_line : Strings → List (List ℕ) → Tree → List UnitValue → ℕ → Option ℕ → Case → Option Position → List ℕ
located_first_line strings paths tree values s chosen case at =
    name_of_symbol tree s ++ (61 ∷ (value_text strings (value_of_symbol tree values s) ++ (codes ": " ++ (chosen_text tree chosen ++ (case_text case ++ (place_in_parentheses paths at ++ 10 ∷ []))))))

-- the places of what a symbol lacks, and of what gives its value
pub record ReasonPlaces : Type 0 where
  pub given_at : Option Position
  pub needs : List (List LocatedPart)
  pub unmet : List (List LocatedPart)

-- below what a symbol has: what its prompts need, what selects and implies it, and what is unmet
abbrev pub located_details : Strings → List (List ℕ) → Tree → List UnitValue → Symbol → SymbolLines → PlainReasons → ReasonPlaces → List ℕ
located_details strings paths tree values symbol lines r places =
    located_needs_lines strings (environment tree values) paths (is_without_prompt r.hindrance symbol) places.needs
    ++ (located_forcing_lines strings paths tree values (codes "selected by ") symbol.selectors lines.selectors r.selected_by
    ++ (located_forcing_lines strings paths tree values (codes "implied by ") symbol.impliers lines.impliers r.implied_by
    ++ located_alternative_lines strings (environment tree values) paths (codes "unmet: ") places.unmet))

-- of a symbol that is selected against its dependencies: what selects it, by the numbers of the selects that decide, and what is unmet
abbrev pub located_unmet : Strings → List (List ℕ) → Tree → List UnitValue → Symbol → List Position → (selected_by : List ℕ) → List (List LocatedPart) → List ℕ
located_unmet strings paths tree values symbol selectors selected_by parts =
    located_forcing_lines strings paths tree values (codes "selected by ") symbol.selectors selectors selected_by
    ++ located_alternative_lines strings (environment tree values) paths (codes "unmet: ") parts

-- and of the symbol with number s, if the tree has it
abbrev pub located_unmet_at : Strings → List (List ℕ) → Tree → List UnitValue → ℕ → List Position → (selected_by : List ℕ) → List (List LocatedPart) → List ℕ
located_unmet_at strings paths tree values s selectors selected_by parts =
    unwrap_or (option_map (λ symbol. located_unmet strings paths tree values symbol selectors selected_by parts) (slice_get tree.symbols s)) []

-- and of the symbol with number s, if the tree has it
abbrev pub located_details_at : Strings → List (List ℕ) → Tree → List UnitValue → ℕ → SymbolLines → PlainReasons → ReasonPlaces → List ℕ
located_details_at strings paths tree values s lines r places =
    unwrap_or (option_map (λ symbol. located_details strings paths tree values symbol lines r places) (slice_get tree.symbols s)) []
