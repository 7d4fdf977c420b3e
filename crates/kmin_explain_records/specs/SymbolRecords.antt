-- The record of `explain` for a symbol: one JSON object, with its members in this order.
use Rattle.std.specs.Prelude.{ℕ, Bool, List, [], ◌∷◌, ◌++◌, map, flat_map, Option, Some, None, option_map, option_to_list, unwrap_or, slice_get, slice_index_or, codes, if◌then◌else◌}
use Rattle.json.specs.Json.{Json, null, string}
use Rattle.kc_value.specs.declared.value.Kind.{Kind}
use Rattle.kc_expr.specs.Expr.{Environment, value}
use Rattle.kc_value.specs.Tri.{letter}
use Rattle.kc_tree_model.specs.Trees.{Tree, Symbol, ReverseDependency}
use Rattle.kc_tree_model.specs.Blocks.{Position}
use Rattle.kc_tree_model.specs.Contents.{contents_of}
use Rattle.kc_rules_model.specs.declared.values.UnitValue.{UnitValue}
use Rattle.kc_rules_model.specs.SymbolValues.{environment, value_of_symbol}
use Rattle.kc_dotconfig_model.specs.declared.format.Strings.{Strings}
use Rattle.kc_reasons_model.specs.declared.cases.Case.{Case}
use Rattle.kc_reasons_model.specs.declared.cases.Hindrance.{Hindrance}
use Rattle.kc_reasons_model.specs.AssigningLines.{AssigningPlace, assigning_place}
use Rattle.kc_reasons_model.specs.OverriddenLines.{OverriddenPlace, places_of, overridden}
use Rattle.kc_reasons_model.specs.PlainReasons.{PlainReasons}
use Rattle.kc_reasons_model.specs.SymbolLines.{SymbolLines, lines_of_symbol}
use Rattle.kc_reasons_model.specs.Reasons.{value_text, name_of_symbol}
use Rattle.kc_located_reasons.specs.LocatedNeeds.{LocatedPart}
use Rattle.kc_explanation.specs.Explained.{spelled_with_values, is_without_prompt}
use Rattle.kc_explanation.specs.Located.{ReasonPlaces}
use Rattle.kc_explanation.specs.Asked.{line_place, asked_value, outcome_text}
use Rattle.kmin_records.specs.JsonValues.{text_json, array_of, or_null, members_of, object_of, place_members}
use Rattle.kmin_records.specs.Records.{record_line}
use Rattle.kmin_explain_records.specs.ReasonWords.{case_word, lift_of_case, hindrance_word}
use Rattle.kmin_explain.specs.Explanations.{SourcesModel, unit_for, path_of_file, listed_reasons, reasons_of, reason_places}

-- the members of a place in the tree, by the paths of its files in the order of their numbers
abbrev pub position_members : List (List ℕ) → Position → List (List ℕ × Json)
position_members paths at = place_members (slice_index_or paths at.file []) at.line

-- a line of a configuration file that says something of symbol s, and what became of that
abbrev pub asked_json : SourcesModel → ℕ → Kind → AssigningPlace → (outcome : List ℕ) → Json
asked_json g s kind p outcome =
    object_of (place_members (path_of_file g p.file) p.line.number
    ++ (codes "value", text_json (asked_value g.strings g.tree s kind p.line.user)) ∷ (codes "outcome", text_json outcome) ∷ [])

-- one that a line of a later file overrides
abbrev pub overridden_json : SourcesModel → ℕ → Kind → OverriddenPlace → Json
overridden_json g s kind p = asked_json g s kind p.place (codes "overridden by " ++ line_place (path_of_file g p.by.file) p.by.line.number)

-- the one that counts, if there is one
abbrev pub deciding_json : SourcesModel → ℕ → Kind → Case → Option Hindrance → Option AssigningPlace → List Json
deciding_json g s kind case hindrance place = option_to_list (option_map (λ p. asked_json g s kind p (outcome_text case hindrance)) place)

-- of each configuration file whose last line on symbol s a later one overrides that line, then the line that counts
abbrev pub asked_list : SourcesModel → ℕ → Kind → Case → Option Hindrance → List Json
asked_list g s kind case hindrance =
    map (overridden_json g s kind) (overridden (places_of (unit_for g s) s 0 g.meanings))
    ++ deciding_json g s kind case hindrance (assigning_place (unit_for g s) s 0 g.meanings)

-- a part of a condition that is too low: its text, each name with its value, its value, the least that is wanted of it, and its place
abbrev pub part_json : Strings → Environment → List (List ℕ) → LocatedPart → Json
part_json strings names paths p =
    object_of ((codes "part", text_json (spelled_with_values strings names p.part.expr))
    ∷ (codes "value", string (letter (value names p.part.expr))) ∷ (codes "wanted", string (letter p.part.wanted)) ∷ position_members paths p.at)

-- parts that are all needed, and alternatives of such
abbrev pub parts_json : Strings → Environment → List (List ℕ) → List LocatedPart → Json
parts_json strings names paths ps = array_of (map (part_json strings names paths) ps)

abbrev pub alternatives_json : Strings → Environment → List (List ℕ) → List (List LocatedPart) → Json
alternatives_json strings names paths lists = array_of (map (parts_json strings names paths) lists)

-- what the prompts need; null where a prompt is wanted and there is none
abbrev pub needs_json : Strings → Environment → List (List ℕ) → (without_prompt : Bool) → List (List LocatedPart) → Json
needs_json strings names paths without_prompt needs = if without_prompt then null else alternatives_json strings names paths needs

-- the place of a select or imply, if it has one
abbrev pub place_if : List (List ℕ) → Option Position → List (List ℕ × Json)
place_if paths None = []
place_if paths (Some at) = position_members paths at

-- the symbol of a select or imply, its value and its place, if there is one
abbrev pub forcing_json : Strings → List (List ℕ) → Tree → List UnitValue → Option ReverseDependency → Option Position → List Json
forcing_json strings paths tree values None at = []
forcing_json strings paths tree values (Some f) at =
    object_of ((codes "name", string (name_of_symbol tree f.by)) ∷ (codes "value", text_json (value_text strings (value_of_symbol tree values f.by)))
    ∷ place_if paths at) ∷ []

abbrev pub forcing_list : Strings → List (List ℕ) → Tree → List UnitValue → List ReverseDependency → List Position → List ℕ → List Json
forcing_list strings paths tree values fs places numbers =
    flat_map (λ n. forcing_json strings paths tree values (slice_get fs n) (slice_get places n)) numbers

-- the members for symbol s: its name and value, the place of its first definition, and what gives the value
abbrev pub given_members : Strings → List (List ℕ) → Tree → List UnitValue → ℕ → (defined_at : Position) → (chosen : Option ℕ) → Case → (given_at : Option Position) → List (List ℕ × Json)
given_members strings paths tree values s defined_at chosen case given_at =
    (codes "name", string (name_of_symbol tree s)) ∷ (codes "value", text_json (value_text strings (value_of_symbol tree values s)))
    ∷ (codes "defined_at", object_of (position_members paths defined_at)) ∷ (codes "case", string (case_word case)) ∷ (codes "lift", or_null string (lift_of_case case))
    ∷ (codes "chosen", or_null (λ m. string (name_of_symbol tree m)) chosen)
    ∷ (codes "given_at", or_null (λ at. object_of (position_members paths at)) given_at) ∷ []

-- what the configuration files ask of it, and what hinders that
abbrev pub asked_members : SourcesModel → ℕ → Kind → Case → Option Hindrance → List (List ℕ × Json)
asked_members g s kind case hindrance =
    (codes "asked", array_of (asked_list g s kind case hindrance)) ∷ (codes "hindrance", or_null (λ h. string (hindrance_word h)) hindrance) ∷ []

-- what its prompts need, and what the dependencies of its definitions lack of what is selected
abbrev pub lacking_members : Strings → List (List ℕ) → Tree → List UnitValue → Symbol → Option Hindrance → ReasonPlaces → List (List ℕ × Json)
lacking_members strings paths tree values symbol hindrance places =
    (codes "needs", needs_json strings (environment tree values) paths (is_without_prompt hindrance symbol) places.needs)
    ∷ (codes "unmet", alternatives_json strings (environment tree values) paths places.unmet) ∷ []

-- what selects and implies it
abbrev pub forcing_members : Strings → List (List ℕ) → Tree → List UnitValue → Symbol → SymbolLines → PlainReasons → List (List ℕ × Json)
forcing_members strings paths tree values symbol lines r =
    (codes "selected_by", array_of (forcing_list strings paths tree values symbol.selectors lines.selectors r.selected_by))
    ∷ (codes "implied_by", array_of (forcing_list strings paths tree values symbol.impliers lines.impliers r.implied_by)) ∷ []

-- the place of a symbol's first definition
abbrev pub first_place : Symbol → Position
first_place symbol = record { file = symbol.file; line = symbol.line }

-- all members, in their order
abbrev pub record_members : SourcesModel → ℕ → Symbol → PlainReasons → SymbolLines → ReasonPlaces → List (List ℕ × Json)
record_members g s symbol r lines places =
    given_members g.strings g.tree_paths g.tree g.values s (first_place symbol) r.chosen r.case places.given_at
    ++ (asked_members g s symbol.kind r.case r.hindrance
    ++ (lacking_members g.strings g.tree_paths g.tree g.values symbol r.hindrance places
    ++ forcing_members g.strings g.tree_paths g.tree g.values symbol lines r))

-- the line for symbol s by its reasons and its lines: the record with these members
abbrev pub explained_as_json_by : SourcesModel → ℕ → Symbol → PlainReasons → SymbolLines → List ℕ
explained_as_json_by g s symbol r lines = record_line (members_of (record_members g s symbol r lines (reason_places g s symbol lines r.case)))

-- the line for symbol s, of which with `--all` every select and imply is listed
abbrev pub explained_as_json : SourcesModel → (all : Bool) → ℕ → Symbol → List ℕ
explained_as_json g all s symbol =
    explained_as_json_by g s symbol (listed_reasons all symbol (reasons_of g s symbol)) (lines_of_symbol g.tree.language (contents_of g.read) symbol.name)

-- and for the symbol with number s, if the tree has it
abbrev pub explained_as_json_at : SourcesModel → (all : Bool) → ℕ → List ℕ
explained_as_json_at g all s = unwrap_or (option_map (explained_as_json g all s) (slice_get g.tree.symbols s)) []

-- the lines for some symbols, in their order
abbrev pub records_in : SourcesModel → (all : Bool) → List ℕ → List ℕ
records_in g all symbols = flat_map (explained_as_json_at g all) symbols
