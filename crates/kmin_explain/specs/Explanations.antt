-- The text of `explain`.
use Rattle.std.specs.Prelude.{ℕ, Bool, false, ◌&&◌, List, [], ◌++◌, length, flat_map, Option, Some, None, is_some, option_map, unwrap_or, slice_get, codes, if◌then◌else◌}
use Rattle.std.specs.List.{list_any, range_with_len}
use Rattle.kc_value.specs.declared.value.Kind.{Kind}
use Rattle.kc_tree_model.specs.Trees.{Tree, Symbol}
use Rattle.kc_tree_model.specs.TreeLookup.{unit_of}
use Rattle.kc_tree_model.specs.Blocks.{Group}
use Rattle.kc_tree_model.specs.Contents.{contents_of}
use Rattle.kc_solver.specs.Solutions.{user_of}
use Rattle.kc_rules_model.specs.declared.profile.Profile.{Profile}
use Rattle.kc_rules_model.specs.declared.values.UnitValue.{UnitValue}
use Rattle.kc_rules_model.specs.declared.values.UserValue.{UserValue}
use Rattle.kc_rules_model.specs.SymbolValues.{environment}
use Rattle.kc_dotconfig_model.specs.declared.format.Strings.{Strings}
use Rattle.kc_dotconfig_model.specs.ConfigLines.{LineMeaning}
use Rattle.kc_reasons_model.specs.declared.cases.Case.{Case}
use Rattle.kc_reasons_model.specs.declared.cases.Hindrance.{Hindrance}
use Rattle.kc_reasons_model.specs.AssigningLines.{AssigningPlace, assigning_place}
use Rattle.kc_reasons_model.specs.OverriddenLines.{OverriddenPlace, places_of, overridden}
use Rattle.kc_reasons_model.specs.PlainReasons.{PlainReasons, plain_reasons, wanted_by}
use Rattle.kc_reasons_model.specs.SymbolLines.{SymbolLines, lines_of_symbol}
use Rattle.kc_located_reasons.specs.GivenPlaces.{given_place}
use Rattle.kc_located_reasons.specs.LocatedNeeds.{prompts_lack_at, dependencies_lack_at}
use Rattle.kc_explanation.specs.Explained.{inner_line}
use Rattle.kc_explanation.specs.Located.{ReasonPlaces, located_first_line, located_details}
use Rattle.kc_explanation.specs.Asked.{line_place, asks_text, outcome_text}

-- What symbols are explained by: the profile of the rules, the tree, the user value of each of its units, if it has one, and their
-- values; the groups that were read from the tree's files, and the paths of these by their numbers; the meanings of the lines of each
-- configuration file, and the paths of these in their order; and how strings are spelled.
pub record SourcesModel : Type 0 where
  pub profile : Profile
  pub tree : Tree
  pub users : List (Option UserValue)
  pub values : List UnitValue
  pub read : List Group
  pub tree_paths : List (List ℕ)
  pub meanings : List (List LineMeaning)
  pub file_paths : List (List ℕ)
  pub strings : Strings

-- the unit of symbol s, and its user value, if it has one
abbrev pub unit_for : SourcesModel → ℕ → ℕ
unit_for g s = unit_of g.tree s

abbrev pub user_for : SourcesModel → ℕ → Option UserValue
user_for g s = user_of g.users (unit_for g s)

-- the path of the configuration file with a number
abbrev pub path_of_file : SourcesModel → ℕ → List ℕ
path_of_file g file = unwrap_or (slice_get g.file_paths file) []

-- `PATH:LINE asks VALUE: `, of a line of a configuration file
abbrev pub asks_at : SourcesModel → ℕ → Kind → AssigningPlace → List ℕ
asks_at g s kind p = asks_text g.strings g.tree s kind (path_of_file g p.file) p.line.number p.line.user

-- `PATH:LINE asks VALUE: overridden by PATH:LINE`
abbrev pub overridden_line : SourcesModel → ℕ → Kind → OverriddenPlace → List ℕ
overridden_line g s kind p =
    inner_line (asks_at g s kind p.place ++ (codes "overridden by " ++ line_place (path_of_file g p.by.file) p.by.line.number))

-- `PATH:LINE asks VALUE: OUTCOME`, of the line that counts, if there is one
abbrev pub asked_line : SourcesModel → ℕ → Kind → Case → Option Hindrance → Option AssigningPlace → List ℕ
asked_line g s kind case hindrance None = []
asked_line g s kind case hindrance (Some p) = inner_line (asks_at g s kind p ++ outcome_text case hindrance)

-- of each configuration file whose last line on symbol s a later one overrides that line, then the line that counts
abbrev pub asked_lines : SourcesModel → ℕ → Kind → Case → Option Hindrance → List ℕ
asked_lines g s kind case hindrance =
    flat_map (overridden_line g s kind) (overridden (places_of (unit_for g s) s 0 g.meanings))
    ++ asked_line g s kind case hindrance (assigning_place (unit_for g s) s 0 g.meanings)

-- the reasons of symbol s, of which with `--all` every select and imply is listed
abbrev pub listed_reasons : (all : Bool) → Symbol → PlainReasons → PlainReasons
listed_reasons all symbol r = if all
    then record r { selected_by = range_with_len 0 (length symbol.selectors); implied_by = range_with_len 0 (length symbol.impliers) }
    else r

-- the places of what gives the value of symbol s, and of what it lacks
abbrev pub reason_places : SourcesModel → ℕ → Symbol → SymbolLines → Case → ReasonPlaces
reason_places g s symbol lines case = record {
  given_at = given_place g.tree g.values symbol lines case;
  needs = prompts_lack_at (environment g.tree g.values) (wanted_by g.tree symbol (user_for g s) g.values) symbol lines;
  unmet = dependencies_lack_at g.tree g.values symbol lines;
}

-- the reasons of symbol s
abbrev pub reasons_of : SourcesModel → ℕ → Symbol → PlainReasons
reasons_of g s symbol = plain_reasons g.profile g.tree s symbol (user_for g s) g.values

-- the text for symbol s by its reasons and its lines
abbrev pub explained_by : SourcesModel → ℕ → Symbol → PlainReasons → SymbolLines → List ℕ
explained_by g s symbol r lines =
    located_first_line g.strings g.tree_paths g.tree g.values s r.chosen r.case (reason_places g s symbol lines r.case).given_at
    ++ (asked_lines g s symbol.kind r.case r.hindrance
    ++ located_details g.strings g.tree_paths g.tree g.values symbol lines r (reason_places g s symbol lines r.case))

-- the text for symbol s
abbrev pub explained : SourcesModel → (all : Bool) → ℕ → Symbol → List ℕ
explained g all s symbol =
    explained_by g s symbol (listed_reasons all symbol (reasons_of g s symbol)) (lines_of_symbol g.tree.language (contents_of g.read) symbol.name)

-- and for the symbol with number s, if the tree has it
abbrev pub explained_at : SourcesModel → (all : Bool) → ℕ → List ℕ
explained_at g all s = unwrap_or (option_map (explained g all s) (slice_get g.tree.symbols s)) []

-- the text for some symbols, in their order
abbrev pub explained_in : SourcesModel → (all : Bool) → List ℕ → List ℕ
explained_in g all symbols = flat_map (explained_at g all) symbols

-- the numbers of all symbols, in order of first definition
abbrev pub all_symbols : Tree → List ℕ
all_symbols tree = range_with_len 0 (length tree.symbols)

-- whether a line for symbol s isn't taken: one says something of it, and something hinders that it has what that asks
abbrev pub is_hindered : SourcesModel → ℕ → Symbol → Bool
is_hindered g s symbol = is_some (assigning_place (unit_for g s) s 0 g.meanings) && is_some (reasons_of g s symbol).hindrance

abbrev pub is_hindered_at : SourcesModel → ℕ → Bool
is_hindered_at g s = unwrap_or (option_map (is_hindered g s) (slice_get g.tree.symbols s)) false

-- whether one of some symbols is such, for `--exit-code`
abbrev pub is_one_hindered : SourcesModel → List ℕ → Bool
is_one_hindered g symbols = list_any (is_hindered_at g) symbols
