-- The reasons of a symbol without places are its reasons with places, but for these.
use Rattle.std.specs.Prelude.{◌≡◌, ℕ, ◌<◌, false, List, Some, length, slice_get, map, filter_map, option_map}
use Rattle.std.specs.List.{All}
use Rattle.kc_value.specs.declared.tri.Tri.{Tri}
use Rattle.kc_expr.specs.Expr.{value}
use Rattle.kc_expr.specs.Grammar.{ors}
use Rattle.kc_tree_model.specs.Trees.{Symbol, ReverseDependency}
use Rattle.kc_tree_model.specs.TreeLookup.{unit_of}
use Rattle.kc_value.specs.Tri.{is_n}
use Rattle.kc_reasons_model.specs.Conjuncts.{Part}
use Rattle.kc_reasons_model.specs.Spelling.{spelling}
use Rattle.kc_reasons_model.specs.SymbolLines.{SymbolLines}
use Rattle.kc_reasons_model.specs.Laws.{AreLinesOf, FitUnit}
use Rattle.kc_reasons_model.specs.Reasons.{ExplainedRun, SymbolReasons, LowPart, ForcingSymbol, ValuedToken, valued_token, names_of, name_of_symbol, text_of_symbol, user_for, hindrance_in, reasons_of}
use Rattle.kc_reasons_model.specs.PlainReasons.{PlainReasons, plain_reasons}

-- a part that is too low without its line: its tokens, its value, and the least that is wanted of it
abbrev pub without_line : LowPart → List ValuedToken × Tri × Tri
without_line p = (p.tokens, p.value, p.wanted)

-- the same of a part by its expression
abbrev pub spelled_part : ExplainedRun → Part → List ValuedToken × Tri × Tri
spelled_part run p = (map (valued_token run.strings (names_of run)) (spelling ors p.expr), value (names_of run) p.expr, p.wanted)

-- the name and the value of a symbol that selects or implies
abbrev pub name_and_value : ForcingSymbol → List ℕ × List ℕ
name_and_value f = (f.name, f.value)

-- the same of a select or imply
abbrev pub forcing_name : ExplainedRun → ReverseDependency → List ℕ × List ℕ
forcing_name run f = (name_of_symbol run.tree f.by, text_of_symbol run f.by)

-- reasons with places, and those without, say the same of a symbol
pub record AgreeOf (run : ExplainedRun) (symbol : Symbol) (r : SymbolReasons) (p : PlainReasons) : Type 0 where
  pub case : r.case ≡ p.case
  pub chosen : r.chosen ≡ option_map (name_of_symbol run.tree) p.chosen
  pub hindrance : hindrance_in r.asked ≡ p.hindrance
  pub needs : map (map without_line) r.needs ≡ map (map (spelled_part run)) p.needs
  pub unmet : map (map without_line) r.unmet ≡ map (map (spelled_part run)) p.unmet
  pub selected_by : map name_and_value r.selected_by ≡ map (forcing_name run) (filter_map (slice_get symbol.selectors) p.selected_by)
  pub implied_by : map name_and_value r.implied_by ≡ map (forcing_name run) (filter_map (slice_get symbol.impliers) p.implied_by)

-- law: where the lines are those of the symbol, as `LinesAreOfSymbol` has them, and what the files' lines assign fits its unit, the
-- reasons without places are those with places
abbrev pub PlainReasonsAgree : Type 0
PlainReasonsAgree = (run : ExplainedRun) (lines : SymbolLines) (s : ℕ) (symbol : Symbol) → unit_of run.tree s < length run.tree.units
    → All (FitUnit run.tree (unit_of run.tree s)) run.meanings
    → ((t : Tri) → is_n t ≡ false → AreLinesOf (names_of run) t symbol lines)
    → AgreeOf run symbol (reasons_of run lines s symbol) (plain_reasons run.profile run.tree s symbol (user_for run s) run.values)
