-- What is known of a symbol that is explained, as the code has it.
use Rattle.std.specs.Prelude.{◌≡◌, ◌<◌, Bool, length}
use Rattle.kc_expr.specs.between.Arena.{Exprs}
use Rattle.kc_tree_model.specs.Trees.{Symbol}
use Rattle.kc_tree_model.specs.TreeLookup.{unit_of}
use Rattle.kc_tree_model.specs.Contents.{contents_of}
use Rattle.kc_rules.specs.between.SettledViews.{tree_model_of}
use Rattle.kc_config.specs.ConfigStates.{tree_in}
use Rattle.kc_reasons_model.specs.SymbolLines.{lines_of_symbol}
use Rattle.kc_reasons.specs.between.ReasonsView.{reasons_view}
use Rattle.kc_symbol_lines.specs.between.LinesView.{symbol_lines_view}
use Rattle.kc_located_reasons.specs.between.PartsView.{ArePartsThere}
use Rattle.kc_explanation.specs.between.ReasonPlacesView.{places_view}
use Rattle.kmin_explain.specs.Explanations.{SourcesModel, listed_reasons, reasons_of, reason_places}
use Rattle.kmin_explain.specs.between.Sources.{config_of}
use Rattle.kmin_explain.specs.declared.sources.Sources.{Sources}
use Rattle.kmin_explain.specs.declared.explained_symbols.ExplainedSymbol.{ExplainedSymbol}

-- the symbol is in the tree, with its unit, and so is each part that it lacks
pub record IsWithin (by : Sources) (found : ExplainedSymbol) : Type 0 where
  pub there : found.symbol.s < length (tree_in (config_of by)).symbols
  pub unit : found.symbol.unit ≡ unit_of (tree_in (config_of by)) found.symbol.s
  pub needs : ArePartsThere (tree_model_of (config_of by).system).exprs found.places.needs.items
  pub unmet : ArePartsThere (tree_model_of (config_of by).system).exprs found.places.unmet.items

-- the kind of a symbol, its reasons, its lines and its places are these
pub record IsExplained (g : SourcesModel) (exprs : Exprs) (all : Bool) (symbol : Symbol) (found : ExplainedSymbol) : Type 0 where
  pub kind : found.symbol.kind ≡ symbol.kind
  pub reasons : reasons_view exprs found.reasons ≡ listed_reasons all symbol (reasons_of g found.symbol.s symbol)
  pub lines : symbol_lines_view exprs found.lines ≡ lines_of_symbol g.tree.language (contents_of g.read) symbol.name
  pub places : places_view exprs found.places ≡ reason_places g found.symbol.s symbol (symbol_lines_view exprs found.lines) found.reasons.case
