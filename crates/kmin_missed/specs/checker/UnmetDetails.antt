-- What selects a symbol against its dependencies, and what is unmet.
use Rattle.std.specs.Prelude.{ℕ, List}
use Rattle.kc_tree_model.specs.Trees.{Symbol}
use Rattle.kc_reasons_model.specs.PlainReasons.{PlainReasons}
use Rattle.kc_reasons_model.specs.SymbolLines.{SymbolLines}
use Rattle.kc_located_reasons.specs.LocatedNeeds.{dependencies_lack_at}
use Rattle.kc_explanation.specs.Located.{located_unmet}
use Rattle.kmin_explain.specs.Explanations.{SourcesModel}

-- what selects a symbol with these reasons and lines, and what is unmet
abbrev pub unmet_details : SourcesModel → Symbol → PlainReasons → SymbolLines → List ℕ
unmet_details g symbol r lines =
    located_unmet g.strings g.tree_paths g.tree g.values symbol lines.selectors r.selected_by (dependencies_lack_at g.tree g.values symbol lines)
