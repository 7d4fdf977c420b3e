-- The places of reasons as the code has them.
use Rattle.std.specs.Prelude.{option_map}
use Rattle.kc_expr.specs.between.Arena.{Exprs}
use Rattle.kc_symbol_lines.specs.between.LinesView.{position_view}
use Rattle.kc_located_reasons.specs.between.PartsView.{located_alternatives_view}
use Rattle.kc_explanation.specs.Located as model
use Rattle.kc_explanation.specs.declared.located_explanation.ReasonPlaces.{ReasonPlaces}

-- the places that some of the code represent
abbrev pub places_view : Exprs → ReasonPlaces → model.ReasonPlaces
places_view exprs p = record {
  given_at = option_map position_view p.given_at;
  needs = located_alternatives_view exprs p.needs.items;
  unmet = located_alternatives_view exprs p.unmet.items;
}
