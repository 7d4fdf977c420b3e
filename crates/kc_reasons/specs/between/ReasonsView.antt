-- The reasons of a symbol as the code has them.
use Rattle.kc_expr.specs.between.Arena.{Exprs}
use Rattle.kc_reasons_model.specs.PlainReasons.{PlainReasons}
use Rattle.kc_reasons.specs.declared.reasons.SymbolReasons.{SymbolReasons}
use Rattle.kc_reasons.specs.between.Parts.{alternatives_view}

-- the reasons that some of the code represent
abbrev pub reasons_view : Exprs → SymbolReasons → PlainReasons
reasons_view exprs r = record {
  case = r.case;
  chosen = r.chosen;
  hindrance = r.hindrance;
  needs = alternatives_view exprs r.needs.items;
  unmet = alternatives_view exprs r.unmet.items;
  selected_by = r.selected_by.items;
  implied_by = r.implied_by.items;
}
