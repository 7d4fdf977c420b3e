use Rattle.kc_reasons.proofs.Common.{◌≡◌, slice_get, option_copied, symbol_view, alternatives_view}
use Rattle.kc_solver.proofs.ErrorExits.{no_value}
use Rattle.kc_reasons.proofs.SymbolParts.{reasons_are, found_at}
use Rattle.kc_reasons.proofs.reasons.reasons_of.Goals as goal

pub returns-in_err-case : goal.returns-in_err-case
returns-in_err-case c = record {
  ok = no_value c.from_residual.result _ _ c.from_residual.ensures.1;
  needs = no_value c.from_residual.result _ _ c.from_residual.ensures.1;
  unmet = no_value c.from_residual.result _ _ c.from_residual.ensures.1;
}

pub returns-in_err-hindrance : goal.returns-in_err-hindrance
returns-in_err-hindrance c = record {
  ok = no_value c.from_residual-in_err-hindrance.result _ _ c.from_residual-in_err-hindrance.ensures.1;
  needs = no_value c.from_residual-in_err-hindrance.result _ _ c.from_residual-in_err-hindrance.ensures.1;
  unmet = no_value c.from_residual-in_err-hindrance.result _ _ c.from_residual-in_err-hindrance.ensures.1;
}

pub returns-in_err-needs : goal.returns-in_err-needs
returns-in_err-needs c = record {
  ok = no_value c.from_residual-in_err-needs.result _ _ c.from_residual-in_err-needs.ensures.1;
  needs = no_value c.from_residual-in_err-needs.result _ _ c.from_residual-in_err-needs.ensures.1;
  unmet = no_value c.from_residual-in_err-needs.result _ _ c.from_residual-in_err-needs.ensures.1;
}

pub returns-in_err-unmet : goal.returns-in_err-unmet
returns-in_err-unmet c = record {
  ok = no_value c.from_residual-in_err-unmet.result _ _ c.from_residual-in_err-unmet.ensures.1;
  needs = no_value c.from_residual-in_err-unmet.result _ _ c.from_residual-in_err-unmet.ensures.1;
  unmet = no_value c.from_residual-in_err-unmet.result _ _ c.from_residual-in_err-unmet.ensures.1;
}

pub returns-in_err-selected_by : goal.returns-in_err-selected_by
returns-in_err-selected_by c = record {
  ok = no_value c.from_residual-in_err-selected_by.result _ _ c.from_residual-in_err-selected_by.ensures.1;
  needs = no_value c.from_residual-in_err-selected_by.result _ _ c.from_residual-in_err-selected_by.ensures.1;
  unmet = no_value c.from_residual-in_err-selected_by.result _ _ c.from_residual-in_err-selected_by.ensures.1;
}

pub returns-in_err-implied_by : goal.returns-in_err-implied_by
returns-in_err-implied_by c = record {
  ok = no_value c.from_residual-in_err-implied_by.result _ _ c.from_residual-in_err-implied_by.ensures.1;
  needs = no_value c.from_residual-in_err-implied_by.result _ _ c.from_residual-in_err-implied_by.ensures.1;
  unmet = no_value c.from_residual-in_err-implied_by.result _ _ c.from_residual-in_err-implied_by.ensures.1;
}

pub returns : goal.returns
returns c =
    let r = c.args.rules.now in
    let found : option_copied c.get.result ≡ slice_get c.args.values.now c.symbol.result.unit =
    found_at c.args.values.now c.symbol.result.unit c.get.result c.get.ensures.lookup in record {
      ok = reasons_are r.profile r.tree.tree c.args.s c.symbol.result.unit (symbol_view r.tree.exprs c.symbol.result) (option_copied c.args.user)
          c.args.values.now c.in_ok-case.case c.chosen_in-chosen.result c.in_ok-hindrance.hindrance
          (alternatives_view r.tree.exprs c.in_ok-needs.needs.items) (alternatives_view r.tree.exprs c.in_ok-unmet.unmet.items)
          c.in_ok-selected_by.selected_by.items c.in_ok-implied_by.implied_by.items c.wanted_by.result c.are_selects_listed-are_selects_listed.result c.is_by_imply.result
          (option_copied c.get.result)
          c.symbol.ensures.symbol c.symbol.ensures.unit found c.in_ok-case.ensures.ok c.chosen_in-chosen.ensures c.in_ok-hindrance.ensures.ok
          c.wanted_by.ensures.value c.in_ok-needs.ensures.ok c.in_ok-unmet.ensures.ok c.are_selects_listed-are_selects_listed.ensures.value c.is_by_imply.ensures
          c.in_ok-selected_by.ensures.ok c.in_ok-implied_by.ensures.ok;
      needs = c.in_ok-needs.ensures.there;
      unmet = c.in_ok-unmet.ensures.there;
    }

pub decisive_if-requires : goal.decisive_if-requires
decisive_if-requires c = record { fits = c.symbol.ensures.fits.selectors }

pub decisive_if-requires-2 : goal.decisive_if-requires-2
decisive_if-requires-2 c = record { fits = c.symbol.ensures.fits.impliers }
