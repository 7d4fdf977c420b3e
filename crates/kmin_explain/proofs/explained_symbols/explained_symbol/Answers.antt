use Rattle.kmin_explain.proofs.Common.{ℕ, ◌<◌, length, sym, subst, ◌∙◌, ap, Exprs, unit_of, symbol_view, tree_in, tree_model_of, valuation_tree, valuation_exprs, valuation_values, wanted_by, symbol_lines_view, listed_reasons, reason_places, reasons_of, config_of, sources_model}
use Rattle.kc_solver.specs.Solutions.{user_of}
use Rattle.kc_located_reasons.specs.between.PartsView.{ArePartsThere}
use Rattle.kmin_explain.proofs.ReasonTexts.{places_found, same_at}
use Rattle.kmin_explain.proofs.explained_symbols.explained_symbol.Goals as goal

pub returns-clause-within : goal.returns-clause-within
returns-clause-within c =
    let tree = tree_in (config_of c.args.by.now) in
    let number = sym c.asked_symbol.ensures.number in
    record {
      there = subst (λ (n : ℕ). n < length tree.symbols) number c.requires.there;
      unit = c.asked_symbol.ensures.unit ∙ ap (unit_of tree) number;
      needs = subst (λ (e : Exprs). ArePartsThere e c.in_ok-places.places.needs.items) c.valuation.ensures.exprs c.in_ok-places.ensures.needs;
      unmet = subst (λ (e : Exprs). ArePartsThere e c.in_ok-places.places.unmet.items) c.valuation.ensures.exprs c.in_ok-places.ensures.unmet;
    }

pub returns-clause-explained : goal.returns-clause-explained
returns-clause-explained c = λ read meanings symbol are at.
    let g = sources_model c.args.by.now read meanings in
    let m = tree_model_of c.args.by.now.config.now.system in
    let under = c.valuation.result in
    let tree = valuation_tree under in
    let e = valuation_exprs under in
    let s = c.args.s in
    let code = c.symbol.result in
    let reasons = c.in_ok-reasons.reasons in
    let lines = c.in_ok-lines.lines in
    let number = sym c.asked_symbol.ensures.number in
    record {
      kind = c.asked_symbol.ensures.kind symbol at;
      reasons = c.in_ok-reasons.ensures.reasons read meanings symbol at ∙ ap (λ n. listed_reasons c.args.all symbol (reasons_of g n symbol)) number;
      lines = c.in_ok-lines.ensures.lines read meanings symbol are at;
      places = places_found g e m.exprs s symbol code lines reasons.case c.in_ok-places.places tree (valuation_values under) c.wanted_by-wanted.result
          c.valuation.ensures.exprs c.valuation.ensures.tree c.valuation.ensures.values
          (same_at tree g.tree s (symbol_view e code) symbol c.valuation.ensures.tree c.symbol.ensures.symbol at)
          (c.wanted_by-wanted.ensures.value ∙ ap (λ u. wanted_by tree (symbol_view e code) u (valuation_values under))
          (c.user_at.ensures ∙ ap (λ us. user_of us code.unit) c.users.ensures.users
          ∙ ap (user_of g.users) (c.symbol.ensures.unit ∙ ap (λ t. unit_of t s) c.valuation.ensures.tree)))
          c.in_ok-places.ensures.places
          ∙ ap (λ n. reason_places g n symbol (symbol_lines_view m.exprs lines) reasons.case) number;
    }
