use Rattle.kc_rules.proofs.Common.{◌∙◌, arith, elements, symbol_view}
use Rattle.kc_rules.proofs.UserFits.{fits_symbol, fits_choice}
use Rattle.kc_rules.proofs.rules.Settled.user_fits.Goals as goal

pub returns-in-Symbol : goal.returns-in-Symbol
returns-in-Symbol c = record {
  value = let t = c.args.self.now.rules.tree in
      c.is_kind_fit.ensures ∙ fits_symbol t.tree c.args.u c.in-Symbol.s (symbol_view t.exprs c.symbol.result) c.args.value.now c.in-Symbol.ensures.unit
      c.symbol.ensures.symbol;
}

pub returns-in-Choice : goal.returns-in-Choice
returns-in-Choice c = record {
  value = let t = c.args.self.now.rules.tree in
      c.is_choice_fit.ensures.value ∙ fits_choice t.tree c.args.u c.in-Choice.c c.args.value.now c.in-Choice.ensures.unit;
}

pub symbol-requires : goal.symbol-requires
symbol-requires c = record { there = grind (arith, elements) }
