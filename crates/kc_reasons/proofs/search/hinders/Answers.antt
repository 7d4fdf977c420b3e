use Rattle.kc_reasons.proofs.Common.{Some, ◌∙◌, choice_view, symbol_view, member_there}
use Rattle.std.proofs.lemmas.Result.{IfOk-weaker}
use Rattle.kc_reasons.proofs.UnitHindrances.{at_symbol, at_choice}
use Rattle.kc_reasons.proofs.search.hinders.Goals as goal

pub hinders_choice-requires-clause-user : goal.hinders_choice-requires-clause-user
hinders_choice-requires-clause-user c =
    let r = c.args.rules.now in
    member_there r.tree.tree c.args.u c.in-Choice.c (choice_view r.tree.exprs c.choice.result) (Some c.args.user.now)
    c.in-Choice.ensures.unit c.choice.ensures.choice c.choice.ensures.fits.members c.requires.user

pub returns-in-Symbol : goal.returns-in-Symbol
returns-in-Symbol c = record {
  ok = let r = c.args.rules.now in
      c.hinders_symbol.ensures.value ∙ at_symbol c.args.hindrance r.profile r.tree.tree c.args.u c.args.s c.in-Symbol.own (symbol_view r.tree.exprs c.symbol.result)
      c.args.user.now c.args.values.now c.in-Symbol.ensures.unit c.symbol.ensures.symbol;
}

pub returns-in-Choice : goal.returns-in-Choice
returns-in-Choice c = record {
  ok = let r = c.args.rules.now in
      IfOk-weaker c.hinders_choice.result _ _ (λ b same. same ∙ at_choice c.args.hindrance r.profile r.tree.tree c.args.u c.args.s c.in-Choice.c
      (choice_view r.tree.exprs c.choice.result) c.args.user.now c.args.values.now c.in-Choice.ensures.unit c.choice.ensures.choice) c.hinders_choice.ensures.ok;
}
