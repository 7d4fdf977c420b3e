use Rattle.kc_reasons.proofs.Common.{ap, ◌∙◌, arith, common_steps, option_copied, choice_view, symbol_view, member_there}
use Rattle.std.proofs.lemmas.Grind.{elements}
use Rattle.kc_reasons_model.specs.declared.cases.Case.TheVariants.{Choice as ChoiceGiven}
use Rattle.kc_reasons.proofs.UnitCases.{case_symbol, case_choice}
use Rattle.kc_reasons.proofs.cases.case_of.Goals as goal

pub choice_case-requires-clause-user : goal.choice_case-requires-clause-user
choice_case-requires-clause-user c =
    let r = c.args.rules.now in
    member_there r.tree.tree c.args.u c.in-Choice.c (choice_view r.tree.exprs c.choice.result) (option_copied c.args.user)
    c.in-Choice.ensures.unit c.choice.ensures.choice c.choice.ensures.fits.members c.requires.user

pub returns-in-Symbol : goal.returns-in-Symbol
returns-in-Symbol c = record {
  ok = let r = c.args.rules.now in
      c.symbol_case.ensures.value ∙ case_symbol r.profile r.tree.tree c.args.u c.in-Symbol.s (symbol_view r.tree.exprs c.symbol.result)
      (option_copied c.args.user) c.args.values.now c.in-Symbol.ensures.unit c.symbol.ensures.symbol;
}

pub returns-in_ok-choice_case-in-Choice : goal.returns-in_ok-choice_case-in-Choice
returns-in_ok-choice_case-in-Choice c = record {
  ok = let r = c.args.rules.now in
      ap (λ m. ChoiceGiven m) c.in_ok-choice_case-in-Choice.ensures.ok
      ∙ case_choice r.profile r.tree.tree c.args.u c.in-Choice.c (choice_view r.tree.exprs c.choice.result) (option_copied c.args.user) c.args.values.now
      c.in-Choice.ensures.unit c.choice.ensures.choice;
}

pub choice-requires : goal.choice-requires
choice-requires c = record { there = grind (arith, elements) }

pub symbol-requires : goal.symbol-requires
symbol-requires c = record { there = grind (arith, elements) }

pub choice_case-requires-clause-fits : goal.choice_case-requires-clause-fits
choice_case-requires-clause-fits c = grind (arith, common_steps)
