use Rattle.kc_evaluation.proofs.Common.{ap, ◌∙◌, arith, common_steps, elements, symbol_view}
use Rattle.std.specs.Option.{option_copied}
use Rattle.std.proofs.lemmas.Result.{IfOk-weaker}
use Rattle.kc_tree.specs.between.Views.{choice_view}
use Rattle.kc_rules_model.specs.declared.values.UnitValue.TheVariants.{Member as MemberValue}
use Rattle.kc_evaluation.proofs.Evaluations.{rule_symbol, rule_choice, member_there}
use Rattle.kc_evaluation.proofs.evaluation.value_of.Goals as goal

pub choice_rule-requires-clause-member : goal.choice_rule-requires-clause-member
choice_rule-requires-clause-member c =
    let r = c.args.rules.now in
    member_there r.tree.tree c.args.u c.in-Choice.c (choice_view r.tree.exprs c.choice.result) (option_copied c.args.user)
    c.in-Choice.ensures.unit c.choice.ensures.choice c.choice.ensures.fits.members c.requires.user

pub returns-in-Symbol : goal.returns-in-Symbol
returns-in-Symbol c = record {
  ok = let r = c.args.rules.now in
      let t = r.tree.tree in
      IfOk-weaker c.symbol_rule.result _ _ (λ value same. same ∙ rule_symbol r.profile t c.args.u c.in-Symbol.s (symbol_view r.tree.exprs c.symbol.result)
      (option_copied c.args.user) c.args.values.now c.in-Symbol.ensures.unit c.symbol.ensures.symbol) c.symbol_rule.ensures.ok;
}

pub returns-in_ok-choice_rule-in-Choice : goal.returns-in_ok-choice_rule-in-Choice
returns-in_ok-choice_rule-in-Choice c = record {
  ok = let r = c.args.rules.now in
      ap (λ m. MemberValue m) c.in_ok-choice_rule-in-Choice.ensures.ok
      ∙ rule_choice r.profile r.tree.tree c.args.u c.in-Choice.c (choice_view r.tree.exprs c.choice.result) (option_copied c.args.user) c.args.values.now
      c.in-Choice.ensures.unit c.choice.ensures.choice;
}

pub choice-requires : goal.choice-requires
choice-requires c = record { there = grind (arith, elements) }

pub symbol-requires : goal.symbol-requires
symbol-requires c = record { there = grind (arith, elements) }

pub choice_rule-requires-clause-fits : goal.choice_rule-requires-clause-fits
choice_rule-requires-clause-fits c = grind (arith, common_steps)
