use Rattle.kc_minimal.proofs.Common.{◌≡◌, ◌<◌, ◌∙◌, not, None, Some, sym, ap, length, subst, get_or, IfOk-from_err, rule, tree_of_settled, profile_of}
use Rattle.std.specs.List.{slice_get}
use Rattle.std.proofs.lemmas.Option.{slice_get-get_or}
use Rattle.kc_rules_model.specs.Equality.{same_value, value_is}
use Rattle.kc_minimal.proofs.minimal.is_kept.Goals as goal

pub eval-requires-clause-values : goal.eval-requires-clause-values
eval-requires-clause-values c = c.requires.values

pub returns-in_err-value : goal.returns-in_err-value
returns-in_err-value c = record { ok = IfOk-from_err c.from_residual.result _ c.from_residual.ensures.0 }

pub bounds-solved-u-2 : goal.bounds-solved-u-2
bounds-solved-u-2 c = subst (λ n. c.args.u < n) (sym c.requires.values.0) c.requires.unit

pub returns : goal.returns
returns c = record {
  ok = let held = get_or c.args.solved.now.values.now c.args.u c.index-solved-u-2.result in
      let given = rule (profile_of c.args.solved.now.settled.now) (tree_of_settled c.args.solved.now.settled.now) c.args.u None c.args.solved.now.values.now in
      let within : c.args.u < length c.args.solved.now.values.now = subst (λ n. c.args.u < n) (sym c.requires.values.0) c.requires.unit in
      let at : slice_get c.args.solved.now.values.now c.args.u ≡ Some held = slice_get-get_or c.args.solved.now.values.now c.args.u c.index-solved-u-2.result within in
      ap not (c.same.ensures ∙ ap (same_value held) c.in_ok-value.ensures.value ∙ sym (ap (λ o. value_is o given) at));
}
