use Rattle.kmin_inputs.proofs.Common.{◌∷◌, [], ℕ, List, get_or, refl, ap, ◌∙◌, subst, arith, rules, Bor, take_all, Surroundings, VariableContent, AreLent, paths_next}
use Rattle.kmin_inputs.proofs.LentAnswers.{lent_none, lent_append}
use Rattle.kmin_inputs.proofs.answers.answer_from_environment.Goals as goal

pub loop-name-init : goal.loop-name-init
loop-name-init g c = record { same = refl; uncounted = refl; lent = lent_none _ _ }

pub loop-name-preserved : goal.loop-name-preserved
loop-name-preserved g c =
    let absent : Bor (List ℕ) = record { ref_ptr = (0, 0); now = [] } in
    let k = c.loop-name.name-index in
    let name = get_or c.args.names.now k absent in
    let variable = ap (λ (known : Surroundings). known.variable) c.loop-name.invariant.same in
    record {
      same = c.answer_one_from_environment.ensures.same ∙ c.loop-name.invariant.same;
      uncounted = c.answer_one_from_environment.ensures.uncounted ∙ c.loop-name.invariant.uncounted;
      lent = rw (paths_next c.args.names.now k absent (search rules))
          (lent_append _ _ (name.now ∷ []) _ _ _ c.loop-name.invariant.lent
          (subst (λ (variable : List ℕ → VariableContent). AreLent variable (name.now ∷ []) c.loop-name.answers c.answer_one_from_environment.new.answers) variable
          c.in_ok-answer_one_from_environment.ensures.lent));
    }

pub returns-clause-lent : goal.returns-clause-lent
returns-clause-lent g c =
    let all = take_all c.loop-name.name-index c.args.names.now (omega arith) in
    rw all at c.loop-name.invariant.lent
