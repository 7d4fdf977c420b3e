use Rattle.kmin_inputs.proofs.Common.{[], ℕ, List, refl, ◌∙◌, arith, rules, Bor, take_all}
use Rattle.kmin_options.specs.declared.job.Definition.{Definition as DeclaredDefinition}
use Rattle.kmin_inputs.proofs.LentAnswers.{defined_next}
use Rattle.kmin_inputs.proofs.answers.define.Goals as goal

pub loop-definition-init : goal.loop-definition-init
loop-definition-init c = λ question. refl

pub loop-definition-preserved : goal.loop-definition-preserved
loop-definition-preserved c =
    let none : Bor (List ℕ) = record { ref_ptr = (0, 0); now = [] } in
    let absent : DeclaredDefinition = record { name = none; value = none } in
    let set = rw (c.as_bytes-value.ensures.value, c.as_bytes.ensures.value) at c.in_ok-set.ensures.ok in
    λ question.
    set question
    ∙ defined_next c.args.definitions.now c.loop-definition.definition-index absent c.args.answers.now c.loop-definition.answers (search rules)
    c.loop-definition.invariant question

pub returns : goal.returns
returns c = λ question.
    let all = take_all c.loop-definition.definition-index c.args.definitions.now (omega arith) in
    rw all at (c.loop-definition.invariant question)
