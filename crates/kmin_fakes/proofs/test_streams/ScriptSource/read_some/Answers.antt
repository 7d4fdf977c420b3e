use Rattle.std.proofs.Common.{◌≡◌, arith, length-drop, take, drop, ap, ◌++◌, ◌∙◌, sym, ◌+◌}
use Rattle.std.proofs.lemmas.Grind.{common_steps, elements}
use Rattle.kmin_fakes.proofs.ScriptLemmas.{consumes, parted}
use Rattle.kmin_fakes.proofs.test_streams.ScriptSource.read_some.Goals as goal

pub returns-clause-bytes : goal.returns-clause-bytes
returns-clause-bytes c =
    let given : take c.copy_front-n-2.result c.copy_front-n-2.new.buf ≡ take c.copy_front-n-2.result (drop c.args.self.now.at c.args.self.now.bytes.items) =
    grind (arith, common_steps) in (
      consumes c.args.self.now.then _ _ _ (parted c.args.self.now.bytes.items c.args.self.now.at c.copy_front-n-2.result
          ∙ ap (λ bs. bs ++ drop (c.args.self.now.at + c.copy_front-n-2.result) c.args.self.now.bytes.items) (sym given)),
      λ z p. absurd (omega (arith, length-drop c.args.self.now.at c.args.self.now.bytes.items)),
    )

pub invariant_of-self-in-Again : goal.invariant_of-self-in-Again
invariant_of-self-in-Again c = grind (arith, elements)

pub invariant_of-self-2 : goal.invariant_of-self-2
invariant_of-self-2 c = omega arith

pub returns-in-Fail-clause-bytes : goal.returns-in-Fail-clause-bytes
returns-in-Fail-clause-bytes c = grind (arith, common_steps)

pub returns-in-End-clause-bytes : goal.returns-in-End-clause-bytes
returns-in-End-clause-bytes c = grind (arith, common_steps)

pub returns-in-Again-clause-bound : goal.returns-in-Again-clause-bound
returns-in-Again-clause-bound c = grind (arith, common_steps)

pub returns-in-FailOnce-clause-bytes : goal.returns-in-FailOnce-clause-bytes
returns-in-FailOnce-clause-bytes c = grind (arith, common_steps)

pub returns-in-Again-clause-bytes : goal.returns-in-Again-clause-bytes
returns-in-Again-clause-bytes c = grind (arith, common_steps)

pub returns-clause-bound : goal.returns-clause-bound
returns-clause-bound c = grind (arith, common_steps)
