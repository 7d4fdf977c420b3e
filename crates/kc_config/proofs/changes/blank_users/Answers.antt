use Rattle.std.proofs.Common.{◌≡◌, ◌++◌, ◌∷◌, ◌∙◌, [], None, replicate, ap, arith}
use Rattle.std.proofs.lemmas.List.{replicate_more}
use Rattle.kc_config.proofs.changes.blank_users.Goals as goal

pub loop-unit-preserved : goal.loop-unit-preserved
loop-unit-preserved c = c.in_ok-push.ensures.items ∙ ap (λ us. us ++ None ∷ []) c.loop-unit.invariant ∙ replicate_more c.loop-unit._unit None

pub returns : goal.returns
returns c =
    let all : c.loop-unit._unit ≡ c.args.size = omega (arith, c.loop-unit-test.false, c.loop-unit.auto._unit-end) in
    c.loop-unit.invariant ∙ ap (λ n. replicate n None) all
