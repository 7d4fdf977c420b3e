use Rattle.std.proofs.Common.{◌++◌, ◌∙◌, ap, string_bytes}
use Rattle.kmin_texts.proofs.Spaced.{has_more}
use Rattle.kmin_texts.proofs.joined_names.spaced.Goals as goal

pub loop-name-preserved : goal.loop-name-preserved
loop-name-preserved c =
    has_more string_bytes c.args.names.now c.loop-name.name-index c.name-item.result _ _ _ c.loop-name-test.true c.loop-name.invariant
    (c.in_ok-push_name.ensures
    ∙ ap (λ t. string_bytes c.loop-name.words ++ (c.loop-name.between.now ++ t)) (c.as_str.ensures.value ∙ ap string_bytes c.name-item.is))
