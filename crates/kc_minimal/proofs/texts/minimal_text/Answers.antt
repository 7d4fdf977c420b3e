use Rattle.kc_minimal.proofs.Common.{IfOk-weaker, file_format}
use Rattle.kc_minimal.proofs.HeldTexts.{minimal_held}
use Rattle.kc_minimal.proofs.texts.minimal_text.Goals as goal

pub returns-clause-canonical : goal.returns-clause-canonical
returns-clause-canonical c =
    IfOk-weaker c.minimal_lines.result _ _ (λ text is. minimal_held (file_format c.args.format.now) c.args.format.now.prefix.valid c.args.config.now
    c.values.ensures.solved c.settled.result.now c.values.result.now c.settled.ensures c.values.ensures.values text.items
    c.minimal_texts_are_canonical.ensures is) c.minimal_lines.ensures.ok
