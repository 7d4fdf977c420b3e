use Rattle.kc_minimal.proofs.Common.{IfOk-weaker, file_format}
use Rattle.kc_minimal.proofs.HeldTexts.{full_held, full_back, full_accepted}
use Rattle.kc_minimal.proofs.texts.full_text.Goals as goal

pub returns-clause-text : goal.returns-clause-text
returns-clause-text c =
    IfOk-weaker c.full_lines.result _ _ (λ text is. full_held (file_format c.args.format.now) c.args.format.now.prefix.valid c.args.config.now
    c.values.ensures.solved
    c.settled.result.now c.values.result.now c.settled.ensures c.values.ensures.values text.items is) c.full_lines.ensures

pub returns-clause-back : goal.returns-clause-back
returns-clause-back c =
    IfOk-weaker c.full_lines.result _ _ (λ text is. full_back (file_format c.args.format.now) c.args.format.now.prefix.valid c.args.config.now
    c.values.ensures.solved
    c.settled.result.now c.values.result.now c.settled.ensures c.values.ensures.values text.items c.full_files_lead_back.ensures is) c.full_lines.ensures

pub returns-clause-accepted : goal.returns-clause-accepted
returns-clause-accepted c =
    IfOk-weaker c.full_lines.result _ _ (λ text is. full_accepted (file_format c.args.format.now) c.args.format.now.prefix.valid c.args.config.now
    c.values.ensures.solved c.settled.result.now c.values.result.now c.settled.ensures c.values.ensures.values text.items c.full_files_lead_back.ensures
    c.read_files_are_accepted.ensures is) c.full_lines.ensures
