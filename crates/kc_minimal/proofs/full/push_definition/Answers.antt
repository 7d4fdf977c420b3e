use Rattle.kc_minimal.proofs.Common.{sym, ◌∙◌, ap, ◌&&◌, arith, common_steps, on_ok_weaker, is_written, tree_of_settled, file_format, ended_line, Draft}
use Rattle.std.proofs.lemmas.Grind.{elements}
use Rattle.kc_minimal.proofs.DraftSteps.{symbol_written, after_gap}
use Rattle.kc_minimal.proofs.full.push_definition.Goals as goal

pub returns-in_ok-push_gap-clause-goes : goal.returns-in_ok-push_gap-clause-goes
returns-in_ok-push_gap-clause-goes c =
    let format = file_format c.args.written.now.format.now in
    let tree = tree_of_settled c.args.written.now.settled.now in
    let values = c.args.written.now.values.now in
    let old = c.args.draft.now in
    let gapped = c.push_gap.new.draft in
    let new : Draft = record { text = c.push_symbol.new.out; defined = gapped.defined; gap = gapped.gap } in
    on_ok_weaker c.push_symbol.result
    (λ line left d. symbol_written format tree values left old new c.args.s c.requires.symbol c.requires.marks
    (c.push_gap.ensures.marks ∙ c.mark-fresh.ensures.marked)
    (sym (ap (λ b. is_written tree values c.args.s && b) c.mark-fresh.ensures.fresh) ∙ sym c.is_written_here.ensures.value ∙ c.if-is_written_here.true)
    (after_gap old.gap old.text.items gapped.text.items new.text.items (ended_line format tree values c.args.s) c.in_ok-push_gap.ensures.text line)
    c.in_ok-push_gap.ensures.gap d)
    c.push_symbol.ensures.ok

pub returns-else-is_written_here-clause-goes : goal.returns-else-is_written_here-clause-goes
returns-else-is_written_here-clause-goes c = grind (arith, common_steps)

pub push_symbol-requires : goal.push_symbol-requires
push_symbol-requires c = grind (arith, common_steps)

pub returns-in_ok-push_gap-clause-marks : goal.returns-in_ok-push_gap-clause-marks
returns-in_ok-push_gap-clause-marks c = grind (arith, common_steps)

pub returns-in_err-push_gap-clause-marks : goal.returns-in_err-push_gap-clause-marks
returns-in_err-push_gap-clause-marks c = grind (arith, elements)

pub returns-else-is_written_here-clause-marks : goal.returns-else-is_written_here-clause-marks
returns-else-is_written_here-clause-marks c = grind (arith, common_steps)
