use Rattle.std.proofs.Common.{◌∙◌, sym, arith}
use Rattle.kc_macros.proofs.PieceLemmas.{items_later}
use Rattle.kc_macros.proofs.references.plain_length.Goals as goal

pub bytes-preserved : goal.bytes-preserved
bytes-preserved c = items_later c.args.text.now c.bytes.i (omega arith) (sym c.begins_reference_at.ensures.value
    ∙ c.if-begins_reference_at.false) c.bytes.invariant
