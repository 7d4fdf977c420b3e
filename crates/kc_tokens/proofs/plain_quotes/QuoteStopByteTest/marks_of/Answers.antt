use Rattle.std.proofs.Common.{arith}
use Rattle.std.proofs.lemmas.Simd.{zip2_splat}
use Rattle.kc_value.proofs.BlockSteps.{either_lanes, mask_of_lanes}
use Rattle.kc_tokens.proofs.plain_quotes.QuoteStopByteTest.marks_of.Goals as goal

pub returns : goal.returns
returns c =
    let v = c.args.block in
    let long = c.fits-block.0 in
    mask_of_lanes _ v _ (omega arith) (either_lanes _ _ v (either_lanes _ _ v (zip2_splat _ v 16 _ long) (zip2_splat _ v 16 92 long)) (zip2_splat _ v 16 36 long))
