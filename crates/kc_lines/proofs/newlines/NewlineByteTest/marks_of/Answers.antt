use Rattle.std.proofs.Common.{◌==◌, w8, arith}
use Rattle.std.proofs.lemmas.Simd.{bitmask_splat}
use Rattle.kc_lines.proofs.newlines.NewlineByteTest.marks_of.Goals as goal

pub returns : goal.returns
returns c = bitmask_splat w8 (λ a b. a == b) c.args.block 16 10 c.fits-block.0 (omega arith)
