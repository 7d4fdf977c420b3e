use Rattle.kc_macro_lines.proofs.Common.{ℕ, leb, cond, length-chunk, chunk}
use Rattle.std.proofs.lemmas.Simd.{zip2_splat, zip2_splat_left, zip2_of_maps}
use Rattle.kc_macro_lines.proofs.MarkLemmas.{block_marked}
use Rattle.kc_macro_lines.proofs.marked_bytes.block_has_mark.Goals as goal

pub returns : goal.returns
returns c =
    let v = chunk c.args.at 16 c.args.text.now in
    let long = length-chunk c.args.at 16 c.args.text.now c.requires.room in
    block_marked c.args.text.now c.args.at c.requires.room c.type_inv.text _
    (zip2_of_maps _ _ _ v (zip2_splat _ v 16 36 long) (zip2_splat_left {X = ℕ} (λ a b. cond (leb a b) 255 0) 128 16 v long))
